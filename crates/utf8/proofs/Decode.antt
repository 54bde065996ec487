-- A code point of a well-formed text, from its bytes with no test of them. Assumes nothing.
use Rattle.std.proofs.Common.{◌≡◌, ℕ, zero, suc, ◌+◌, ◌-◌, ◌*◌, ◌<◌, ◌≤◌, true, ◌⊎◌, List, [], ◌∷◌, length, get_or, drop, is_some, Some, None, Option, sym, refl, ap, ◌∙◌, arith}
use Rattle.std.proofs.lemmas.Bool.{false≢true}
use Rattle.std.proofs.lemmas.Bool.Decides.{nat_tests}
use Rattle.std.proofs.lemmas.List.{drop_more, length-drop}
use Rattle.text.specs.Cells.{Cell, total}
use Rattle.utf8.specs.Octets.{glue, char, tails_of, scan, WellFormed}
use Rattle.utf8.specs.Scans.{none≢some, read, follow_fits, char_fits, scan_none, scan_some}
use Rattle.utf8.proofs.Table.{row_sound, base_of}
use Rattle.utf8.proofs.Starts.{follow_range}

-- how many bytes follow, by the lead byte
pub tails_0 : (b : ℕ) → b < 0x80 → tails_of b ≡ 0
tails_0 b h = grind (arith, nat_tests)

pub tails_1 : (b : ℕ) → 0x80 ≤ b → b < 0xE0 → tails_of b ≡ 1
tails_1 b h k = grind (arith, nat_tests)

pub tails_2 : (b : ℕ) → 0xE0 ≤ b → b < 0xF0 → tails_of b ≡ 2
tails_2 b h k = grind (arith, nat_tests)

pub tails_3 : (b : ℕ) → 0xF0 ≤ b → tails_of b ≡ 3
tails_3 b h = grind (arith, nat_tests)

pub some_tails : (b : ℕ) → 0x80 ≤ b → 0 < tails_of b
some_tails b h = grind (arith, nat_tests)

pub two_tails : (b : ℕ) → 0xE0 ≤ b → 1 < tails_of b
two_tails b h = grind (arith, nat_tests)

some_from : {A : Type 0} (o : Option A) → is_some o ≡ true → (x : A) × (o ≡ Some x)
some_from None h = absurd (false≢true h)
some_from (Some x) h = (x, refl)

-- what is known of bytes that begin with a code point
pub record Starts (bs : List ℕ) : Type 0 where
  pub lead : (get_or bs 0 0 ≤ 0x7F) ⊎ (0xC0 ≤ get_or bs 0 0)
  pub fits : tails_of (get_or bs 0 0) < length bs
  pub tails : (k : ℕ) → 0 < k → k ≤ tails_of (get_or bs 0 0) → 0x80 ≤ get_or bs k 0
  pub gives : Some (glue (tails_of (get_or bs 0 0)) (get_or bs 0 0 - base_of (tails_of (get_or bs 0 0))) (drop 1 bs), suc (tails_of (get_or bs 0 0))) ≡ char bs

starts_by : (bs : List ℕ) (c : Cell) → char bs ≡ Some c → Starts bs
starts_by [] c is = absurd (none≢some c is)
starts_by (b ∷ bs) c is =
    let r = read b bs c is in
    let s = row_sound b r.row r.is in
    let n : r.row.tails ≡ tails_of b = s.count in
    let base : r.row.base ≡ base_of (tails_of b) = s.mark ∙ ap base_of n in
    let fit = follow_fits r.row.tails r.row.second.low r.row.second.high bs r.follows in
    let range = follow_range r.row.tails r.row.second.low r.row.second.high bs s.from s.to r.follows in
    record {
      lead = s.lead;
      fits = omega arith;
      tails = after_lead range (omega arith);
      gives =
          ap (λ x. Some (x, suc (tails_of b))) (sym (r.code ∙ ap (λ m. glue m (b - r.row.base) bs) n ∙ ap (λ z. glue (tails_of b) (b - z) bs) base))
          ∙ ap (λ w. Some (c.0, w)) (sym (r.width ∙ ap suc n))
          ∙ sym is;
    }
  where
    after_lead : {n m : ℕ} → ((k : ℕ) → k < n → (0x80 ≤ get_or bs k 0) × (get_or bs k 0 < 0xC0)) → m ≤ n → (k : ℕ) → 0 < k → k ≤ m → 0x80 ≤ get_or (b ∷ bs) k 0
    after_lead range few zero h k = absurd (omega arith)
    after_lead range few (suc j) h k = (range j (omega arith)).0

pub starts : (bs : List ℕ) → is_some (char bs) ≡ true → Starts bs
starts bs h = let s = some_from (char bs) h in starts_by bs s.0 s.1

-- the code of one, two, three and four bytes
module _ (bs : List ℕ) (here : Starts bs) where
  gives_of : (n : ℕ) → tails_of (get_or bs 0 0) ≡ n → Some (glue n (get_or bs 0 0 - base_of n) (drop 1 bs), suc (tails_of (get_or bs 0 0))) ≡ char bs
  gives_of n e = ap (λ m. Some (glue m (get_or bs 0 0 - base_of m) (drop 1 bs), suc (tails_of (get_or bs 0 0)))) (sym e) ∙ here.gives

  glue_on : (n code i : ℕ) → i < length bs → glue n (code * 64 + (get_or bs i 0 - 0x80)) (drop (i + 1) bs) ≡ glue (suc n) code (drop i bs)
  glue_on n code i h = sym (ap (glue (suc n) code) (drop_more bs i 0 h))

  pub code_1 : tails_of (get_or bs 0 0) ≡ 0 → Some (get_or bs 0 0, suc (tails_of (get_or bs 0 0))) ≡ char bs
  code_1 e = let z : get_or bs 0 0 ≡ get_or bs 0 0 - 0 = omega arith in ap (λ x. Some (x, suc (tails_of (get_or bs 0 0)))) z ∙ gives_of 0 e

  pub code_2 : tails_of (get_or bs 0 0) ≡ 1 → Some ((get_or bs 0 0 - 0xC0) * 64 + (get_or bs 1 0 - 0x80), suc (tails_of (get_or bs 0 0))) ≡ char bs
  code_2 e =
      let f = here.fits in
      ap (λ x. Some (x, suc (tails_of (get_or bs 0 0)))) (glue_on 0 (get_or bs 0 0 - 0xC0) 1 (omega arith)) ∙ gives_of 1 e

  pub code_3 : tails_of (get_or bs 0 0) ≡ 2 → Some (((get_or bs 0 0 - 0xE0) * 64 + (get_or bs 1 0 - 0x80)) * 64 + (get_or bs 2 0 - 0x80), suc (tails_of (get_or bs 0 0))) ≡ char bs
  code_3 e =
      let f = here.fits in
      ap (λ x. Some (x, suc (tails_of (get_or bs 0 0)))) (glue_on 0 ((get_or bs 0 0 - 0xE0) * 64 + (get_or bs 1 0 - 0x80)) 2 (omega arith) ∙ glue_on 1 (get_or bs 0 0 - 0xE0) 1 (omega arith))
      ∙ gives_of 2 e

  pub code_4 : tails_of (get_or bs 0 0) ≡ 3 → Some ((((get_or bs 0 0 - 0xF0) * 64 + (get_or bs 1 0 - 0x80)) * 64 + (get_or bs 2 0 - 0x80)) * 64 + (get_or bs 3 0 - 0x80), suc (tails_of (get_or bs 0 0))) ≡ char bs
  code_4 e =
      let f = here.fits in
      ap (λ x. Some (x, suc (tails_of (get_or bs 0 0))))
      (glue_on 0 (((get_or bs 0 0 - 0xF0) * 64 + (get_or bs 1 0 - 0x80)) * 64 + (get_or bs 2 0 - 0x80)) 3 (omega arith) ∙ glue_on 1 ((get_or bs 0 0 - 0xF0) * 64 + (get_or bs 1 0 - 0x80)) 2 (omega arith) ∙ glue_on 2 (get_or bs 0 0 - 0xF0) 1 (omega arith))
      ∙ gives_of 3 e

-- a step over the first code point of well-formed bytes
pub record Steps (bs : List ℕ) (c : Cell) : Type 0 where
  pub wide : 0 < c.1
  pub sum : length (drop c.1 bs) + c.1 ≡ length bs
  pub scans : scan bs ≡ c ∷ scan (drop c.1 bs)
  pub well : WellFormed (drop c.1 bs)

pub steps : (bs : List ℕ) (c : Cell) → WellFormed bs → Some c ≡ char bs → Steps bs c
steps bs c w e =
    let f = char_fits bs c (sym e) in
    let l = length-drop c.1 bs in
    let s = scan_some bs c (sym e) in
    let t = ap total s in
    record { wide = f.0; sum = omega arith; scans = s; well = omega arith }

-- bytes that are well-formed begin with a code point, unless there are none
pub well_some : (bs : List ℕ) → WellFormed bs → 0 < length bs → is_some (char bs) ≡ true
well_some bs w h = go (char bs) refl
  where
    go : (o : Option Cell) → char bs ≡ o → is_some (char bs) ≡ true
    go None k = let t = ap total (scan_none bs k) in absurd (omega arith)
    go (Some c) k = ap is_some k
