-- Well-formed bytes by their code points: where these start, and what a span of them holds. Assumes nothing.
use Rattle.std.proofs.Common.{◌≡◌, ℕ, zero, suc, ◌+◌, ◌-◌, ◌*◌, ◌<◌, ◌≤◌, Bool, true, false, cond, ◌&&◌, eqb, ltb, leb, List, [], ◌∷◌, length, get_or, take, drop, Some, sym, refl, ap, ◌∙◌, ⊎_elim, arith}
use Rattle.std.proofs.lemmas.Bool.{cases_lt, cases_eq, and_left, le-leb, lt-leb, lt-ltb, le-ltb, eq-eqb, ne_eqb, or_left, or_right, or_from, false≢true, cond-true, cond-false}
use Rattle.std.proofs.lemmas.List.{drop-drop, length-drop, length-take-le, take-take, drop-take, get_or-drop, nil_from_length}
use Rattle.text.specs.Cells.{Cell, total, boundary, after, before, cut, Within, first}
use Rattle.text.proofs.Cuts.{past_first, boundary-after, total-after, cut-total}
use Rattle.utf8.specs.Octets.{inside, follow, glue, led, char, scan, WellFormed, leads}
use Rattle.utf8.specs.Scans.{none≢some, Read, read, follow_parts, char_fits, scan_some, first-scan}
use Rattle.utf8.proofs.Table.{row_sound, inside_bounds}

-- a scan, taken apart
pub scan_parts : (bs : List ℕ) (c : Cell) (cs : List Cell) → scan bs ≡ c ∷ cs → (char bs ≡ Some c) × (scan (drop c.1 bs) ≡ cs)
scan_parts bs c cs e =
    let p : char bs ≡ Some c = sym (first-scan bs) ∙ ap first e in
    let q : c ∷ scan (drop c.1 bs) ≡ c ∷ cs = sym (scan_some bs c p) ∙ e in
    (p, cc)

pub after-scan : (cs : List Cell) (bs : List ℕ) (n : ℕ) → scan bs ≡ cs → boundary cs n ≡ true → after n cs ≡ scan (drop n bs)
after-scan cs bs zero e b = sym e
after-scan [] bs (suc n) e b = absurd (false≢true b)
after-scan (c ∷ cs) bs (suc n) e b =
    let p = scan_parts bs c cs e in
    let q = past_first c cs (suc n) (omega arith) b in
    let k : c.1 + (suc n - c.1) ≡ suc n = omega arith in
    after-scan cs (drop c.1 bs) (suc n - c.1) p.1 q.1 ∙ ap scan (drop-drop (suc n - c.1) c.1 bs ∙ ap (λ m. drop m bs) k)

pub within_end : (cs : List Cell) (s e : ℕ) → Within cs s e → e ≤ total cs
within_end cs s e w = let t = total-after cs e w.2 in omega arith

-- the bytes after a lead byte start no code point
pub follow_range : (n lo hi : ℕ) (bs : List ℕ) → 0x80 ≤ lo → hi ≤ 0xBF → follow n lo hi bs ≡ true → (k : ℕ) → k < n → (0x80 ≤ get_or bs k 0) × (get_or bs k 0 < 0xC0)
follow_range zero lo hi bs l h e k m = absurd (omega arith)
follow_range (suc n) lo hi [] l h e k m = absurd (false≢true e)
follow_range (suc n) lo hi (b ∷ bs) l h e zero m =
    let i = inside_bounds lo hi b (follow_parts n lo hi b bs e).0 in (omega arith, omega arith)
follow_range (suc n) lo hi (b ∷ bs) l h e (suc k) m =
    follow_range n 0x80 0xBF bs (omega arith) (omega arith) (follow_parts n lo hi b bs e).1 k (omega arith)

-- whether a code point starts at byte n, or the text ends there, by the byte alone
abbrev pub lead_at : List ℕ → ℕ → Bool
lead_at bs n = cond (ltb n (length bs)) (leads (get_or bs n 0)) (eqb n (length bs))

lead_first : (b : ℕ) (bs : List ℕ) (c : Cell) → char (b ∷ bs) ≡ Some c → leads b ≡ true
lead_first b bs c e =
    let r = read b bs c e in
    ⊎_elim (λ k. or_left (ltb b 0x80) (leb 0xC0 b) (lt-ltb b 0x80 (omega arith))) (λ k. or_right (ltb b 0x80) (leb 0xC0 b) (le-leb 0xC0 b k)) (row_sound b r.row r.is).lead

lead_not : (b : ℕ) → 0x80 ≤ b → b < 0xC0 → leads b ≡ false
lead_not b l h = or_from (ltb b 0x80) (leb 0xC0 b) (le-ltb b 0x80 l) (lt-leb 0xC0 b h)

lead_inner : (bs : List ℕ) (c : Cell) (n : ℕ) → char bs ≡ Some c → suc n < c.1 → leads (get_or bs (suc n) 0) ≡ false
lead_inner [] c n e h = absurd (none≢some c e)
lead_inner (b ∷ bs) c n e h =
    let r = read b bs c e in
    let s = row_sound b r.row r.is in
    let w = r.width in
    let t = follow_range r.row.tails r.row.second.low r.row.second.high bs s.from s.to r.follows n (omega arith) in
    lead_not (get_or bs n 0) t.0 t.1

lead_at_drop : (bs : List ℕ) (w n : ℕ) → w ≤ n → w ≤ length bs → lead_at (drop w bs) (n - w) ≡ lead_at bs n
lead_at_drop bs w n h k =
    let l = length-drop w bs in
    let back : w + (n - w) ≡ n = omega arith in
    let same : get_or (drop w bs) (n - w) 0 ≡ get_or bs n 0 = get_or-drop w bs (n - w) 0 ∙ ap (λ m. get_or bs m 0) back in
    ⊎_elim
    (λ a. cond-true _ _ _ (lt-ltb (n - w) (length (drop w bs)) (omega arith)) ∙ ap leads same ∙ sym (cond-true _ _ _ (lt-ltb n (length bs) a)))
    (λ a.
    cond-false _ _ _ (le-ltb (n - w) (length (drop w bs)) (omega arith)) ∙ ⊎_elim
    (λ q. eq-eqb (n - w) (length (drop w bs)) (omega arith) ∙ sym (eq-eqb n (length bs) q))
    (λ q. ne_eqb (n - w) (length (drop w bs)) (λ z. q (omega arith)) ∙ sym (ne_eqb n (length bs) q))
    (cases_eq n (length bs)) ∙ sym (cond-false _ _ _ (le-ltb n (length bs) a)))
    (cases_lt n (length bs))

pub boundary-scan : (cs : List Cell) (bs : List ℕ) (n : ℕ) → scan bs ≡ cs → total cs ≡ length bs → boundary cs n ≡ lead_at bs n
boundary-scan [] bs zero e t = sym (ap (λ l. lead_at l 0) (nil_from_length bs (sym t)))
boundary-scan [] bs (suc n) e t = sym (ap (λ l. lead_at l (suc n)) (nil_from_length bs (sym t)) ∙ cond-false _ _ _ (le-ltb (suc n) 0 (omega arith)) ∙ ne_eqb (suc n) 0 (λ z. omega arith))
boundary-scan (c ∷ cs) [] zero e t = refl
boundary-scan (c ∷ cs) (b ∷ bs) zero e t =
    sym (cond-true _ _ _ (lt-ltb 0 (suc (length bs)) (omega arith)) ∙ lead_first b bs c (scan_parts (b ∷ bs) c cs e).0)
boundary-scan (c ∷ cs) bs (suc n) e t =
    let p = scan_parts bs c cs e in
    let f = char_fits bs c p.0 in
    let l = length-drop c.1 bs in
    ⊎_elim
    (λ a. and_left (leb c.1 (suc n)) _ (lt-leb c.1 (suc n) a) ∙ sym (cond-true _ _ _ (lt-ltb (suc n) (length bs) (omega arith)) ∙ lead_inner bs c n p.0 a))
    (λ a. ap (λ x. x && boundary cs (suc n - c.1)) (le-leb c.1 (suc n) a) ∙ boundary-scan cs (drop c.1 bs) (suc n - c.1) p.1 (omega arith) ∙ lead_at_drop bs c.1 (suc n) a f.1)
    (cases_lt (suc n) c.1)

-- a code point is told by its own bytes
pub same_head : (x y : ℕ) (xs ys : List ℕ) → x ∷ xs ≡ y ∷ ys → (x ≡ y) × (xs ≡ ys)
same_head x y xs ys e = (cc, cc)

nil≢cons : {A : Type 0} (x : A) (xs : List A) → [] ≡ x ∷ xs → ⊥
nil≢cons x xs e = let z : ◌≡◌ {A = ℕ} 0 1 = cc in omega arith

-- a function of n bytes and what follows them does not see what follows
module _ {A : Type 0} (F : ℕ → ℕ → ℕ → ℕ → List ℕ → A) where
  tails_local : ((lo hi code n x : ℕ) (xs ys : List ℕ) → ((lo hi code : ℕ) → F lo hi code n xs ≡ F lo hi code n ys) → F lo hi code (suc n) (x ∷ xs) ≡ F lo hi code (suc n) (x ∷ ys)) → ((lo hi code : ℕ) (xs ys : List ℕ) → F lo hi code 0 xs ≡ F lo hi code 0 ys) → (n : ℕ) (xs ys : List ℕ) → take n xs ≡ take n ys → (lo hi code : ℕ) → F lo hi code n xs ≡ F lo hi code n ys
  tails_local step stop zero xs ys e lo hi code = stop lo hi code xs ys
  tails_local step stop (suc n) [] [] e lo hi code = refl
  tails_local step stop (suc n) [] (y ∷ ys) e lo hi code = absurd (nil≢cons y (take n ys) e)
  tails_local step stop (suc n) (x ∷ xs) [] e lo hi code = absurd (nil≢cons x (take n xs) (sym e))
  tails_local step stop (suc n) (x ∷ xs) (y ∷ ys) e lo hi code =
      let p = same_head x y (take n xs) (take n ys) e in
      step lo hi code n x xs ys (tails_local step stop n xs ys p.1) ∙ ap (λ b. F lo hi code (suc n) (b ∷ ys)) p.0

follow_local : (n lo hi : ℕ) (xs ys : List ℕ) → take n xs ≡ take n ys → follow n lo hi xs ≡ follow n lo hi ys
follow_local n lo hi xs ys e =
    tails_local (λ lo hi code n bs. follow n lo hi bs) (λ lo hi code n x xs ys ih. ap (λ b. inside lo hi x && b) (ih 0x80 0xBF 0)) (λ lo hi code xs ys. refl) n xs ys e lo hi 0

glue_local : (n code : ℕ) (xs ys : List ℕ) → take n xs ≡ take n ys → glue n code xs ≡ glue n code ys
glue_local n code xs ys e =
    tails_local (λ lo hi code n bs. glue n code bs) (λ lo hi code n x xs ys ih. ih 0 0 (code * 64 + (x - 0x80))) (λ lo hi code xs ys. refl) n xs ys e 0 0 code

pub char_local : (xs ys : List ℕ) (c : Cell) → char xs ≡ Some c → take c.1 xs ≡ take c.1 ys → char ys ≡ Some c
char_local [] ys c e h = absurd (none≢some c e)
char_local (x ∷ xs) ys c e h = go ys (sym (ap (λ n. take n (x ∷ xs)) r.width) ∙ h ∙ ap (λ n. take n ys) r.width)
  where
    r : Read x xs c
    r = read x xs c e

    go : (ys : List ℕ) → x ∷ take r.row.tails xs ≡ take (suc r.row.tails) ys → char ys ≡ Some c
    go [] k = absurd (nil≢cons x (take r.row.tails xs) (sym k))
    go (y ∷ ys) k =
        let p = same_head x y (take r.row.tails xs) (take r.row.tails ys) k in
        let there : follow r.row.tails r.row.second.low r.row.second.high ys ≡ true = sym (follow_local r.row.tails r.row.second.low r.row.second.high xs ys p.1) ∙ r.follows in
        let code : glue r.row.tails (x - r.row.base) ys ≡ c.0 = sym (r.code ∙ glue_local r.row.tails (x - r.row.base) xs ys p.1) in
        ap (λ b. char (b ∷ ys)) (sym p.0) ∙ ap (λ o. led o x ys) r.is ∙ cond-true _ _ _ there ∙ ap (λ n. Some (n, suc r.row.tails)) code ∙ ap (λ n. Some (c.0, n)) (sym r.width)

pub before-scan : (cs : List Cell) (bs : List ℕ) (n : ℕ) → scan bs ≡ cs → boundary cs n ≡ true → before n cs ≡ scan (take n bs)
before-scan cs bs zero e b = refl
before-scan [] bs (suc n) e b = absurd (false≢true b)
before-scan (c ∷ cs) bs (suc n) e b =
    let p = scan_parts bs c cs e in
    let q = past_first c cs (suc n) (omega arith) b in
    let here : char (take (suc n) bs) ≡ Some c = char_local bs (take (suc n) bs) c p.0 (sym (take-take c.1 (suc n) bs q.0)) in
    let k : suc n ≡ c.1 + (suc n - c.1) = omega arith in
    let on : drop c.1 (take (suc n) bs) ≡ take (suc n - c.1) (drop c.1 bs) = ap (λ m. drop c.1 (take m bs)) k ∙ drop-take c.1 (suc n - c.1) bs in
    sym (scan_some (take (suc n) bs) c here ∙ ap (λ l. c ∷ scan l) on ∙ ap (λ l. c ∷ l) (sym (before-scan cs (drop c.1 bs) (suc n - c.1) p.1 q.1)))

-- a span's items are those of its bytes, which are well-formed
module _ (bs : List ℕ) (s e : ℕ) (well : WellFormed bs) (w : Within (scan bs) s e) where
  pub cut-scan : cut (scan bs) s e ≡ scan (take (e - s) (drop s bs))
  cut-scan =
      let here = after-scan (scan bs) bs s refl w.1 in
      let far : boundary (scan (drop s bs)) (e - s) ≡ true = ap (λ l. boundary l (e - s)) (sym here) ∙ sym (boundary-after (scan bs) s e w.1 w.0) ∙ w.2 in
      ap (before (e - s)) here ∙ before-scan (scan (drop s bs)) (drop s bs) (e - s) refl far

  pub well_cut : WellFormed (take (e - s) (drop s bs))
  well_cut =
      let far = within_end (scan bs) s e w in
      let l = length-drop s bs in
      ap total (sym cut-scan) ∙ cut-total (scan bs) s e w ∙ sym (length-take-le (e - s) (drop s bs) (omega arith))
