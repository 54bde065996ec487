-- The table of lead bytes: its rule, which one test of the whole table shows. Assumes nothing.
use Rattle.std.proofs.Common.{◌≡◌, ℕ, ◌+◌, ◌-◌, ◌*◌, ◌<◌, ◌≤◌, Bool, true, false, cond, ◌&&◌, ◌||◌, eqb, ltb, leb, ◌⊎◌, List, [], ◌∷◌, Some, sym, refl, ap, ◌∙◌, subst, inl, inr, ⊎_elim, arith}
use mathlib.Core.List.{Memᴰ}
use Rattle.std.specs.List.{list_all}
use Rattle.std.proofs.lemmas.Bool.Decides.{nat_tests}
use Rattle.std.proofs.lemmas.Bool.{cases_Bool, and_parts, and_from, and_left, and_right, leb-true, ltb-true, le-leb, lt-leb, or_cases, eqb-true, cond-true, cond-false}
use Rattle.utf8.specs.declared.rows.Row.{Row}
use Rattle.utf8.specs.Octets.{rows, inside, row_of, tails_of}
use Rattle.utf8.specs.Scans.{none≢some}

pub inside_yes : (lo hi b : ℕ) → lo ≤ b → b ≤ hi → inside lo hi b ≡ true
inside_yes lo hi b h k = and_from _ _ (le-leb lo b h) (le-leb b hi k)

pub inside_no : (lo hi b : ℕ) → (b < lo) ⊎ (hi < b) → inside lo hi b ≡ false
inside_no lo hi b h = ⊎_elim (λ k. and_left _ _ (lt-leb lo b k)) (λ k. and_right (leb lo b) _ (lt-leb b hi k)) h

pub inside_bounds : (lo hi b : ℕ) → inside lo hi b ≡ true → (lo ≤ b) × (b ≤ hi)
inside_bounds lo hi b h = let p = and_parts _ _ h in (leb-true _ _ p.0, leb-true _ _ p.1)

-- what marks a lead byte that so many bytes follow
abbrev pub base_of : ℕ → ℕ
base_of n = cond (eqb n 0) 0 (cond (eqb n 1) 0xC0 (cond (eqb n 2) 0xE0 0xF0))

-- what the highest bits come to at the least, with those of the second byte
abbrev pub least : ℕ → ℕ
least n = cond (eqb n 1) 128 2

-- the rule of the table, as a test of one row
abbrev right : Row → Bool
right r =
    leb r.tails 3
    && (leb 0x80 r.second.low
    && (leb r.second.high 0xBF
    && (eqb r.base (base_of r.tails)
    && (leb r.base r.lead.low
    && ((leb r.lead.high 0x7F || leb 0xC0 r.lead.low)
    && (eqb (tails_of r.lead.low) r.tails
    && (eqb (tails_of r.lead.high) r.tails
    && (eqb r.tails 0 || leb (least r.tails) ((r.lead.low - r.base) * 64 + (r.second.low - 0x80))))))))))

table_right : list_all right rows ≡ true
unfolding rows
table_right = refl

-- more bytes follow a higher lead byte
tails_up : (a b : ℕ) → a ≤ b → tails_of a ≤ tails_of b
tails_up a b h = grind (arith, nat_tests)

-- what the test says of a lead byte of the row
pub record Sound (r : Row) (b : ℕ) : Type 0 where
  pub few : r.tails ≤ 3
  pub from : 0x80 ≤ r.second.low
  pub to : r.second.high ≤ 0xBF
  pub mark : r.base ≡ base_of r.tails
  pub based : r.base ≤ b
  pub lead : (b ≤ 0x7F) ⊎ (0xC0 ≤ b)
  pub count : r.tails ≡ tails_of b
  pub high : (r.tails ≡ 0) ⊎ (least r.tails ≤ (b - r.base) * 64 + (r.second.low - 0x80))

sound : (r : Row) (b : ℕ) → right r ≡ true → inside r.lead.low r.lead.high b ≡ true → Sound r b
sound r b h k =
    let i = inside_bounds r.lead.low r.lead.high b k in
    let p0 = and_parts _ _ h in
    let p1 = and_parts _ _ p0.1 in
    let p2 = and_parts _ _ p1.1 in
    let p3 = and_parts _ _ p2.1 in
    let p4 = and_parts _ _ p3.1 in
    let p5 = and_parts _ _ p4.1 in
    let p6 = and_parts _ _ p5.1 in
    let p7 = and_parts _ _ p6.1 in
    let low : r.base ≤ r.lead.low = leb-true _ _ p4.0 in
    let under = tails_up r.lead.low b i.0 in
    let over = tails_up b r.lead.high i.1 in
    let first = eqb-true (tails_of r.lead.low) r.tails p6.0 in
    let last = eqb-true (tails_of r.lead.high) r.tails p7.0 in
    record {
      few = leb-true _ _ p0.0;
      from = leb-true _ _ p1.0;
      to = leb-true _ _ p2.0;
      mark = eqb-true _ _ p3.0;
      based = omega arith;
      lead = ⊎_elim (λ e. inl (omega (arith, leb-true r.lead.high 0x7F e))) (λ e. inr (omega (arith, leb-true 0xC0 r.lead.low e))) (or_cases (leb r.lead.high 0x7F) (leb 0xC0 r.lead.low) p5.0);
      count = omega (arith, under, over, first, last);
      high = ⊎_elim (λ e. inl (eqb-true _ _ e)) (λ e. inr (omega (arith, leb-true (least r.tails) ((r.lead.low - r.base) * 64 + (r.second.low - 0x80)) e))) (or_cases (eqb r.tails 0) _ p7.1);
    }

-- the row of a byte is one of the table
pub listed_row : (b : ℕ) (r : Row) (rs : List Row) → row_of rs b ≡ Some r → Memᴰ r rs × (inside r.lead.low r.lead.high b ≡ true)
listed_row b r [] e = absurd (none≢some r e)
listed_row b r (x ∷ rs) e =
    ⊎_elim
    (λ k.
    let is : Some x ≡ Some r = sym (cond-true (inside x.lead.low x.lead.high b) (Some x) (row_of rs b) k) ∙ e in
    let s : r ≡ x = cc in
    (Memᴰ.head s, ap (λ y. inside y.lead.low y.lead.high b) s ∙ k))
    (λ k.
    let p = listed_row b r rs (sym (cond-false (inside x.lead.low x.lead.high b) (Some x) (row_of rs b) k) ∙ e) in
    (Memᴰ.tail p.0, p.1))
    (cases_Bool (inside x.lead.low x.lead.high b))

-- so a test that the whole table passes tells of that row
passes : (test : Row → Bool) (rs : List Row) (r : Row) → list_all test rs ≡ true → Memᴰ r rs → test r ≡ true
passes test [] r h m = elim m [ ]
passes test (x ∷ rs) r h (Memᴰ.head e) = ap test e ∙ (and_parts (test x) (list_all test rs) h).0
passes test (x ∷ rs) r h (Memᴰ.tail m) = passes test rs r (and_parts (test x) (list_all test rs) h).1 m

pub row_sound : (b : ℕ) (r : Row) → row_of rows b ≡ Some r → Sound r b
row_sound b r e = let m = listed_row b r rows e in sound r b (passes right rows r table_right m.0) m.1

-- a byte lies in one row at most
abbrev above : ℕ → List Row → Bool
above n rs = list_all (λ r. ltb n r.lead.low) rs

abbrev ordered : List Row → Bool
ordered [] = true
ordered (r ∷ rs) = above r.lead.high rs && ordered rs

table_ordered : ordered rows ≡ true
unfolding rows
table_ordered = refl

row_in : (b : ℕ) (r : Row) (rs : List Row) → ordered rs ≡ true → Memᴰ r rs → r.lead.low ≤ b → b ≤ r.lead.high → row_of rs b ≡ Some r
row_in b r [] h m l u = elim m [ ]
row_in b r (x ∷ rs) h (Memᴰ.head e) l u =
    subst (λ y. row_of (y ∷ rs) b ≡ Some r) e (cond-true _ _ _ (inside_yes r.lead.low r.lead.high b l u))
row_in b r (x ∷ rs) h (Memᴰ.tail m) l u =
    let p = and_parts (above x.lead.high rs) (ordered rs) h in
    let k = ltb-true x.lead.high r.lead.low (passes (λ r. ltb x.lead.high r.lead.low) rs r p.0 m) in
    cond-false _ _ _ (inside_no x.lead.low x.lead.high b (inr (omega arith))) ∙ row_in b r rs p.1 m l u

pub row_listed : (b : ℕ) (r : Row) → Memᴰ r rows → r.lead.low ≤ b → b ≤ r.lead.high → row_of rows b ≡ Some r
row_listed b r m l u = row_in b r rows table_ordered m l u
