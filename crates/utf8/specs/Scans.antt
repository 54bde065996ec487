-- What the scan of a list of bytes comes to: no code point is empty, and each lies within the bytes. Assumes nothing.
use Rattle.std.specs.Prelude.{◌≡◌, ℕ, zero, suc, ◌-◌, ◌<◌, ◌≤◌, true, List, [], ◌∷◌, length, drop, Some, None, Option, refl}
use Rattle.std.proofs.Common.{suc-le-suc, sym, ap, ◌∙◌, arith}
use Rattle.std.proofs.lemmas.Bool.{and_parts, false≢true}
use Rattle.std.proofs.lemmas.Option.{cond_some}
pub use Rattle.std.proofs.lemmas.Option.{none-some as none≢some}
use Rattle.text.specs.Cells.{Cell, Solid, first, Lawful, Short}
use Rattle.utf8.specs.declared.rows.Row.{Row}
use Rattle.utf8.specs.Octets.{rows, inside, row_of, follow, led, char, push, scan_past, scan, WellFormed, glue}

-- the bytes that follow a lead byte are there, and in their ranges
pub follow_parts : (n lo hi b : ℕ) (bs : List ℕ) → follow (suc n) lo hi (b ∷ bs) ≡ true → (inside lo hi b ≡ true) × (follow n 0x80 0xBF bs ≡ true)
follow_parts n lo hi b bs e = and_parts (inside lo hi b) (follow n 0x80 0xBF bs) e

pub follow_fits : (n lo hi : ℕ) (bs : List ℕ) → follow n lo hi bs ≡ true → n ≤ length bs
follow_fits zero lo hi bs e = omega arith
follow_fits (suc n) lo hi [] e = absurd (false≢true e)
follow_fits (suc n) lo hi (b ∷ bs) e = suc-le-suc (follow_fits n 0x80 0xBF bs (follow_parts n lo hi b bs e).1)

-- how a code point is read
pub record Read (b : ℕ) (bs : List ℕ) (c : Cell) : Type 0 where
  pub row : Row
  pub is : row_of rows b ≡ Some row
  pub follows : follow row.tails row.second.low row.second.high bs ≡ true
  pub code : c.0 ≡ glue row.tails (b - row.base) bs
  pub width : c.1 ≡ suc row.tails

pub read : (b : ℕ) (bs : List ℕ) (c : Cell) → char (b ∷ bs) ≡ Some c → Read b bs c
read b bs c e = go (row_of rows b) refl
  where
    go : (o : Option Row) → row_of rows b ≡ o → Read b bs c
    go None k = absurd (none≢some c (sym (ap (λ o. led o b bs) k) ∙ e))
    go (Some r) k =
        let is : led (Some r) b bs ≡ Some c = sym (ap (λ o. led o b bs) k) ∙ e in
        let p = cond_some (follow r.tails r.second.low r.second.high bs) _ c is in
        record { row = r; is = k; follows = p.0; code = ap (λ p. p.0) (sym p.1); width = ap (λ p. p.1) (sym p.1) }

-- a code point takes some bytes, and they are there
pub char_fits : (bs : List ℕ) (c : Cell) → char bs ≡ Some c → (0 < c.1) × (c.1 ≤ length bs)
char_fits [] c e = absurd (none≢some c e)
char_fits (b ∷ bs) c e =
    let r = read b bs c e in
    let f = follow_fits _ _ _ bs r.follows in
    let w : c.1 ≡ suc r.row.tails = r.width in
    (omega arith, omega arith)

-- the scan, a code point at a time
scan_past_is : (n : ℕ) (bs : List ℕ) → scan_past n bs ≡ scan (drop n bs)
scan_past_is zero bs = refl
scan_past_is (suc n) [] = refl
scan_past_is (suc n) (b ∷ bs) = scan_past_is n bs

pub scan_none : (bs : List ℕ) → char bs ≡ None → scan bs ≡ []
scan_none [] e = refl
scan_none (b ∷ bs) e = ap (λ o. push o (λ c. scan_past (c.1 - 1) bs)) e

pub scan_some : (bs : List ℕ) (c : Cell) → char bs ≡ Some c → scan bs ≡ c ∷ scan (drop c.1 bs)
scan_some [] c e = absurd (none≢some c e)
scan_some (b ∷ bs) c e =
    let f = char_fits (b ∷ bs) c e in
    let w : suc (c.1 - 1) ≡ c.1 = omega arith in
    ap (λ o. push o (λ c. scan_past (c.1 - 1) bs)) e ∙ ap (λ l. c ∷ l) (scan_past_is (c.1 - 1) bs ∙ ap (λ n. scan (drop n (b ∷ bs))) w)

pub first-scan : (bs : List ℕ) → first (scan bs) ≡ char bs
first-scan [] = refl
first-scan (b ∷ bs) = go (char (b ∷ bs)) refl
  where
    go : (o : Option Cell) → char (b ∷ bs) ≡ o → first (scan (b ∷ bs)) ≡ char (b ∷ bs)
    go None e = ap first (scan_none (b ∷ bs) e) ∙ sym e
    go (Some c) e = ap first (scan_some (b ∷ bs) c e) ∙ sym e

-- no code point is empty
solid-push : (o : Option Cell) (k : Cell → List Cell) → ((c : Cell) → o ≡ Some c → (0 < c.1) × Solid (k c)) → Solid (push o k)
solid-push None k h = tt
solid-push (Some c) k h = h c refl

solid_past : (bs : List ℕ) (n : ℕ) → Solid (scan_past n bs)
solid_past [] zero = tt
solid_past [] (suc n) = tt
solid_past (b ∷ bs) (suc n) = solid_past bs n
solid_past (b ∷ bs) zero = solid-push (char (b ∷ bs)) _ (λ c e. ((char_fits (b ∷ bs) c e).0, solid_past bs (c.1 - 1)))

pub solid-scan : (bs : List ℕ) → Solid (scan bs)
solid-scan bs = solid_past bs 0

pub scan_lawful : (bs : List ℕ) → WellFormed bs → length bs ≤ 1048576 → Lawful (scan bs) bs
scan_lawful bs w h = record { solid = solid-scan bs; whole = w; few = h }

pub scan_short : (bs : List ℕ) → WellFormed bs → length bs ≤ 32 → Short (scan bs)
scan_short bs w h = record { solid = solid-scan bs; few = omega arith }
