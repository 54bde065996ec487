-- The scan as the code walks it: the bytes after a lead byte, a code point at a time, and a part at a time. Assumes nothing.
use Rattle.std.proofs.Common.{◌≡◌, ℕ, zero, suc, ◌+◌, ◌-◌, ◌<◌, ◌≤◌, false, ◌&&◌, List, [], ◌∷◌, length, get_or, take, drop, Some, None, Option, sym, refl, ap, ◌∙◌, subst, ⊎_elim, arith}
use native.Mathlib.Nat.{sub-zero}
use Rattle.std.specs.Option.{option_map}
use Rattle.std.proofs.lemmas.Bool.{cases_Bool, cond-true}
use Rattle.std.proofs.lemmas.List.{drop_more, drop-drop, drop-take, take-take, length-drop, length-take-le}
use Rattle.text.specs.Cells.{Cell, total}
use Rattle.utf8.specs.declared.rows.Row.{Row}
use Rattle.utf8.specs.Octets.{rows, row_of, inside, follow, led, char, scan, WellFormed}
use Rattle.utf8.specs.Scans.{follow_fits, char_fits, scan_none, scan_some}
use Rattle.utf8.proofs.Starts.{scan_parts, char_local}
use Rattle.utf8.proofs.Table.{inside_yes}

-- the bytes after a lead byte, from byte i on
pub follow_short : (n lo hi : ℕ) (bs : List ℕ) → length bs < n → false ≡ follow n lo hi bs
follow_short n lo hi bs h =
    ⊎_elim (λ e. absurd (let k = follow_fits n lo hi bs e in omega arith)) sym (cases_Bool (follow n lo hi bs))

pub follow_on : (lo hi : ℕ) (bs : List ℕ) (i n : ℕ) → 0 < n → i < length bs → (inside lo hi (get_or bs i 0) && follow (n - 1) 0x80 0xBF (drop (i + 1) bs)) ≡ follow n lo hi (drop i bs)
follow_on lo hi bs i zero h l = absurd (omega arith)
follow_on lo hi bs i (suc n) h l =
    let k : suc n - 1 ≡ n = omega arith in
    ap (λ m. inside lo hi (get_or bs i 0) && follow m 0x80 0xBF (drop (i + 1) bs)) k ∙ sym (ap (follow (suc n) lo hi) (drop_more bs i 0 l))

ascii_row : Row
ascii_row = record { lead = record { low = 0x00; high = 0x7F }; tails = 0; second = record { low = 0x80; high = 0xBF }; base = 0x00 }

row_ascii : (b : ℕ) → b < 0x80 → row_of rows b ≡ Some ascii_row
unfolding rows ascii_row
row_ascii b h = cond-true _ _ _ (inside_yes 0x00 0x7F b (omega arith) (omega arith))

pub char_ascii : (b : ℕ) (bs : List ℕ) → b < 0x80 → char (b ∷ bs) ≡ Some (b, 1)
unfolding ascii_row
char_ascii b bs h = ap (λ o. led o b bs) (row_ascii b h) ∙ ap (λ n. Some (n, 1)) (sub-zero b)

-- over the code point that the bytes begin with, by its width
pub scan_on : (bs : List ℕ) (w : ℕ) → Some w ≡ option_map (λ (c : Cell). c.1) (char bs) → (0 < w) × (w ≤ length bs) × (total (scan bs) ≡ w + total (scan (drop w bs)))
scan_on bs w e = go (char bs) refl
  where
    go : (o : Option Cell) → char bs ≡ o → (0 < w) × (w ≤ length bs) × (total (scan bs) ≡ w + total (scan (drop w bs)))
    go None k = absurd (let z : Some w ≡ None = e ∙ ap (option_map (λ (c : Cell). c.1)) k in let n : ◌≡◌ {A = ℕ} 0 1 = cc in omega arith)
    go (Some c) k =
        let f = char_fits bs c k in
        let z : Some c.1 ≡ Some w = sym (e ∙ ap (option_map (λ (c : Cell). c.1)) k) in
        let same : c.1 ≡ w = cc in
        subst (λ n. (0 < n) × (n ≤ length bs) × (total (scan bs) ≡ n + total (scan (drop n bs)))) same (f.0, f.1, ap total (scan_some bs c k))

-- where they begin with none, they end
pub scan_stop : (bs : List ℕ) → None ≡ option_map (λ (c : Cell). c.1) (char bs) → total (scan bs) ≡ 0
scan_stop bs e = go (char bs) refl
  where
    go : (o : Option Cell) → char bs ≡ o → total (scan bs) ≡ 0
    go None k = ap total (scan_none bs k)
    go (Some c) k = absurd (let z : None ≡ Some c.1 = e ∙ ap (option_map (λ (c : Cell). c.1)) k in let n : ◌≡◌ {A = ℕ} 0 1 = cc in omega arith)

-- over a part that is well-formed
over : (cs : List Cell) (bs : List ℕ) (n : ℕ) → n ≤ length bs → scan (take n bs) ≡ cs → total cs ≡ n → total (scan bs) ≡ n + total (scan (drop n bs))
over [] bs n h e t =
    let none : total (scan bs) ≡ 0 + total (scan (drop 0 bs)) = omega arith in
    subst (λ m. total (scan bs) ≡ m + total (scan (drop m bs))) t none
over (c ∷ cs) bs n h e t =
    let p = scan_parts (take n bs) c cs e in
    let f = char_fits (take n bs) c p.0 in
    let l = length-take-le n bs h in
    let k : c.1 ≤ n = omega arith in
    let here : char bs ≡ Some c = char_local (take n bs) bs c p.0 (take-take c.1 n bs k) in
    let sum : n ≡ c.1 + (n - c.1) = omega arith in
    let on : drop c.1 (take n bs) ≡ take (n - c.1) (drop c.1 bs) = ap (λ m. drop c.1 (take m bs)) sum ∙ drop-take c.1 (n - c.1) bs in
    let d = length-drop c.1 bs in
    let r = over cs (drop c.1 bs) (n - c.1) (omega arith) (ap scan (sym on) ∙ p.1) (omega arith) in
    let last = ap (λ l. total (scan l)) (drop-drop (n - c.1) c.1 bs ∙ ap (λ m. drop m bs) (sym sum)) in
    let first = ap total (scan_some bs c here) in omega arith

pub scan_over : (bs : List ℕ) (n : ℕ) → n ≤ length bs → WellFormed (take n bs) → total (scan bs) ≡ n + total (scan (drop n bs))
scan_over bs n h w = over (scan (take n bs)) bs n h refl (w ∙ length-take-le n bs h)
