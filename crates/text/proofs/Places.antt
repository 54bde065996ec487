-- What the definitions of searching and counting come to. Assumes nothing.
use Rattle.std.proofs.Common.{◌≡◌, ℕ, zero, suc, ◌+◌, ◌<◌, ◌≤◌, Bool, true, false, List, [], ◌∷◌, ◌++◌, get_or, Some, None, Option, sym, refl, ap, ◌∙◌, subst, ⊎_elim, arith}
use Rattle.std.proofs.lemmas.Bool.{cases_Bool, cases_lt, cases_eq, and_from, eq-eqb, ne_eqb, false≢true, both_ways, cond-true, cond-false}
use Rattle.text.specs.Cells.{Cell, total, singles}
use Rattle.text.specs.Search.{same, matched, begins, found, further, until, is, lines}
use Rattle.text.specs.Laws.{Begins, Stands, FirstPlace, Lines, last, more, FirstByte}
use Rattle.text.proofs.Matching.{same_parts, matched-same, matched_other, matched_empty, found_here}

pub same_self : (c : Cell) → same c c ≡ true
same_self c = and_from _ _ (eq-eqb c.0 c.0 refl) (eq-eqb c.1 c.1 refl)

pub same_from : (c t : Cell) → same c t ≡ true → c ≡ t
same_from c t h = let p = same_parts c t h in ap (λ x. (x, c.1)) p.0 ∙ ap (λ y. (t.0, y)) p.1

prefix : (cs ts : List Cell) → begins (matched cs ts) ≡ true → (after : List Cell) × (cs ≡ ts ++ after)
prefix cs [] h = (cs, refl)
prefix [] (t ∷ ts) h = absurd (false≢true h)
prefix (c ∷ cs) (t ∷ ts) h =
    ⊎_elim
    (λ b.
    let r = prefix cs ts (ap begins (sym (matched-same c t cs ts b)) ∙ h) in
    let e : c ≡ t = same_from c t b in
    let k = r.1 in
    (r.0, cc))
    (λ b. absurd (false≢true (ap begins (sym (matched_other c t cs ts b)) ∙ h)))
    (cases_Bool (same c t))

prefixed : (ts after : List Cell) → begins (matched (ts ++ after) ts) ≡ true
prefixed [] after = ap begins (matched_empty after)
prefixed (t ∷ ts) after = ap begins (matched-same t t (ts ++ after) ts (same_self t)) ∙ prefixed ts after

pub begins_law : (cs ts : List Cell) (b : Bool) → b ≡ begins (matched cs ts) → Begins cs ts b
begins_law cs ts true e = prefix cs ts (sym e)
begins_law cs ts false e = λ after k. false≢true (e ∙ ap (λ l. begins (matched l ts)) k ∙ prefixed ts after)

here : (cs ts : List Cell) → begins (matched cs ts) ≡ true → FirstPlace cs ts (Some 0)
here cs ts b = let p = prefix cs ts b in (([], p.0, p.1, refl), λ m s. omega arith)

-- a place past the first item
past : (c : Cell) (cs ts : List Cell) (m : ℕ) → begins (matched (c ∷ cs) ts) ≡ false → Stands (c ∷ cs) ts m → (k : ℕ) × Stands cs ts k × (c.1 + k ≡ m)
past c cs ts m b s = go s.0 s.2 s.3
  where
    go : (before : List Cell) → c ∷ cs ≡ before ++ (ts ++ s.1) → total before ≡ m → (k : ℕ) × Stands cs ts k × (c.1 + k ≡ m)
    go [] e t = absurd (both_ways (begins (matched (c ∷ cs) ts)) b (ap (λ l. begins (matched l ts)) e ∙ prefixed ts s.1))
    go (d ∷ before) e t =
        let head : c ≡ d = cc in
        let tail : cs ≡ before ++ (ts ++ s.1) = cc in
        (total before, (before, s.1, tail, refl), ap (λ x. x.1 + total before) head ∙ t)

none_stands : (ts : List Cell) (m : ℕ) → begins (matched [] ts) ≡ false → Stands [] ts m → ⊥
none_stands ts m b s = go s.0 s.2
  where
    go : (before : List Cell) → [] ≡ before ++ (ts ++ s.1) → ⊥
    go [] e = both_ways (begins (matched [] ts)) b (ap (λ l. begins (matched l ts)) e ∙ prefixed ts s.1)
    go (d ∷ before) e = let z : ◌≡◌ {A = ℕ} 0 1 = cc in omega arith

on : (c : Cell) (cs ts : List Cell) (o : Option ℕ) → begins (matched (c ∷ cs) ts) ≡ false → FirstPlace cs ts o → FirstPlace (c ∷ cs) ts (further c.1 o)
on c cs ts None b h = λ m s. let p = past c cs ts m b s in h p.0 p.1
on c cs ts (Some n) b h =
    let s = h.0 in
    let whole : c ∷ cs ≡ c ∷ (s.0 ++ (ts ++ s.1)) = ap (λ l. c ∷ l) s.2 in (
      (c ∷ s.0, s.1, whole, ap (λ k. c.1 + k) s.3),
      λ m q. let p = past c cs ts m b q in let l = h.1 p.0 p.1 in let e = p.2 in omega arith,
    )

found_law : (cs ts : List Cell) → FirstPlace cs ts (found cs ts)
found_law [] ts =
    ⊎_elim
    (λ b. subst (FirstPlace [] ts) (sym (found_here [] ts b)) (here [] ts b))
    (λ b. subst (FirstPlace [] ts) (sym (cond-false _ _ _ b)) (λ m s. none_stands ts m b s))
    (cases_Bool (begins (matched [] ts)))
found_law (c ∷ cs) ts =
    ⊎_elim
    (λ b. subst (FirstPlace (c ∷ cs) ts) (sym (found_here (c ∷ cs) ts b)) (here (c ∷ cs) ts b))
    (λ b. subst (FirstPlace (c ∷ cs) ts) (sym (cond-false _ _ _ b)) (on c cs ts (found cs ts) b (found_law cs ts)))
    (cases_Bool (begins (matched (c ∷ cs) ts)))

pub first_by : (cs ts : List Cell) (o : Option ℕ) → o ≡ found cs ts → FirstPlace cs ts o
first_by cs ts o e = subst (FirstPlace cs ts) (sym e) (found_law cs ts)

-- an item more at the front of the first line
longer : (c : Cell) (cs : List Cell) (n : ℕ) → (c.0 ≡ 10 → ⊥) → Lines cs n → Lines (c ∷ cs) n
longer c cs n h (last ds l) = last (c ∷ ds) (h, l)
longer c cs n h (more ds rest d l e r) = more (c ∷ ds) rest d (h, l) e r

lines_law : (cs : List Cell) → Lines cs (lines cs)
lines_law [] = last [] tt
lines_law (c ∷ cs) =
    ⊎_elim
    (λ e. subst (Lines (c ∷ cs)) (ap suc (sym (cond-true _ _ _ (eq-eqb c.0 10 e)))) (more [] cs c tt e (lines_law cs)))
    (λ h. subst (Lines (c ∷ cs)) (ap suc (sym (cond-false _ _ _ (ne_eqb c.0 10 h)))) (longer c cs (lines cs) h (lines_law cs)))
    (cases_eq c.0 10)

pub lines_by : (cs : List Cell) (n : ℕ) → n ≡ lines cs → Lines cs n
lines_by cs n e = subst (Lines cs) (sym e) (lines_law cs)

-- the first byte
first_byte : (bs : List ℕ) (b : ℕ) → FirstByte bs b (until (is b) (singles bs))
first_byte [] b = record { within = omega arith; before = λ k h. absurd (omega arith); here = λ h. absurd (omega arith) }
first_byte (x ∷ bs) b = ⊎_elim (λ e. now_here e) (λ h. later h (first_byte bs b)) (cases_eq x b)
  where
    now_here : x ≡ b → FirstByte (x ∷ bs) b (until (is b) (singles (x ∷ bs)))
    now_here e =
        subst (FirstByte (x ∷ bs) b) (sym (cond-true _ _ _ (eq-eqb x b e)))
        (record { within = omega arith; before = λ k h. absurd (omega arith); here = λ h. e })

    later : (x ≡ b → ⊥) → FirstByte bs b (until (is b) (singles bs)) → FirstByte (x ∷ bs) b (until (is b) (singles (x ∷ bs)))
    later h r =
        let n = until (is b) (singles bs) in
        let one : suc n ≡ 1 + n = omega arith in
        subst (FirstByte (x ∷ bs) b) (one ∙ sym (cond-false _ _ _ (ne_eqb x b h)))
        (record { within = omega (arith, r.within); before = before; here = λ l. r.here (omega arith) })
      where
        before : (k : ℕ) → k < suc (until (is b) (singles bs)) → get_or (x ∷ bs) k 0 ≡ b → ⊥
        before zero l e = h e
        before (suc k) l e = r.before k (omega arith) e

-- and no other place is
pub first_byte_only : (bs : List ℕ) (b n : ℕ) → FirstByte bs b n → n ≡ until (is b) (singles bs)
first_byte_only bs b n f =
    let m = until (is b) (singles bs) in
    let l = first_byte bs b in
    ⊎_elim (λ (low : n < m). absurd (l.before n low (f.here (omega (arith, l.within)))))
    (λ (high : m ≤ n). ⊎_elim (λ (low : m < n). absurd (f.before m low (l.here (omega (arith, f.within))))) (λ (le : n ≤ m). omega arith) (cases_lt m n))
    (cases_lt n m)
