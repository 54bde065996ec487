-- Items against a tag's items, and the search for a tag. Assumes nothing.
use Rattle.std.proofs.Common.{◌≡◌, ℕ, ◌+◌, ◌-◌, ◌≤◌, Bool, true, false, ◌&&◌, cond, eqb, ◌⊎◌, List, [], ◌∷◌, length, Some, None, Option, sym, refl, ap, ◌∙◌, subst, inl, inr, ⊎_elim, add-zero, arith}
use Rattle.std.proofs.lemmas.Bool.{cases_lt, cases_eq, cases_Bool, and_parts, and_left, eq-eqb, ne_eqb, eqb-true, false≢true, cond-true, cond-false}
use Rattle.std.specs.List.{starts_with}
use Rattle.text.specs.declared.CompareResult.{CompareResult}
use Rattle.text.specs.declared.CompareResult.TheVariants as compared
use Rattle.text.specs.Cells.{Cell, total, Solid, cut, Within, first, singles}
use Rattle.text.specs.Search.{same, matched, begins, found, further, until, is, code_of}
use Rattle.text.proofs.Cuts.{On, cut_step, cut_end}
use Rattle.text.proofs.Walking.{along}

-- bytes against bytes, one on
matched_more : (x y : ℕ) (cs ts : List Cell) → x ≡ y → matched ((x, 1) ∷ cs) ((y, 1) ∷ ts) ≡ matched cs ts
matched_more x y cs ts e = rw (eq-eqb x y e) refl

matched_apart : (x y : ℕ) (cs ts : List Cell) → (x ≡ y → ⊥) → matched ((x, 1) ∷ cs) ((y, 1) ∷ ts) ≡ compared.Error
matched_apart x y cs ts h = let e = ne_eqb x y h in rw e refl

pub matched_empty : (cs : List Cell) → matched cs [] ≡ compared.Ok
matched_empty [] = refl
matched_empty (c ∷ cs) = refl

-- bytes that begin with a tag's bytes; that are a shorter prefix of them; and that are neither
pub bytes_begin : (xs ts : List ℕ) → starts_with eqb xs ts ≡ true → compared.Ok ≡ matched (singles xs) (singles ts)
bytes_begin xs [] h = sym (matched_empty (singles xs))
bytes_begin [] (t ∷ ts) h = absurd (false≢true h)
bytes_begin (x ∷ xs) (t ∷ ts) h =
    let p = and_parts _ _ h in
    bytes_begin xs ts p.1 ∙ sym (matched_more x t (singles xs) (singles ts) (sym (eqb-true t x p.0)))

-- the second part of a conjunction that fails, where the first holds
second_false : (a b : Bool) → a ≡ true → (a && b) ≡ false → b ≡ false
second_false true b e h = h
second_false false b e h = absurd (false≢true e)

pub bytes_short : (xs ts : List ℕ) → starts_with eqb xs ts ≡ false → starts_with eqb ts xs ≡ true → compared.Incomplete ≡ matched (singles xs) (singles ts)
bytes_short xs [] h k = absurd (false≢true (sym h))
bytes_short [] (t ∷ ts) h k = refl
bytes_short (x ∷ xs) (t ∷ ts) h k =
    let p = and_parts _ _ k in
    let e = eqb-true x t p.0 in
    bytes_short xs ts (second_false _ _ (eq-eqb t x (sym e)) h) p.1 ∙ sym (matched_more x t (singles xs) (singles ts) e)

pub bytes_apart : (xs ts : List ℕ) → starts_with eqb xs ts ≡ false → (starts_with eqb ts xs ≡ false) ⊎ (length ts ≤ length xs) → compared.Error ≡ matched (singles xs) (singles ts)
bytes_apart xs [] h k = absurd (false≢true (sym h))
bytes_apart [] (t ∷ ts) h k = ⊎_elim (λ e. absurd (false≢true (sym e))) (λ l. absurd (omega arith)) k
bytes_apart (x ∷ xs) (t ∷ ts) h k = ⊎_elim
    (λ e. bytes_apart xs ts (second_false _ _ (eq-eqb t x (sym e)) h) (⊎_elim (λ n. inl (second_false _ _ (eq-eqb x t e) n)) (λ l. inr (omega arith)) k) ∙ sym (matched_more x t (singles xs) (singles ts) e))
    (λ n. sym (matched_apart x t (singles xs) (singles ts) n))
    (cases_eq x t)

pub same_parts : (c d : Cell) → same c d ≡ true → (c.0 ≡ d.0) × (c.1 ≡ d.1)
same_parts c d h = let p = and_parts _ _ h in (eqb-true _ _ p.0, eqb-true _ _ p.1)

-- where the items of a match lie side by side, it goes on
pub matched-same : (c t : Cell) (cs ts : List Cell) → same c t ≡ true → matched (c ∷ cs) (t ∷ ts) ≡ matched cs ts
matched-same c t cs ts e = ap (λ b. cond b (matched cs ts) compared.Error) e

pub matched_other : (c t : Cell) (cs ts : List Cell) → same c t ≡ false → matched (c ∷ cs) (t ∷ ts) ≡ compared.Error
matched_other c t cs ts e = ap (λ b. cond b (matched cs ts) compared.Error) e

begins_ok : (r : CompareResult) → begins r ≡ true → r ≡ compared.Ok
begins_ok compared.Ok b = refl
begins_ok compared.Incomplete b = absurd (false≢true b)
begins_ok compared.Error b = absurd (false≢true b)

pub begins_not : (r : CompareResult) → (r ≡ compared.Ok → ⊥) → false ≡ begins r
begins_not compared.Ok h = absurd (h refl)
begins_not compared.Incomplete h = refl
begins_not compared.Error h = refl

error≢ok : compared.Error ≡ compared.Ok → ⊥
error≢ok e = false≢true (ap begins e)

-- what begins with a tag has room for it, on item boundaries
module _ (cs : List Cell) (e : ℕ) (solid : Solid cs) where
  matched_within : (ts : List Cell) (s : ℕ) → Within cs s e → matched (cut cs s e) ts ≡ compared.Ok → Within cs (s + total ts) e
  matched_within [] s w h = subst (λ x. Within cs x e) (sym (add-zero s)) w
  matched_within (t ∷ ts) s w h =
      ⊎_elim
      (λ k.
      let p = cut_step cs s e solid w k in
      let m : matched (p.cell ∷ p.rest) (t ∷ ts) ≡ compared.Ok = ap (λ l. matched l (t ∷ ts)) (sym p.is) ∙ h in
      ⊎_elim
      (λ b.
      let on : matched (cut cs (s + p.cell.1) e) ts ≡ compared.Ok = ap (λ l. matched l ts) p.next ∙ sym (matched-same p.cell t p.rest ts b) ∙ m in
      let r = matched_within ts (s + p.cell.1) p.within on in
      let wide = (same_parts p.cell t b).1 in
      let sum : s + p.cell.1 + total ts ≡ s + (t.1 + total ts) = omega arith in
      subst (λ x. Within cs x e) sum r)
      (λ b. absurd (error≢ok (sym (matched_other p.cell t p.rest ts b) ∙ m)))
      (cases_Bool (same p.cell t)))
      (λ k. let z : compared.Incomplete ≡ compared.Ok = sym (ap (λ l. matched l (t ∷ ts)) (cut_end cs s e k)) ∙ h in absurd (false≢true (ap begins z)))
      (cases_lt s e)

-- a search, one item on
pub found_here : (cs ts : List Cell) → begins (matched cs ts) ≡ true → found cs ts ≡ Some 0
found_here [] ts h = cond-true _ _ _ h
found_here (c ∷ cs) ts h = cond-true _ _ _ h

found_on : (c : Cell) (cs ts : List Cell) → begins (matched (c ∷ cs) ts) ≡ false → found (c ∷ cs) ts ≡ further c.1 (found cs ts)
found_on c cs ts h = cond-false _ _ _ h

pub found_empty : (cs : List Cell) → Some 0 ≡ found cs []
found_empty cs = sym (found_here cs [] (ap begins (matched_empty cs)))

further-further : (a b n : ℕ) (o : Option ℕ) → a + b ≡ n → further a (further b o) ≡ further n o
further-further a b n None e = refl
further-further a b n (Some x) e = let s : a + (b + x) ≡ n + x = omega arith in ap Some s

-- a tag whose first code is known begins with an item
starts : (code : ℕ) (spelt : List Cell) → Some code ≡ code_of (first spelt) → (t : Cell) × (ts : List Cell) × (spelt ≡ t ∷ ts) × (code ≡ t.0)
starts code [] h = absurd (let z : ◌≡◌ {A = ℕ} 0 1 = cc in omega arith)
starts code (t ∷ ts) h = (t, ts, refl, cc)

pub starts_not : (spelt : List Cell) → None ≡ code_of (first spelt) → spelt ≡ []
starts_not [] h = refl
starts_not (t ∷ ts) h = absurd (let z : ◌≡◌ {A = ℕ} 0 1 = cc in omega arith)

-- a search for `spelt` in the span from s to e, which comes out at `out`, has come to byte `at`
pub record Reached (cells spelt : List Cell) (s e : ℕ) (out : Option ℕ) (at : ℕ) : Type 0 where
  pub start : s ≤ at
  pub within : Within cells at e
  pub so_far : further (at - s) (found (cut cells at e) spelt) ≡ out

-- one item on
pub reach_on : (cells spelt : List Cell) (s e : ℕ) (out : Option ℕ) (at : ℕ) → Reached cells spelt s e out at → (c : Cell) → On cells at e c → begins (matched (cut cells at e) spelt) ≡ false → Reached cells spelt s e out (at + c.1)
reach_on cells spelt s e out at here c on b =
    let h : s ≤ at = here.start in
    let past : begins (matched (c ∷ cut cells (at + c.1) e) spelt) ≡ false = ap (λ l. begins (matched l spelt)) (sym on.cuts) ∙ b in
    let sum : at - s + c.1 ≡ at + c.1 - s = omega arith in
    record {
      start = omega arith;
      within = on.within;
      so_far =
          sym (further-further (at - s) c.1 (at + c.1 - s) (found (cut cells (at + c.1) e) spelt) sum)
          ∙ ap (further (at - s)) (sym (ap (λ l. found l spelt) on.cuts ∙ found_on c (cut cells (at + c.1) e) spelt past))
          ∙ here.so_far;
    }

module _ (cells spelt : List Cell) (s e : ℕ) (out : Option ℕ) (at : ℕ) (here : Reached cells spelt s e out at) where
  -- to the next item that has the tag's first code: no item before it begins with the tag
  pub reach_next : (code u : ℕ) → Solid cells → Some code ≡ code_of (first spelt) → u ≡ until (is code) (cut cells at e) → Reached cells spelt s e out (at + u)
  reach_next code u solid f k =
      let t = starts code spelt f in
      subst (Reached cells spelt s e out) (ap (λ u. at + u) (sym k)) (along (is code) cells e solid (Reached cells spelt s e out) (cut cells at e) at refl here.within here (λ x c on b r.
      let past : begins (matched (cut cells x e) spelt) ≡ false = ap (λ l. begins (matched l spelt)) on.cuts ∙ ap (λ m. begins (matched (c ∷ cut cells (x + c.1) e) m)) t.2 ∙ ap begins (matched_other c t.0 _ t.1 (and_left (eqb c.0 t.0.0) _ (ap (λ n. eqb c.0 n) (sym t.3) ∙ b))) in
      reach_on cells spelt s e out x r c on past))

  -- the tag is here, and lies inside the span
  pub found_now : begins (matched (cut cells at e) spelt) ≡ true → Some (at - s) ≡ out
  found_now b = ap Some (sym (add-zero (at - s))) ∙ ap (further (at - s)) (sym (found_here (cut cells at e) spelt b)) ∙ here.so_far

  pub found_inside : Solid cells → begins (matched (cut cells at e) spelt) ≡ true → Within cells (s + (at - s)) (s + (at - s) + total spelt) × (s + (at - s) + total spelt ≤ e)
  found_inside solid b =
      let w = matched_within cells e solid spelt at here.within (begins_ok _ b) in
      let back : at ≡ s + (at - s) = (let h : s ≤ at = here.start in omega arith) in
      subst (λ x. Within cells x (x + total spelt) × (x + total spelt ≤ e)) back ((omega arith, here.within.1, w.1), w.0)

  -- the span is at its end
  pub found_nowhere : cut cells at e ≡ [] → begins (matched (cut cells at e) spelt) ≡ false → None ≡ out
  found_nowhere z b =
      let none : found (cut cells at e) spelt ≡ None = ap (λ l. found l spelt) z ∙ cond-false _ _ _ (ap (λ l. begins (matched l spelt)) (sym z) ∙ b) in
      ap (further (at - s)) (sym none) ∙ here.so_far
