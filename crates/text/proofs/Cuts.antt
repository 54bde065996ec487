-- Spans of a list of items: one step on. Assumes nothing.
use Rattle.std.proofs.Common.{◌≡◌, ℕ, zero, suc, ◌+◌, ◌-◌, ◌<◌, ◌≤◌, true, false, ◌&&◌, leb, List, [], ◌∷◌, length, Some, None, sym, refl, ap, ◌∙◌, subst, ⊎_elim, zero-add, arith}
use native.Mathlib.Nat.{sub-zero, sub_self}
use Rattle.std.proofs.lemmas.Bool.{cases_lt, and_parts, and_from, leb-true, le-leb, false≢true}
use Rattle.text.specs.declared.Span.{Span}
use Rattle.text.specs.Cells.{Cell, total, Solid, boundary, after, before, cut, part, Within, first, Lawful}

pub boundary-step : (c : Cell) (cs : List Cell) (n : ℕ) → 0 < n → boundary (c ∷ cs) n ≡ (leb c.1 n && boundary cs (n - c.1))
boundary-step c cs zero h = absurd (omega arith)
boundary-step c cs (suc n) h = refl

pub after-step : (c : Cell) (cs : List Cell) (n : ℕ) → 0 < n → after n (c ∷ cs) ≡ after (n - c.1) cs
after-step c cs zero h = absurd (omega arith)
after-step c cs (suc n) h = refl

pub before-step : (c : Cell) (cs : List Cell) (n : ℕ) → 0 < n → before n (c ∷ cs) ≡ c ∷ before (n - c.1) cs
before-step c cs zero h = absurd (omega arith)
before-step c cs (suc n) h = refl

-- a boundary past the first item is past the whole of it
pub past_first : (c : Cell) (cs : List Cell) (n : ℕ) → 0 < n → boundary (c ∷ cs) n ≡ true → (c.1 ≤ n) × (boundary cs (n - c.1) ≡ true)
past_first c cs n h b =
    let p = and_parts _ _ (sym (boundary-step c cs n h) ∙ b) in
    (leb-true _ _ p.0, p.1)

pub boundary-total : (cs : List Cell) → Solid cs → boundary cs (total cs) ≡ true
boundary-total [] s = refl
boundary-total (c ∷ cs) s =
    boundary-step c cs (c.1 + total cs) (omega arith) ∙ and_from _ _ (le-leb c.1 (c.1 + total cs) (omega arith)) (let e : c.1 + total cs - c.1 ≡ total cs = omega arith in ap (boundary cs) e ∙ boundary-total cs s.1)

-- a boundary, seen from an earlier one
pub boundary-after : (cs : List Cell) (s e : ℕ) → boundary cs s ≡ true → s ≤ e → boundary cs e ≡ boundary (after s cs) (e - s)
boundary-after cs zero e b h = ap (boundary cs) (sym (sub-zero e))
boundary-after [] (suc s) e b h = absurd (false≢true b)
boundary-after (c ∷ cs) (suc s) e b h =
    let p = past_first c cs (suc s) (omega arith) b in
    boundary-step c cs e (omega arith) ∙ ap (λ t. t && boundary cs (e - c.1)) (le-leb c.1 e (omega arith)) ∙ boundary-after cs (suc s - c.1) (e - c.1) p.1 (omega arith) ∙ ap (boundary (after (suc s - c.1) cs)) (omega arith)

pub after-after : (cs : List Cell) (s n : ℕ) → boundary cs s ≡ true → after (s + n) cs ≡ after n (after s cs)
after-after cs zero n b = ap (λ k. after k cs) (zero-add n)
after-after [] (suc s) n b = absurd (false≢true b)
after-after (c ∷ cs) (suc s) n b =
    let p = past_first c cs (suc s) (omega arith) b in
    after-step c cs (suc s + n) (omega arith) ∙ ap (λ k. after k cs) (omega arith) ∙ after-after cs (suc s - c.1) n p.1

pub solid-after : (cs : List Cell) (s : ℕ) → Solid cs → Solid (after s cs)
solid-after cs zero h = h
solid-after [] (suc s) h = tt
solid-after (c ∷ cs) (suc s) h = solid-after cs (suc s - c.1) h.1

pub total-after : (cs : List Cell) (s : ℕ) → boundary cs s ≡ true → s + total (after s cs) ≡ total cs
total-after cs zero b = zero-add _
total-after [] (suc s) b = absurd (false≢true b)
total-after (c ∷ cs) (suc s) b =
    let p = past_first c cs (suc s) (omega arith) b in
    let r = total-after cs (suc s - c.1) p.1 in omega arith

pub total-before : (cs : List Cell) (n : ℕ) → boundary cs n ≡ true → total (before n cs) ≡ n
total-before cs zero b = refl
total-before [] (suc n) b = absurd (false≢true b)
total-before (c ∷ cs) (suc n) b =
    let p = past_first c cs (suc n) (omega arith) b in
    let r = total-before cs (suc n - c.1) p.1 in omega arith

-- one step into a span that is not empty
pub record Step (cs : List Cell) (s e : ℕ) : Type 0 where
  pub cell : Cell
  pub rest : List Cell
  pub is : cut cs s e ≡ cell ∷ rest
  pub wide : 0 < cell.1
  pub fits : s + cell.1 ≤ e
  pub within : Within cs (s + cell.1) e
  pub next : cut cs (s + cell.1) e ≡ rest

pub cut_end : (cs : List Cell) (s e : ℕ) → e ≤ s → cut cs s e ≡ []
cut_end cs s e h = let z : e - s ≡ 0 = omega arith in ap (λ n. before n (after s cs)) z

pub cut-total : (cs : List Cell) (s e : ℕ) → Within cs s e → total (cut cs s e) ≡ e - s
cut-total cs s e w = total-before (after s cs) (e - s) (sym (boundary-after cs s e w.1 w.0) ∙ w.2)

-- a boundary stays one, past a boundary
boundary_from : (cs : List Cell) (s n : ℕ) → boundary cs s ≡ true → boundary (after s cs) n ≡ true → boundary cs (s + n) ≡ true
boundary_from cs s n b h = boundary-after cs s (s + n) b (omega arith) ∙ ap (boundary (after s cs)) (omega arith) ∙ h

pub cut_step : (cs : List Cell) (s e : ℕ) → Solid cs → Within cs s e → s < e → Step cs s e
cut_step cs s e d w h = go (after s cs) refl
  where
    go : (r : List Cell) → after s cs ≡ r → Step cs s e
    go [] eq = absurd (false≢true (sym (boundary_nil (e - s) (omega arith)) ∙ ap (λ l. boundary l (e - s)) (sym eq) ∙ sym (boundary-after cs s e w.1 w.0) ∙ w.2))
      where
        boundary_nil : (n : ℕ) → 0 < n → boundary [] n ≡ false
        boundary_nil zero h = absurd (omega arith)
        boundary_nil (suc n) h = refl
    go (c ∷ r) eq =
        let far : boundary (c ∷ r) (e - s) ≡ true = ap (λ l. boundary l (e - s)) (sym eq) ∙ sym (boundary-after cs s e w.1 w.0) ∙ w.2 in
        let p = past_first c r (e - s) (omega arith) far in
        let d' : Solid (c ∷ r) = subst Solid eq (solid-after cs s d) in
        let pos : 0 < c.1 = d'.0 in
        let on : after (s + c.1) cs ≡ r = after-after cs s c.1 w.1 ∙ ap (after c.1) eq ∙ after-step c r c.1 pos ∙ ap (λ k. after k r) (sub_self c.1) in
        let here : boundary (c ∷ r) c.1 ≡ true = boundary-step c r c.1 pos ∙ and_from _ _ (le-leb _ _ (omega arith)) (ap (boundary r) (sub_self c.1)) in
        record {
          cell = c;
          rest = before (e - s - c.1) r;
          is = ap (before (e - s)) eq ∙ before-step c r (e - s) (omega arith);
          wide = pos;
          fits = omega arith;
          within = (omega arith, boundary_from cs s c.1 w.1 (ap (λ l. boundary l c.1) eq ∙ here), w.2);
          next = ap (before (e - (s + c.1))) on ∙ ap (λ k. before k r) (omega arith);
        }

-- the span's first item is c: what a step over it leaves
pub record On (cs : List Cell) (s e : ℕ) (c : Cell) : Type 0 where
  pub wide : 0 < c.1
  pub fits : s + c.1 ≤ e
  pub within : Within cs (s + c.1) e
  pub cuts : cut cs s e ≡ c ∷ cut cs (s + c.1) e

cut_nil : (cs : List Cell) → None ≡ first cs → cs ≡ []
cut_nil [] h = refl
cut_nil (c ∷ cs) h = absurd (let z : ◌≡◌ {A = ℕ} 0 1 = cc in omega arith)

pub item_end : (cs : List Cell) (s e : ℕ) → None ≡ first (cut cs s e) → cut cs s e ≡ []
item_end cs s e h = cut_nil (cut cs s e) h

pub item_on : (cs : List Cell) (s e : ℕ) (c : Cell) → Solid cs → Within cs s e → Some c ≡ first (cut cs s e) → On cs s e c
item_on cs s e c d w h = ⊎_elim ahead stop (cases_lt s e)
  where
    stop : e ≤ s → On cs s e c
    stop k = let x : Some c ≡ None = h ∙ ap first (cut_end cs s e k) in absurd (let z : ◌≡◌ {A = ℕ} 0 1 = cc in omega arith)

    ahead : s < e → On cs s e c
    ahead k =
        let t = cut_step cs s e d w k in
        let x : Some c ≡ Some t.cell = h ∙ ap first t.is in
        let same : t.cell ≡ c = cc in
        subst (On cs s e) same (record { wide = t.wide; fits = t.fits; within = t.within; cuts = t.is ∙ ap (λ l. t.cell ∷ l) (sym t.next) })

-- the whole text
before-all : (cs : List Cell) → Solid cs → before (total cs) cs ≡ cs
before-all [] d = refl
before-all (c ∷ cs) d =
    let z : c.1 + total cs - c.1 ≡ total cs = omega arith in
    before-step c cs (c.1 + total cs) (omega arith) ∙ ap (λ n. c ∷ before n cs) z ∙ ap (λ l. c ∷ l) (before-all cs d.1)

pub whole_cut : (cs : List Cell) → Solid cs → cut cs 0 (total cs) ≡ cs
whole_cut cs d = let z : total cs - 0 ≡ total cs = omega arith in ap (λ n. before n cs) z ∙ before-all cs d

pub whole_within : (cs : List Cell) → Solid cs → Within cs 0 (total cs)
whole_within cs d = (omega arith, refl, boundary-total cs d)

-- a span of a text ends where the text is still short
pub place_few : (cs : List Cell) (bs : List ℕ) (s : Span) → Lawful cs bs → Within cs s.start s.end → s.end ≤ 1048576
place_few cs bs s law w =
    let total = total-after cs s.end w.2 in
    omega (arith, law.whole, law.few)

-- no item is empty, so there are no more of them than bytes
length-before : (cs : List Cell) (n : ℕ) → Solid cs → length (before n cs) ≤ n
length-before cs zero d = omega arith
length-before [] (suc n) d = omega arith
length-before (c ∷ cs) (suc n) d = let r = length-before cs (suc n - c.1) d.1 in let w = d.0 in omega arith

pub part_few : (cs : List Cell) (bs : List ℕ) (s : Span) → Lawful cs bs → Within cs s.start s.end → length (part cs s) ≤ 1048576
part_few cs bs s law w =
    let few = place_few cs bs s law w in
    let shorter = length-before (after s.start cs) (s.end - s.start) (solid-after cs s.start law.solid) in omega arith
