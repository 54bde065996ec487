-- Walks over the items of a span: to the first that meets a test, over so many, and counting. Assumes nothing.
use Rattle.std.proofs.Common.{◌≡◌, ℕ, zero, suc, ◌+◌, ◌-◌, ◌<◌, ◌≤◌, Bool, true, false, cond, leb, List, [], ◌∷◌, length, get_or, take, drop, Some, None, Ok, Err, Result, sym, refl, ap, ◌∙◌, subst, ⊎_elim, add-zero, zero-add, arith}
use native.Mathlib.Nat.{sub-zero}
use lib.Dec.{leb-zero, leb-suc-suc}
use Rattle.std.proofs.lemmas.Bool.{cases_Bool, cond-true, cond-false, le-leb, lt-leb}
use Rattle.std.proofs.lemmas.List.{drop_more, drop_all}
use Rattle.std.specs.List.{filter}
use Rattle.text.specs.declared.Needed.{Needed}
use Rattle.text.specs.Cells.{Cell, total, Solid, cut, Within, first, singles}
use Rattle.text.specs.Search.{until, sliced, counted}
use Rattle.text.proofs.Cuts.{On, item_on}

-- what lies at the end of a walk
module _ (p : ℕ → Bool) (cs : List Cell) (e : ℕ) (solid : Solid cs) where
  next : (c : Cell) (l : List Cell) (s : ℕ) → cut cs s e ≡ c ∷ l → Within cs s e → On cs s e c × (cut cs (s + c.1) e ≡ l)
  next c l s z w =
      let o = item_on cs s e c solid w (sym (ap first z)) in
      (o, let k : c ∷ cut cs (s + c.1) e ≡ c ∷ l = sym o.cuts ∙ z in cc)

  -- a fact of a place that holds at the span's start, and is kept over an item that fails the test
  pub along : (P : ℕ → Type 0) (l : List Cell) (s : ℕ) → cut cs s e ≡ l → Within cs s e → P s → ((at : ℕ) (c : Cell) → On cs at e c → p c.0 ≡ false → P at → P (at + c.1)) → P (s + until p l)
  along P [] s z w h k = subst P (sym (add-zero s)) h
  along P (c ∷ l) s z w h k =
      ⊎_elim
      (λ b. subst P (sym (add-zero s) ∙ ap (λ u. s + u) (sym (cond-true (p c.0) 0 (c.1 + until p l) b))) h)
      (λ b.
      let n = next c l s z w in
      let sum : s + c.1 + until p l ≡ s + (c.1 + until p l) = omega arith in
      subst P (sum ∙ ap (λ u. s + u) (sym (cond-false (p c.0) 0 (c.1 + until p l) b))) (along P l (s + c.1) n.1 n.0.within (k s c n.0 b h) k))
      (cases_Bool (p c.0))

  pub until_within : (s u : ℕ) → Within cs s e → u ≡ until p (cut cs s e) → Within cs (s + u) e
  until_within s u w k =
      subst (λ u. Within cs (s + u) e) (sym k) (along (λ x. Within cs x e) (cut cs s e) s refl w w (λ at c on b h. on.within))

  -- the item there meets the test
  meets : (l : List Cell) (s : ℕ) → cut cs s e ≡ l → Within cs s e → (c : Cell) → Some c ≡ first (cut cs (s + until p l) e) → p c.0 ≡ true
  meets [] s z w c h = absurd (let k : Some c ≡ None = h ∙ ap (λ x. first (cut cs x e)) (add-zero s) ∙ ap first z in let z : ◌≡◌ {A = ℕ} 0 1 = cc in omega arith)
  meets (d ∷ l) s z w c h =
      ⊎_elim
      (λ b.
      let u : until p (d ∷ l) ≡ 0 = cond-true _ _ _ b in
      let k : Some c ≡ Some d = h ∙ ap (λ x. first (cut cs (s + x) e)) u ∙ ap (λ x. first (cut cs x e)) (add-zero s) ∙ ap first z in
      let same : d ≡ c = cc in
      ap (λ x. p x.0) (sym same) ∙ b)
      (λ b.
      let n = next d l s z w in
      let u : until p (d ∷ l) ≡ d.1 + until p l = cond-false _ _ _ b in
      let sum : s + (d.1 + until p l) ≡ s + d.1 + until p l = omega arith in
      meets l (s + d.1) n.1 n.0.within c (h ∙ ap (λ x. first (cut cs (s + x) e)) u ∙ ap (λ x. first (cut cs x e)) sum))
      (cases_Bool (p d.0))

  pub until_meets : (s u : ℕ) → Within cs s e → u ≡ until p (cut cs s e) → (c : Cell) → Some c ≡ first (cut cs (s + u) e) → p c.0 ≡ true
  until_meets s u w k c h = meets (cut cs s e) s refl w c (h ∙ ap (λ x. first (cut cs (s + x) e)) k)

  -- a count of the items that meet the test, out of `all`, has come to byte `at`
  pub record Counting (all at count : ℕ) : Type 0 where
    pub within : Within cs at e
    pub few : count ≤ at + 1
    pub so_far : count + counted p (cut cs at e) ≡ all

  -- to the next such item: none is passed over
  pub count_next : (all at count u : ℕ) → Counting all at count → u ≡ until p (cut cs at e) → Counting all (at + u) count
  count_next all at count u here k =
      subst (λ u. Counting all (at + u) count) (sym k) (along (λ x. Counting all x count) (cut cs at e) at refl here.within here (λ x c on b r.
      let same : counted p (cut cs x e) ≡ counted p (cut cs (x + c.1) e) = ap (counted p) on.cuts ∙ cond-false _ _ _ b in
      record { within = on.within; few = omega (arith, r.few); so_far = omega (arith, same, r.so_far) }))

  -- over that item
  pub count_on : (all at count : ℕ) (c : Cell) → Counting all at count → On cs at e c → p c.0 ≡ true → Counting all (at + c.1) (count + 1)
  count_on all at count c here on b =
      let one : counted p (cut cs at e) ≡ suc (counted p (cut cs (at + c.1) e)) = ap (counted p) on.cuts ∙ cond-true _ _ _ b in
      record { within = on.within; few = omega (arith, here.few, on.wide); so_far = omega (arith, one, here.so_far) }

-- the same over bytes
module _ (p : ℕ → Bool) (bs : List ℕ) (at : ℕ) where
  pub byte_here : at < length bs → p (get_or bs at 0) ≡ true → until p (singles (drop at bs)) ≡ 0
  byte_here h b = ap (λ l. until p (singles l)) (drop_more bs at 0 h) ∙ cond-true _ _ _ b

  pub byte_end : length bs ≤ at → until p (singles (drop at bs)) ≡ 0
  byte_end h = ap (λ l. until p (singles l)) (drop_all at bs h)

length-singles : (bs : List ℕ) → length (singles bs) ≡ length bs
length-singles [] = refl
length-singles (b ∷ bs) = ap suc (length-singles bs)

take-singles : (n : ℕ) (bs : List ℕ) → n ≤ length bs → total (take n (singles bs)) ≡ n
take-singles zero bs h = refl
take-singles (suc n) [] h = absurd (omega arith)
take-singles (suc n) (b ∷ bs) h = let r = take-singles n bs (omega arith) in omega arith

-- a slice of bytes, by their number alone
module _ (lack : ℕ → Needed) (n len : ℕ) (bs : List ℕ) (e : length bs ≡ len) where
  pub sliced_enough : n ≤ len → sliced lack n (singles bs) ≡ Ok n
  sliced_enough h =
      let l = length-singles bs in
      cond-true _ _ _ (le-leb n (length (singles bs)) (omega arith)) ∙ ap Ok (take-singles n bs (omega arith))

  pub sliced_short : len < n → sliced lack n (singles bs) ≡ Err (lack (n - len))
  sliced_short h =
      let l = length-singles bs in
      cond-false _ _ _ (lt-leb n (length (singles bs)) (omega arith)) ∙ ap (λ k. Err (lack (n - k))) (l ∙ e)

-- a slice of items, one on: the answer, w bytes further
abbrev pub moved : ℕ → Result ℕ Needed → Result ℕ Needed
moved w (Ok n) = Ok (w + n)
moved w (Err e) = Err e

moved-moved : (a b n : ℕ) (r : Result ℕ Needed) → a + b ≡ n → moved a (moved b r) ≡ moved n r
moved-moved a b n (Ok x) e = let s : a + (b + x) ≡ n + x = omega arith in ap Ok s
moved-moved a b n (Err x) e = refl

sliced_on : (lack : ℕ → Needed) (n : ℕ) (c : Cell) (cs : List Cell) → 0 < n → sliced lack n (c ∷ cs) ≡ moved c.1 (sliced lack (n - 1) cs)
sliced_on lack zero c cs h = absurd (omega arith)
sliced_on lack (suc n) c cs h =
    let a : suc n - 1 ≡ n = omega arith in
    let b : suc n - suc (length cs) ≡ n - length cs = omega arith in
    rw (a, b, leb-suc-suc n (length cs)) (go (leb n (length cs)))
  where
    go : (b : Bool) → cond b (Ok (c.1 + total (take n cs))) (Err (lack (n - length cs))) ≡ moved c.1 (cond b (Ok (total (take n cs))) (Err (lack (n - length cs))))
    go true = refl
    go false = refl

-- a slice of items that comes out at `out` has `gone` bytes behind it, the items cs before it, and `left` items to go
abbrev pub Slicing : (ℕ → Needed) → Result ℕ Needed → List Cell → ℕ → ℕ → Type 0
Slicing lack out cs gone left = moved gone (sliced lack left cs) ≡ out

pub slicing_start : (lack : ℕ → Needed) (cs : List Cell) (gone n left : ℕ) → gone ≡ 0 → left ≡ n → Slicing lack (sliced lack n cs) cs gone left
slicing_start lack cs gone n left z e = ap (λ k. moved k (sliced lack left cs)) z ∙ ap (λ k. moved 0 (sliced lack k cs)) e ∙ unmoved (sliced lack n cs)
  where
    unmoved : (r : Result ℕ Needed) → moved 0 r ≡ r
    unmoved (Ok x) = ap Ok (zero-add x)
    unmoved (Err x) = refl

module _ (lack : ℕ → Needed) (out : Result ℕ Needed) (cs : List Cell) (gone left : ℕ) (here : Slicing lack out cs gone left) where
  pub slicing_on : (c : Cell) (rest : List Cell) → cs ≡ c ∷ rest → 0 < left → (n : ℕ) → gone + c.1 ≡ n → Slicing lack out rest n (left - 1)
  slicing_on c rest e h n sum =
      sym (moved-moved gone c.1 n (sliced lack (left - 1) rest) sum) ∙ ap (moved gone) (sym (ap (sliced lack left) e ∙ sliced_on lack left c rest h)) ∙ here

  pub slicing_done : left ≡ 0 → Ok gone ≡ out
  slicing_done none =
      let zero : sliced lack left cs ≡ Ok 0 = ap (λ n. sliced lack n cs) none ∙ cond-true _ _ _ (leb-zero (length cs)) in
      ap Ok (sym (add-zero gone)) ∙ ap (moved gone) (sym zero) ∙ here

  pub slicing_short : cs ≡ [] → 0 < left → Err (lack left) ≡ out
  slicing_short z h =
      let short : sliced lack left cs ≡ Err (lack left) = ap (sliced lack left) z ∙ cond-false _ _ _ (lt-leb left 0 h) ∙ ap (λ n. Err (lack n)) (sub-zero left) in
      ap (moved gone) (sym short) ∙ here

-- counting is what the library's filter leaves
pub counted-filter : (p : ℕ → Bool) (cs : List Cell) → counted p cs ≡ length (filter (λ c. p c.0) cs)
counted-filter p [] = refl
counted-filter p (c ∷ cs) = ⊎_elim
    (λ t. cond-true _ _ _ t ∙ ap suc (counted-filter p cs) ∙ ap length (sym (cond-true _ _ _ t)))
    (λ f. cond-false _ _ _ f ∙ counted-filter p cs ∙ ap length (sym (cond-false _ _ _ f)))
    (cases_Bool (p c.0))
