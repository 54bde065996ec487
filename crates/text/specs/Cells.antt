-- A text by its items: the code of each and its width in bytes. Assumes nothing.
use Rattle.std.specs.Prelude.{◌≡◌, ℕ, zero, suc, ◌+◌, ◌-◌, ◌<◌, ◌≤◌, Bool, true, false, ◌&&◌, List, [], ◌∷◌, length, Some, None, Option, nat_le}
use Rattle.text.specs.declared.Span.{Span}

-- an item's code and its width in bytes
abbrev pub Cell : Type 0
Cell = ℕ × ℕ

-- the bytes that a list of items takes
abbrev pub total : List Cell → ℕ
total [] = 0
total (c ∷ cs) = c.1 + total cs

-- no item is empty
abbrev pub Solid : List Cell → Type 0
Solid [] = Unit {0}
Solid (c ∷ cs) = (0 < c.1) × Solid cs

-- whether an item starts at byte n, or the text ends there
abbrev pub boundary : List Cell → ℕ → Bool
boundary cs zero = true
boundary [] (suc n) = false
boundary (c ∷ cs) (suc n) = nat_le c.1 (suc n) && boundary cs (suc n - c.1)

-- the items from byte n on
abbrev pub after : ℕ → List Cell → List Cell
after zero cs = cs
after (suc n) [] = []
after (suc n) (c ∷ cs) = after (suc n - c.1) cs

-- the items that start below byte n
abbrev pub before : ℕ → List Cell → List Cell
before zero cs = []
before (suc n) [] = []
before (suc n) (c ∷ cs) = c ∷ before (suc n - c.1) cs

-- the items of the span from byte s to byte e
abbrev pub cut : List Cell → ℕ → ℕ → List Cell
cut cs s e = before (e - s) (after s cs)

-- the items of a span
abbrev pub part : List Cell → Span → List Cell
part cs s = cut cs s.start s.end

-- the span from s to e lies in the text, on item boundaries
abbrev pub Within : List Cell → ℕ → ℕ → Type 0
Within cs s e = (s ≤ e) × (boundary cs s ≡ true) × (boundary cs e ≡ true)

-- the first item
abbrev pub first : List Cell → Option Cell
first [] = None
first (c ∷ cs) = Some c

-- each byte an item
abbrev pub singles : List ℕ → List Cell
singles [] = []
singles (b ∷ bs) = (b, 1) ∷ singles bs

-- a text's items, none of them empty, take up its bytes, which are at most 1,048,576
pub record Lawful (cs : List Cell) (bs : List ℕ) : Type 0 where
  pub solid : Solid cs
  pub whole : total cs ≡ length bs
  pub few : length bs ≤ 1048576

-- a tag's items, none of them empty, take at most 32 bytes
pub record Short (cs : List Cell) : Type 0 where
  pub solid : Solid cs
  pub few : total cs ≤ 32
