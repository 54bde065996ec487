-- Where a tag stands among the items of a span, said of lists alone: what the definitions of searching come to. Assumes nothing.
use Rattle.std.specs.Prelude.{◌≡◌, ℕ, suc, ◌<◌, ◌≤◌, Bool, true, false, List, [], ◌∷◌, ◌++◌, length, Some, None, Option, ◌≢◌, slice_index}
use Rattle.text.specs.Cells.{Cell, total}

-- whether the items begin with the tag's
abbrev pub Begins : List Cell → List Cell → Bool → Type 0
Begins cs ts true = (after : List Cell) × (cs ≡ ts ++ after)
Begins cs ts false = (after : List Cell) → cs ≢ ts ++ after

-- the tag's items stand among the items, after n bytes
abbrev pub Stands : List Cell → List Cell → ℕ → Type 0
Stands cs ts n = (before : List Cell) × (after : List Cell) × (cs ≡ before ++ (ts ++ after)) × (total before ≡ n)

-- the first place at which they stand, or that they stand nowhere
abbrev pub FirstPlace : List Cell → List Cell → Option ℕ → Type 0
FirstPlace cs ts (Some n) = Stands cs ts n × ((m : ℕ) → Stands cs ts m → n ≤ m)
FirstPlace cs ts None = (m : ℕ) → Stands cs ts m → ⊥

-- no item of a line ends it
abbrev pub Line : List Cell → Type 0
Line [] = Unit {0}
Line (c ∷ cs) = (c.0 ≢ 10) × Line cs

-- the items are so many lines, parted by items 10
pub data Lines : List Cell → ℕ → Type 0 where
  last : (cs : List Cell) → Line cs → Lines cs 1
  more : (cs rest : List Cell) (c : Cell) {n : ℕ} → Line cs → c.0 ≡ 10 → Lines rest n → Lines (cs ++ (c ∷ rest)) (suc n)

-- the byte b stands at n and nowhere before, unless n is the end
pub record FirstByte (bs : List ℕ) (b n : ℕ) : Type 0 where
  pub within : n ≤ length bs
  pub before : (k : ℕ) → k < n → slice_index bs k ≢ b
  pub here : n < length bs → slice_index bs n ≡ b
