-- What a sheet's places and its length mean: a list and a capacity. Assumes nothing.
use Rattle.std.specs.Prelude.{ℕ, min, List, length, take}
use Rattle.std.proofs.Common.{arith, length-take}
use Rattle.sink.specs.Bounds.{Bounded}

-- the items are the first places, as many as the length says
abbrev pub sheet_list : {I : Type 0} → List I → ℕ → List I
sheet_list places len = take (min 65536 len) places

-- every place can hold an item, up to the limit
abbrev pub sheet_cap : {I : Type 0} → List I → ℕ
sheet_cap places = min 65536 (length places)

pub sheet_bounds : {I : Type 0} (places : List I) (len : ℕ) → Bounded (sheet_list places len) (sheet_cap places)
sheet_bounds places len = record { within = rw length-take (omega arith); few = omega arith }
