-- What every sink keeps. Assumes nothing.
use Rattle.std.specs.Prelude.{ℕ, ◌≤◌, List, length}

-- the list is within the capacity, and that within the limit
pub record Bounded {I : Type 0} (list : List I) (places : ℕ) : Type 0 where
  pub within : length list ≤ places
  pub few : places ≤ 65536
