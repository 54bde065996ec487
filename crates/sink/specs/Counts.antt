-- What a counter's length means: a list of units. Assumes nothing.
use Rattle.std.specs.Prelude.{ℕ, ◌≤◌, List, replicate}
use Rattle.std.proofs.lemmas.List.{length-replicate}
use Rattle.sink.specs.Bounds.{Bounded}

-- as many units as the length says
abbrev pub units : ℕ → List (Unit {0})
units len = replicate len tt

-- what a counter keeps
pub units_bounds : (len places : ℕ)
    → len ≤ places → places ≤ 65536 → Bounded (units len) places
units_bounds len places within few = record { within = rw length-replicate within; few = few }
