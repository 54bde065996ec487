use Rattle.std.proofs.Common.{◌≤◌, ◌-◌, length}
use Rattle.text.specs.Need.{unknown}
use Rattle.text.specs.Search.{sliced}
use Rattle.text.proofs.Walking.{Slicing}
use Rattle.utf8.specs.Octets.{scan, WellFormed}
use Rattle.utf8.proofs.texts.Utf8TextInput.slice_index.Given as goal

abbrev pub invariant-loop : goal.invariant-loop
invariant-loop l =
    (length l.rest ≤ length l.bytes)
    × WellFormed l.rest
    × Slicing unknown (sliced unknown l.count (scan l.bytes)) (scan l.rest) (length l.bytes - length l.rest) (l.count - l.counter)
