use Rattle.std.proofs.Common.{◌≡◌, ◌+◌, ◌-◌, ◌≤◌, length}
use Rattle.text.specs.Search.{until}
use Rattle.utf8.specs.Octets.{scan, WellFormed}
use Rattle.utf8.proofs.texts.Utf8TextInput.position.Given as goal

abbrev pub invariant-loop-code : goal.invariant-loop-code
invariant-loop-code g l =
    let p = g.P.Predicate.holds l.predicate in
    (length l.rest ≤ length l.bytes)
    × WellFormed l.rest
    × (length l.bytes - length l.rest + until p (scan l.rest) ≡ until p (scan l.bytes))

abbrev pub decreases-loop-code : goal.decreases-loop-code
decreases-loop-code g l = length l.rest
