use Rattle.std.proofs.Common.{◌≡◌, ◌+◌, ◌-◌, ◌≤◌, length}
use Rattle.text.specs.Cells.{total}
use Rattle.utf8.specs.Octets.{scan}
use Rattle.utf8.proofs.check.valid_up_to.Given as goal

abbrev pub invariant-loop-width : goal.invariant-loop-width
invariant-loop-width l =
    (length l.rest ≤ length l.bytes) × (length l.bytes - length l.rest + total (scan l.rest) ≡ total (scan l.bytes))

abbrev pub decreases-loop-width : goal.decreases-loop-width
decreases-loop-width l = length l.rest
