use Rattle.std.proofs.Common.{◌-◌, ◌≤◌, length, take}
use Rattle.simdutf8.specs.Tracks.{HasRead}
use Rattle.utf8.specs.Octets.{WellFormed}
use Rattle.utf8.proofs.check.well_formed_blocks.Given as goal

abbrev pub invariant-loop-at : goal.invariant-loop-at
invariant-loop-at l =
    (l.at ≤ length l.bytes) × (l.good ≤ l.at) × HasRead l.checker (take l.at l.bytes) × WellFormed (take l.good l.bytes)

abbrev pub decreases-loop-at : goal.decreases-loop-at
decreases-loop-at l = length l.bytes - l.at
