use Rattle.std.proofs.Common.{◌≡◌, ◌+◌, drop}
use Rattle.text.specs.Cells.{singles}
use Rattle.text.specs.Search.{until}
use Rattle.text.proofs.bytes.ByteTextInput.position.Given as goal

abbrev pub invariant-loop-at : goal.invariant-loop-at
invariant-loop-at g l =
    let p = g.P.Predicate.holds l.predicate in
    l.at + until p (singles (drop l.at l.bytes)) ≡ until p (singles l.bytes)
