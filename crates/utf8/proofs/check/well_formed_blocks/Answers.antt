use Rattle.std.proofs.Common.{◌+◌, take, take-add, arith}
use Rattle.simdutf8.specs.Tracks.{HasRead}
use Rattle.utf8.proofs.Library.{well_from_IsUtf8}
use Rattle.utf8.proofs.check.well_formed_blocks.Goals as goal

pub loop-at-preserved-then-finish : goal.loop-at-preserved-then-finish
loop-at-preserved-then-finish c =
    let read : HasRead c.step-checker.result (take (c.loop-at.at + 64) c.args.bytes.now) = rw take-add (c.step-checker.ensures _ c.loop-at.invariant.2) in
    (omega arith, omega arith, read, well_from_IsUtf8 _ ((c.finish.ensures _ read).0 c.if-finish.true))

pub loop-at-preserved : goal.loop-at-preserved
loop-at-preserved c = (omega arith, omega (arith, c.loop-at.invariant.1), rw take-add (c.step-checker.ensures _ c.loop-at.invariant.2), c.loop-at.invariant.3)
