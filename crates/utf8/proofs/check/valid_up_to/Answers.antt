use Rattle.std.proofs.Common.{arith}
use Rattle.std.proofs.lemmas.List.{length-drop}
use Rattle.utf8.proofs.Steps.{scan_on, scan_over}
use Rattle.utf8.proofs.check.valid_up_to.Goals as goal

pub loop-width-init : goal.loop-width-init
loop-width-init c =
    let ascii = c.ascii_front.ensures in
    let over = scan_over c.args.bytes.now c.ascii_front.result ascii.0 ascii.1 in
    let less = length-drop c.ascii_front.result c.args.bytes.now in
    rw (c.split_at.ensures.back) (omega (arith, less), omega (arith, less, over, ascii.0))

pub split_at-requires-in-loop-width : goal.split_at-requires-in-loop-width
split_at-requires-in-loop-width c = (scan_on c.behind_blocks-again.result.0.now c.in-Some.width c.in-Some.ensures).1

pub loop-width-preserved : goal.loop-width-preserved
loop-width-preserved c =
    let left = c.behind_blocks-again.result.0.now in
    let behind = c.behind_blocks-again.ensures in
    let on = scan_on left c.in-Some.width c.in-Some.ensures in
    let less = length-drop c.in-Some.width left in
    let before = c.loop-width.invariant in
    rw (c.split_at-in-loop-width.ensures.back) (omega (arith, less, on.1, behind.0, before.0), omega (arith, less, on.1, on.2, behind.0, behind.1, before.0, before.1))
