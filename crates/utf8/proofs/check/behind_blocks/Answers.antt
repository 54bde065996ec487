use Rattle.std.proofs.Common.{arith}
use Rattle.std.proofs.lemmas.List.{length-drop}
use Rattle.utf8.proofs.Steps.{scan_over}
use Rattle.utf8.proofs.check.behind_blocks.Goals as goal

pub returns : goal.returns
returns c =
    let blocks = c.well_formed_blocks.ensures in
    let over = scan_over c.args.bytes.now c.well_formed_blocks.result blocks.0 blocks.1 in
    let less = length-drop c.well_formed_blocks.result c.args.bytes.now in
    rw (c.split_at.ensures.back) (omega (arith, less), omega (arith, less, over, blocks.0))
