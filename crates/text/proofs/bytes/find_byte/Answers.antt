use Rattle.std.proofs.Common.{rules}
use Rattle.text.specs.Laws.{FirstByte}
use Rattle.text.proofs.Places.{first_byte_only}
use Rattle.text.proofs.bytes.find_byte.Goals as goal

pub returns-clause-value : goal.returns-clause-value
returns-clause-value c =
    let first : FirstByte c.args.bytes.now c.args.byte c.unwrap_or.result = search rules in
    first_byte_only c.args.bytes.now c.args.byte c.unwrap_or.result first
