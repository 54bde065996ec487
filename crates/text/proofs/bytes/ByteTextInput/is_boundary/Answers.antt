use Rattle.std.proofs.Common.{sym}
use Rattle.text.specs.Singles.{boundary-singles}
use Rattle.text.proofs.bytes.ByteTextInput.is_boundary.Goals as goal

pub returns : goal.returns
returns c = sym (boundary-singles c.args.self.now.bytes.now c.args.at)
