use Rattle.std.proofs.Common.{sym}
use Rattle.text.specs.Singles.{total-singles}
use Rattle.text.proofs.bytes.ByteTextInput.text_len.Goals as goal

pub returns : goal.returns
returns c = sym (total-singles c.args.self.now.bytes.now)
