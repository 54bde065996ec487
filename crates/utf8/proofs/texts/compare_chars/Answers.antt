use Rattle.std.proofs.Common.{◌∙◌}
use Rattle.utf8.proofs.Bytewise.{matched-scan}
use Rattle.utf8.proofs.texts.compare_chars.Goals as goal

pub returns : goal.returns
returns c = record { bytes = c.compare_bytes.ensures; items = λ w v. c.compare_bytes.ensures ∙ matched-scan c.args.text.now c.args.tag.now w v }
