use Rattle.std.proofs.Common.{sym, ap, ◌∙◌}
use Rattle.text.specs.Cells.{singles}
use Rattle.text.specs.Search.{matched}
use Rattle.text.specs.Singles.{cut-singles}
use Rattle.text.proofs.bytes.ByteTextInput.compare.Goals as goal

pub returns : goal.returns
returns c =
    let span = c.args.self.now.span in
    c.compare_bytes.ensures ∙ ap (λ l. matched l (singles c.args.tag.now.bytes.now)) (ap singles c.bytes.ensures ∙ sym (cut-singles c.args.self.now.bytes.now span.start span.end))
