use Rattle.std.proofs.Common.{◌≡◌, sym, ap, ◌∙◌, rules}
use Rattle.text.specs.Cells.{singles}
use Rattle.text.specs.Search.{until, is}
use Rattle.text.specs.Singles.{cut-singles}
use Rattle.text.proofs.bytes.ByteTextInput.position_of.Goals as goal

pub returns-in-Ok : goal.returns-in-Ok
returns-in-Ok c =
    let span = c.args.self.now.span in
    let same : c.in-Ok.byte ≡ c.args.code = search rules in
    c.find_byte.ensures.value ∙ ap (λ n. until (is n) (singles c.bytes.result.now)) same ∙ ap (until (is c.args.code)) (ap singles c.bytes.ensures ∙ sym (cut-singles c.args.self.now.bytes.now span.start span.end))
