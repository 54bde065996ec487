use Rattle.std.proofs.Common.{◌≡◌, Some, None, sym, ap, ◌∙◌, rules}
use Rattle.text.specs.Cells.{singles, first}
use Rattle.text.specs.Singles.{cut-singles, first_singles}
use Rattle.text.proofs.bytes.ByteTextInput.item.Goals as goal

pub returns-in_err-first : goal.returns-in_err-first
returns-in_err-first c =
    let span = c.args.self.now.span in
    let none : c.from_residual.result ≡ None = search rules in
    none ∙ first_singles _ _ c.in_err-first.ensures.value ∙ ap (λ l. first (singles l)) c.bytes.ensures ∙ ap first (sym (cut-singles c.args.self.now.bytes.now span.start span.end))

pub returns : goal.returns
returns c =
    let span = c.args.self.now.span in
    ap (λ n. Some (n, 1)) c.from.ensures ∙ first_singles _ _ c.in_ok-first.ensures.value ∙ ap (λ l. first (singles l)) c.bytes.ensures ∙ ap first (sym (cut-singles c.args.self.now.bytes.now span.start span.end))
