use Rattle.std.proofs.Common.{◌-◌, sym, ap, ◌∙◌}
use Rattle.text.proofs.Cuts.{cut-total}
use Rattle.text.proofs.Input.input_len.Goals as goal

pub returns : goal.returns
returns g c =
    let input = c.args.self.now in
    let place = g.Self.Input.place input in
    c.len.ensures ∙ ap (λ s. s.end - s.start) c.span.ensures ∙ sym (cut-total (g.Self.Input.cells input) place.start place.end (g.met.Self.Input.within input))
