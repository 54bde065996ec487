use Rattle.std.proofs.Common.{sym, ap, ◌∙◌, subst}
use Rattle.text.specs.Search.{matched}
use Rattle.utf8.specs.Octets.{scan, WellFormed}
use Rattle.utf8.proofs.Starts.{cut-scan, well_cut}
use Rattle.utf8.proofs.texts.Utf8TextInput.compare.Goals as goal

pub returns : goal.returns
returns c =
    let text = c.args.self.now in
    let tag = c.args.tag.now in
    c.compare_chars.ensures.items (subst WellFormed (sym c.bytes.ensures) (well_cut text.bytes.now text.span.start text.span.end text.well text.within)) tag.well
    ∙ ap (λ l. matched (scan l) (scan tag.bytes.now)) c.bytes.ensures
    ∙ ap (λ l. matched l (scan tag.bytes.now)) (sym (cut-scan text.bytes.now text.span.start text.span.end text.well text.within))
