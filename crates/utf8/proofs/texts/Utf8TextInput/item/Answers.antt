use Rattle.std.proofs.Common.{◌≡◌, ◌-◌, ◌<◌, Some, suc, length, get_or, sym, ap, ◌∙◌, subst, arith, rules}
use Rattle.std.proofs.lemmas.List.{nil_from_length}
use Rattle.text.specs.Cells.{first}
use Rattle.utf8.specs.Octets.{scan, WellFormed, tails_of}
use Rattle.utf8.specs.Scans.{first-scan}
use Rattle.utf8.proofs.Decode.{well_some, steps}
use Rattle.utf8.proofs.Starts.{cut-scan, well_cut}
use Rattle.utf8.proofs.texts.Utf8TextInput.item.Goals as goal

pub returns-then-is_empty : goal.returns-then-is_empty
returns-then-is_empty c =
    let text = c.args.self.now in
    let none : length c.bytes-bytes.result.now ≡ 0 = search rules in
    ap (λ l. first (scan l)) (sym (nil_from_length c.bytes-bytes.result.now none)) ∙ ap (λ l. first (scan l)) c.bytes-bytes.ensures ∙ ap first (sym (cut-scan text.bytes.now text.span.start text.span.end text.well text.within))

pub split_char-code-requires : goal.split_char-code-requires
split_char-code-requires c =
    let text = c.args.self.now in
    let some : 0 < length c.bytes-bytes.result.now = search rules in
    well_some _ (subst WellFormed (sym c.bytes-bytes.ensures) (well_cut text.bytes.now text.span.start text.span.end text.well text.within)) some

pub returns : goal.returns
returns c =
    let text = c.args.self.now in
    let part = c.bytes-bytes.result.now in
    let well = subst WellFormed (sym c.bytes-bytes.ensures) (well_cut text.bytes.now text.span.start text.span.end text.well text.within) in
    let on = steps part (c.split_char-code.result.0, suc (tails_of (get_or part 0 0))) well c.split_char-code.ensures.point in
    let width : length part - length c.split_char-code.result.1.now ≡ suc (tails_of (get_or part 0 0)) = omega (arith, ap length c.split_char-code.ensures.rest, on.sum) in
    ap (λ w. Some (c.split_char-code.result.0, w)) width ∙ c.split_char-code.ensures.point ∙ sym (first-scan part) ∙ ap (λ l. first (scan l)) c.bytes-bytes.ensures
    ∙ ap first (sym (cut-scan text.bytes.now text.span.start text.span.end text.well text.within))
