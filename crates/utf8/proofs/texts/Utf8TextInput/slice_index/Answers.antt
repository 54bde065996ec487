use Rattle.std.proofs.Common.{◌≡◌, ◌+◌, ◌-◌, ◌<◌, ◌≤◌, suc, length, get_or, drop, sym, ap, ◌∙◌, subst, arith, rules}
use Rattle.std.proofs.lemmas.List.{nil_from_length}
use Rattle.text.specs.Need.{unknown}
use Rattle.text.specs.Search.{sliced}
use Rattle.text.proofs.Walking.{Slicing, slicing_start, slicing_on, slicing_done, slicing_short}
use Rattle.utf8.specs.Octets.{scan, WellFormed, tails_of}
use Rattle.utf8.proofs.Decode.{well_some, steps}
use Rattle.utf8.proofs.Starts.{cut-scan, well_cut}
use Rattle.utf8.proofs.texts.Utf8TextInput.slice_index.Goals as goal

pub loop-init : goal.loop-init
loop-init c =
    let text = c.args.self.now in
    (omega arith, subst WellFormed (sym c.bytes-bytes.ensures) (well_cut text.bytes.now text.span.start text.span.end text.well text.within), slicing_start unknown _ _ c.args.count _ (omega arith) (omega arith))

pub returns-then-is_empty : goal.returns-then-is_empty
returns-then-is_empty c =
    let text = c.args.self.now in
    let none : length c.loop.rest.now ≡ 0 = search rules in
    slicing_short unknown _ _ _ _ c.loop.invariant.2 (ap scan (nil_from_length c.loop.rest.now none)) (omega arith)
    ∙ ap (λ l. sliced unknown c.args.count (scan l)) c.bytes-bytes.ensures
    ∙ ap (sliced unknown c.args.count) (sym (cut-scan text.bytes.now text.span.start text.span.end text.well text.within))

pub split_char-code-requires : goal.split_char-code-requires
split_char-code-requires c =
    let some : 0 < length c.loop.rest.now = search rules in
    well_some _ c.loop.invariant.1 some

pub loop-preserved : goal.loop-preserved
loop-preserved c =
    let bytes = c.bytes-bytes.result.now in
    let rest = c.loop.rest.now in
    let on = steps rest (c.split_char-code.result.0, suc (tails_of (get_or rest 0 0))) c.loop.invariant.1 c.split_char-code.ensures.point in
    let less : c.args.count - c.loop.counter - 1 ≡ c.args.count - (c.loop.counter + 1) = omega arith in
    let later = drop (suc (tails_of (get_or rest 0 0))) rest in
    let so_far = slicing_on unknown _ _ _ _ c.loop.invariant.2 _ _ on.scans (omega arith) (length bytes - length later) (omega (arith, on.sum, c.loop.invariant.0)) in
    subst (λ l. (length l ≤ length bytes) × WellFormed l × Slicing unknown (sliced unknown c.args.count (scan bytes)) (scan l) (length bytes - length l) (c.args.count - (c.loop.counter + 1))) (sym c.split_char-code.ensures.rest)
    (omega (arith, on.sum, c.loop.invariant.0), on.well, subst (Slicing unknown (sliced unknown c.args.count (scan bytes)) (scan later) (length bytes - length later)) less so_far)

pub returns : goal.returns
returns c =
    let text = c.args.self.now in
    slicing_done unknown _ _ _ _ c.loop.invariant.2 (omega arith) ∙ ap (λ l. sliced unknown c.args.count (scan l)) c.bytes-bytes.ensures
    ∙ ap (sliced unknown c.args.count) (sym (cut-scan text.bytes.now text.span.start text.span.end text.well text.within))
