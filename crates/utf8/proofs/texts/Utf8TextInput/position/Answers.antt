use Rattle.std.proofs.Common.{◌≡◌, ◌+◌, ◌-◌, ◌<◌, ◌≤◌, suc, length, get_or, sym, ap, ◌∙◌, subst, arith, rules}
use Rattle.std.proofs.lemmas.Bool.{cond-true, cond-false}
use Rattle.std.proofs.lemmas.List.{nil_from_length}
use Rattle.text.specs.Search.{until}
use Rattle.utf8.specs.Octets.{scan, WellFormed, tails_of}
use Rattle.utf8.proofs.Decode.{well_some, steps}
use Rattle.utf8.proofs.Starts.{cut-scan, well_cut}
use Rattle.utf8.proofs.texts.Utf8TextInput.position.Goals as goal
use Rattle.utf8.proofs.texts.Utf8TextInput.position.Goals.{else-loop-code-test, then-loop-code-test+then-test}

pub loop-code-init : goal.loop-code-init
loop-code-init g c =
    let text = c.args.self.now in
    (omega arith, subst WellFormed (sym c.bytes-bytes.ensures) (well_cut text.bytes.now text.span.start text.span.end text.well text.within), omega arith)

pub split_char-code-requires : goal.split_char-code-requires
split_char-code-requires g c =
    let some : 0 < length c.loop-code.rest.now = search rules in
    well_some _ c.loop-code.invariant.1 some

pub loop-code-preserved : goal.loop-code-preserved
loop-code-preserved g c =
    let p = g.P.Predicate.holds c.args.predicate.now in
    let rest = c.loop-code.rest.now in
    let on = steps rest (c.split_char-code.result.0, suc (tails_of (get_or rest 0 0))) c.loop-code.invariant.1 c.split_char-code.ensures.point in
    let missed = ap (until p) on.scans ∙ cond-false _ _ _ (sym c.if-test.ensures) in
    subst (λ l. (length l ≤ length c.bytes-bytes.result.now) × WellFormed l × (length c.bytes-bytes.result.now - length l + until p (scan l) ≡ until p (scan c.bytes-bytes.result.now))) (sym c.split_char-code.ensures.rest)
    (omega (arith, on.sum, c.loop-code.invariant.0), on.well, omega (arith, on.sum, missed, c.loop-code.invariant.0, c.loop-code.invariant.2))

pub returns : goal.returns
returns g c =
    let text = c.args.self.now in
    let p = g.P.Predicate.holds c.args.predicate.now in
    let rest = c.loop-code.rest.now in
    let here : until p (scan rest) ≡ 0 =
    elim c.loop-code-test.branch [
      | else-loop-code-test w ↦ let none : length rest ≡ 0 = search rules in ap (λ l. until p (scan l)) (nil_from_length rest none)
      | then-loop-code-test+then-test w ↦
          let on = steps rest (w.split_char-code.result.0, suc (tails_of (get_or rest 0 0))) c.loop-code.invariant.1 w.split_char-code.ensures.point in
          ap (until p) on.scans ∙ cond-true _ _ _ (sym w.if-test.ensures)
    ] in
    let value : length c.bytes-bytes.result.now - length rest ≡ until p (scan c.bytes-bytes.result.now) = omega (arith, here, c.loop-code.invariant.2) in
    value ∙ ap (λ l. until p (scan l)) c.bytes-bytes.ensures ∙ ap (until p) (sym (cut-scan text.bytes.now text.span.start text.span.end text.well text.within))
