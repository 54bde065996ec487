use Rattle.std.proofs.Common.{◌≡◌, true, get_or, length, sym, ap, ◌∙◌, arith, rules}
use Rattle.text.specs.Cells.{singles}
use Rattle.text.specs.Search.{until}
use Rattle.text.specs.Singles.{cut-singles}
use Rattle.text.proofs.Walking.{byte_here, byte_end}
use Rattle.text.proofs.bytes.ByteTextInput.position.Goals as goal

pub returns-then-test : goal.returns-then-test
returns-then-test g c =
    let p = g.P.Predicate.holds c.args.predicate.now in
    let bs = c.bytes-bytes.result.now in
    let span = c.args.self.now.span in
    let met : p (get_or bs c.loop-at.at 0) ≡ true = search rules in
    let value : c.loop-at.at ≡ until p (singles bs) = omega (arith, byte_here p bs c.loop-at.at c.loop-at-test.true met, c.loop-at.invariant) in
    value ∙ ap (until p) (ap singles c.bytes-bytes.ensures ∙ sym (cut-singles c.args.self.now.bytes.now span.start span.end))

pub returns : goal.returns
returns g c =
    let p = g.P.Predicate.holds c.args.predicate.now in
    let bs = c.bytes-bytes.result.now in
    let span = c.args.self.now.span in
    let at_end : c.loop-at.at ≡ length bs = search rules in
    let value : length bs ≡ until p (singles bs) = omega (arith, byte_end p bs c.loop-at.at (omega arith), c.loop-at.invariant) in
    value ∙ ap (until p) (ap singles c.bytes-bytes.ensures ∙ sym (cut-singles c.args.self.now.bytes.now span.start span.end))
