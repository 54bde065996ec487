use Rattle.std.proofs.Common.{◌≡◌, ◌-◌}
use Rattle.text.specs.Cells.{part}
use Rattle.text.specs.Search.{found}
use Rattle.text.proofs.Matching.{Reached}
use Rattle.text.proofs.search.find.Given as goal

abbrev pub invariant-loop-rest : goal.invariant-loop-rest
invariant-loop-rest g l =
    let cells = g.T.Input.cells l.input in
    let spelt = g.T.Tag.Needle.spelt l.tag in
    let all = g.T.Input.place l.input in
    let rest = g.T.Input.place l.rest in
    (g.T.Input.cells l.rest ≡ cells) × (rest.end ≡ all.end) × Reached cells spelt all.start all.end (found (part cells all) spelt) rest.start

abbrev pub decreases-loop-rest : goal.decreases-loop-rest
decreases-loop-rest g l = (g.T.Input.place l.rest).end - (g.T.Input.place l.rest).start
