use Rattle.std.proofs.Common.{◌≡◌, ◌-◌}
use Rattle.text.specs.Cells.{part}
use Rattle.text.specs.Search.{lines, is}
use Rattle.text.proofs.Walking.{Counting}
use Rattle.text.proofs.items.count_lines.Given as goal

abbrev pub invariant-loop-width : goal.invariant-loop-width
invariant-loop-width g l =
    let cells = g.T.Input.cells l.input in
    let all = g.T.Input.place l.input in
    let rest = g.T.Input.place l.rest in
    (g.T.Input.cells l.rest ≡ cells) × (rest.end ≡ all.end) × Counting (is 10) cells all.end (g.met.T.Input.lawful l.input).solid (lines (part cells all)) rest.start l.count

abbrev pub decreases-loop-width : goal.decreases-loop-width
decreases-loop-width g l = (g.T.Input.place l.rest).end - (g.T.Input.place l.rest).start
