use Rattle.std.proofs.Common.{◌+◌, ap, ◌∙◌, arith}
use Rattle.text.specs.Cells.{part}
use Rattle.text.specs.Search.{is, counted, lines}
use Rattle.text.proofs.Cuts.{On, item_on, item_end, place_few}
use Rattle.text.proofs.Walking.{Counting, count_next, count_on, until_meets}
use Rattle.text.proofs.Places.{lines_by}
use Rattle.text.proofs.items.count_lines.Given as given
use Rattle.text.proofs.items.count_lines.Goals as goal
use Rattle.text.proofs.items.count_lines.Goals.{After-position_of, In-Some}

-- the line end that comes next, or the span's end
next : (g : given.Over) (c : After-position_of g)
    → Counting (is 10) (g.T.Input.cells c.args.input.now) (g.T.Input.place c.args.input.now).end (g.met.T.Input.lawful c.args.input.now).solid (lines (part (g.T.Input.cells c.args.input.now) (g.T.Input.place c.args.input.now))) ((g.T.Input.place c.loop-width.rest).start + c.position_of.result) c.loop-width.count
next g c =
    let so_far = c.loop-width.invariant in
    count_next _ _ _ _ _ _ _ _ so_far.2 (rw (so_far.0, so_far.1) at c.position_of.ensures)

pub take_from-rest-requires : goal.take_from-rest-requires
take_from-rest-requires g c =
    let so_far = c.loop-width.invariant in
    rw (so_far.0, so_far.1) (next g c).within

-- the item there
step : (g : given.Over) (c : In-Some g)
    → On (g.T.Input.cells c.args.input.now) ((g.T.Input.place c.loop-width.rest).start + c.position_of.result) (g.T.Input.place c.args.input.now).end (c.in-Some.field-0-0, c.in-Some.width)
step g c =
    let so_far = c.loop-width.invariant in
    let there = count_next _ _ _ _ _ _ _ _ so_far.2 (rw (so_far.0, so_far.1) at c.position_of.ensures) in
    item_on _ _ _ _ (g.met.T.Input.lawful c.args.input.now).solid there.within (rw (c.take_from-rest.ensures.cells, c.take_from-rest.ensures.place, so_far.0, so_far.1) at c.in-Some.ensures)

pub take_from-rest-requires-in-loop-width : goal.take_from-rest-requires-in-loop-width
take_from-rest-requires-in-loop-width g c =
    let so_far = c.loop-width.invariant in
    rw (c.take_from-rest.ensures.cells, c.take_from-rest.ensures.place, so_far.0, so_far.1) (step g (goal.at.take_from-rest-requires-in-loop-width g c).In-Some).within

-- the text is short, so that no count wraps
pub overflow_add-count : goal.overflow_add-count
overflow_add-count g c =
    let input = c.args.input.now in
    let at = goal.at.overflow_add-count g c in
    let on = step g at.In-Some in
    let few = place_few _ _ _ (g.met.T.Input.lawful input) (g.met.T.Input.within input) in
    omega (arith, on.fits, on.wide, few, (next g at.After-position_of).few)

pub loop-width-smaller : goal.loop-width-smaller
loop-width-smaller g c =
    let on = step g (goal.at.loop-width-smaller g c).In-Some in
    rw (c.take_from-rest-in-loop-width.ensures.place, c.take_from-rest.ensures.place) (omega (arith, on.fits, on.wide, c.loop-width.invariant.1))

pub loop-width-preserved : goal.loop-width-preserved
loop-width-preserved g c =
    let so_far = c.loop-width.invariant in
    let at = goal.at.loop-width-preserved g c in
    let on = step g at.In-Some in
    let ends = until_meets (is 10) _ _ (g.met.T.Input.lawful c.args.input.now).solid _ _ so_far.2.within (rw (so_far.0, so_far.1) at c.position_of.ensures) _ (rw (c.take_from-rest.ensures.cells, c.take_from-rest.ensures.place, so_far.0, so_far.1) at c.in-Some.ensures) in (
      c.take_from-rest-in-loop-width.ensures.cells ∙ c.take_from-rest.ensures.cells ∙ so_far.0,
      rw (c.take_from-rest-in-loop-width.ensures.place, c.take_from-rest.ensures.place) so_far.1,
      rw (c.take_from-rest-in-loop-width.ensures.place, c.take_from-rest.ensures.place) (count_on _ _ _ _ _ _ _ _ (next g at.After-position_of) on ends),
    )

pub returns-in_default-clause-value : goal.returns-in_default-clause-value
returns-in_default-clause-value g c =
    let so_far = c.loop-width.invariant in
    let none = rw (c.take_from-rest.ensures.cells, c.take_from-rest.ensures.place, so_far.0, so_far.1) at c.in_default.ensures in
    let end = ap (counted (is 10)) (item_end (g.T.Input.cells c.args.input.now) ((g.T.Input.place c.loop-width.rest).start + c.position_of.result) (g.T.Input.place c.args.input.now).end none) in
    omega (arith, end, (next g (goal.at.returns-in_default-clause-value g c).After-position_of).so_far)

pub returns-in_default-clause-pieces : goal.returns-in_default-clause-pieces
returns-in_default-clause-pieces g c = lines_by _ _ (returns-in_default-clause-value g c)
