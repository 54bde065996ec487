use Rattle.std.proofs.Common.{◌≡◌, ◌+◌, ◌-◌, Some, None, rules, sym, ap, ◌∙◌, arith}
use Rattle.text.specs.Cells.{part}
use Rattle.text.specs.Search.{found}
use Rattle.text.proofs.Cuts.{On, item_on, item_end}
use Rattle.text.proofs.Matching.{Reached, reach_on, reach_next, starts_not, found_empty, found_now, found_inside, found_nowhere}
use Rattle.text.proofs.Places.{first_by}
use Rattle.text.proofs.search.find.Given as given
use Rattle.text.proofs.search.find.Goals as goal
use Rattle.text.proofs.search.find.Goals.{After-position_of, In_ok-width}

pub returns-in_default-clause-first : goal.returns-in_default-clause-first
returns-in_default-clause-first g c =
    let cells = part (g.T.Input.cells c.args.input.now) (g.T.Input.place c.args.input.now) in
    let none = starts_not (g.T.Tag.Needle.spelt c.args.tag.now) c.in_default.ensures in
    first_by cells (g.T.Tag.Needle.spelt c.args.tag.now) (Some 0) (found_empty cells ∙ ap (found cells) (sym none))

-- the next place at which the tag's first item stands, or the end
next : (g : given.Over) (c : After-position_of g)
    → Reached (g.T.Input.cells c.args.input.now) (g.T.Tag.Needle.spelt c.args.tag.now) (g.T.Input.place c.args.input.now).start (g.T.Input.place c.args.input.now).end (found (part (g.T.Input.cells c.args.input.now) (g.T.Input.place c.args.input.now)) (g.T.Tag.Needle.spelt c.args.tag.now)) ((g.T.Input.place c.loop-rest.rest).start + c.position_of.result)
next g c =
    let so_far = c.loop-rest.invariant in
    reach_next _ _ _ _ _ _ so_far.2 c.in-Some.code _ (g.met.T.Input.lawful c.args.input.now).solid c.in-Some.ensures (rw (so_far.0, so_far.1) at c.position_of.ensures)

pub take_from-rest-requires : goal.take_from-rest-requires
take_from-rest-requires g c =
    let so_far = c.loop-rest.invariant in
    rw (so_far.0, so_far.1) (next g (goal.at.take_from-rest-requires g c).After-position_of).within

-- the item that stands there
step : (g : given.Over) (c : In_ok-width g)
    → On (g.T.Input.cells c.args.input.now) ((g.T.Input.place c.loop-rest.rest).start + c.position_of.result) (g.T.Input.place c.args.input.now).end (c.in_ok-width.field-0-0, c.in_ok-width.width)
step g c =
    let so_far = c.loop-rest.invariant in
    let there = reach_next _ _ _ _ _ _ so_far.2 c.in-Some.code _ (g.met.T.Input.lawful c.args.input.now).solid c.in-Some.ensures (rw (so_far.0, so_far.1) at c.position_of.ensures) in
    item_on _ _ _ _ (g.met.T.Input.lawful c.args.input.now).solid there.within (rw (c.take_from-rest.ensures.cells, c.take_from-rest.ensures.place, so_far.0, so_far.1) at c.in_ok-width.ensures)

pub returns-then-starts_with : goal.returns-then-starts_with
returns-then-starts_with g c =
    let so_far = c.loop-rest.invariant in
    let there = next g (goal.at.returns-then-starts_with g c).After-position_of in
    let yes = rw (c.take_from-rest.ensures.cells, c.take_from-rest.ensures.place, so_far.0, so_far.1) at c.if-starts_with.ensures.value in
    let value : Some (c.span.result.start - c.span-start.result.start) ≡ found (part (g.T.Input.cells c.args.input.now) (g.T.Input.place c.args.input.now)) (g.T.Tag.Needle.spelt c.args.tag.now) =
    rw (c.span.ensures, c.take_from-rest.ensures.place, c.span-start.ensures) (found_now _ _ _ _ _ _ there (sym yes)) in
    record {
      value = value;
      first = first_by _ _ _ value;
      inside = rw (c.span.ensures, c.take_from-rest.ensures.place, c.span-start.ensures) (found_inside _ _ _ _ _ _ there (g.met.T.Input.lawful c.args.input.now).solid (sym yes));
    }

pub returns-in_err-width : goal.returns-in_err-width
returns-in_err-width g c =
    let so_far = c.loop-rest.invariant in
    let there = next g (goal.at.returns-in_err-width g c).After-position_of in
    let not = rw (c.take_from-rest.ensures.cells, c.take_from-rest.ensures.place, so_far.0, so_far.1) at c.if-starts_with.ensures.value in
    let none = rw (c.take_from-rest.ensures.cells, c.take_from-rest.ensures.place, so_far.0, so_far.1) at c.in_err-width.ensures in
    let value = found_nowhere _ _ _ _ _ _ there (item_end (g.T.Input.cells c.args.input.now) ((g.T.Input.place c.loop-rest.rest).start + c.position_of.result) (g.T.Input.place c.args.input.now).end none) (sym not) in
    let is : c.from_residual.result ≡ None = search rules in
    record { value = is ∙ value; first = first_by _ _ _ (is ∙ value); inside = rw is tt }

pub take_from-rest-requires-in-loop-rest : goal.take_from-rest-requires-in-loop-rest
take_from-rest-requires-in-loop-rest g c =
    let so_far = c.loop-rest.invariant in
    rw (c.take_from-rest.ensures.cells, c.take_from-rest.ensures.place, so_far.0, so_far.1) (step g (goal.at.take_from-rest-requires-in-loop-rest g c).In_ok-width).within

pub loop-rest-smaller : goal.loop-rest-smaller
loop-rest-smaller g c =
    let so_far = c.loop-rest.invariant in
    let on = step g (goal.at.loop-rest-smaller g c).In_ok-width in
    rw (c.take_from-rest-in-loop-rest.ensures.place, c.take_from-rest.ensures.place) (omega (arith, on.fits, on.wide, so_far.1))

pub loop-rest-preserved : goal.loop-rest-preserved
loop-rest-preserved g c =
    let so_far = c.loop-rest.invariant in
    let there = next g (goal.at.loop-rest-preserved g c).After-position_of in
    let on = step g (goal.at.loop-rest-preserved g c).In_ok-width in
    let not = rw (c.take_from-rest.ensures.cells, c.take_from-rest.ensures.place, so_far.0, so_far.1) at c.if-starts_with.ensures.value in (
      c.take_from-rest-in-loop-rest.ensures.cells ∙ c.take_from-rest.ensures.cells ∙ so_far.0,
      rw (c.take_from-rest-in-loop-rest.ensures.place, c.take_from-rest.ensures.place) so_far.1,
      rw (c.take_from-rest-in-loop-rest.ensures.place, c.take_from-rest.ensures.place) (reach_on _ _ _ _ _ _ there _ on (sym not)),
    )
