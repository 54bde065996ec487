use Rattle.std.proofs.Common.{◌≡◌, ◌∷◌, length, ap, arith}
use Rattle.text.specs.Cells.{part}
use Rattle.text.proofs.Cuts.{On, item_on}
use Rattle.text.proofs.items.ItemsIterator.next.Given as given
use Rattle.text.proofs.items.ItemsIterator.next.Goals as goal
use Rattle.text.proofs.items.ItemsIterator.next.Goals.{In_ok-code}

step : (g : given.Over) (c : In_ok-code g)
    → On (g.T.Input.cells c.args.self.now.rest) (g.T.Input.place c.args.self.now.rest).start (g.T.Input.place c.args.self.now.rest).end (c.in_ok-code.code, c.in_ok-code.width)
step g c = item_on _ _ _ _ (g.met.T.Input.lawful c.args.self.now.rest).solid (g.met.T.Input.within c.args.self.now.rest) c.in_ok-code.ensures

pub take_from-requires : goal.take_from-requires
take_from-requires g c = (step g (goal.at.take_from-requires g c).In_ok-code).within

pub returns-clause-steps : goal.returns-clause-steps
returns-clause-steps g c = rw (c.take_from.ensures.cells, c.take_from.ensures.place) (step g (goal.at.returns-clause-steps g c).In_ok-code).cuts

pub returns-clause-goes : goal.returns-clause-goes
returns-clause-goes g c =
    let input = c.args.self.now.rest in
    let later = c.take_from.result in
    let cuts = (step g (goal.at.returns-clause-goes g c).In_ok-code).cuts in
    let one_on : part (g.T.Input.cells input) (g.T.Input.place input) ≡ (c.in_ok-code.code, c.in_ok-code.width) ∷ part (g.T.Input.cells later) (g.T.Input.place later) =
    rw (c.take_from.ensures.cells, c.take_from.ensures.place) cuts in
    let one = ap length one_on in
    record { on = λ _. (tt, tt, omega arith); keeps = tt; rests = λ _. tt }
