use Rattle.std.proofs.Common.{length, inl, ap, arith}
use Rattle.text.proofs.Cuts.{part_few}
use Rattle.text.proofs.items.count_items.Goals as goal

pub count-requires-clause-fits : goal.count-requires-clause-fits
count-requires-clause-fits g c =
    let input = c.args.input.now in
    let few = part_few _ _ _ (g.met.T.Input.lawful input) (g.met.T.Input.within input) in
    inl (omega (arith, few, ap length c.new.ensures))
