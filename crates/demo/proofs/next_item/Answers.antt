use Rattle.text.proofs.Cuts.{item_on}
use Rattle.demo.proofs.next_item.Goals as goal

pub take_from-requires : goal.take_from-requires
take_from-requires g c =
    let input = c.args.input.now in
    (item_on _ _ _ (c.in-Some.code, c.in-Some.width) (g.met.T.Input.lawful input).solid (g.met.T.Input.within input) c.in-Some.ensures).within
