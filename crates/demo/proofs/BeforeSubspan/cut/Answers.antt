use Rattle.text.specs.Search.{is}
use Rattle.text.proofs.Walking.{until_within}
use Rattle.demo.proofs.BeforeSubspan.cut.Goals as goal

pub take_split-requires : goal.take_split-requires
take_split-requires g c =
    let input = c.args.input.now in
    let place = g.T.Input.place input in
    until_within (is c.args.self.now.code) (g.T.Input.cells input) place.end (g.met.T.Input.lawful input).solid place.start c.position_of.result (g.met.T.Input.within input) c.position_of.ensures
