use Rattle.text.proofs.Cuts.{whole_cut, whole_within}
use Rattle.text.proofs.Input.whole.Goals as goal

pub at-requires : goal.at-requires
at-requires g c = rw c.text_len.ensures (whole_within _ (g.met.Self.Input.lawful c.args.self.now).solid)

pub returns-clause-items : goal.returns-clause-items
returns-clause-items g c =
    let cells = g.Self.Input.cells c.args.self.now in
    rw (c.at.ensures.cells, c.at.ensures.place, c.text_len.ensures) (whole_cut cells (g.met.Self.Input.lawful c.args.self.now).solid)
