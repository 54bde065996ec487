use Rattle.text.proofs.Needs.{needed_size}
use Rattle.text.proofs.Needed.new.Goals as goal

pub returns-in-Some : goal.returns-in-Some
returns-in-Some c = needed_size c.in-Some.size c.args.n c.in-Some.ensures
