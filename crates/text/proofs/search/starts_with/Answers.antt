use Rattle.std.proofs.Common.{ap, ◌∙◌}
use Rattle.text.specs.Search.{begins}
use Rattle.text.proofs.Matching.{begins_not}
use Rattle.text.proofs.Places.{begins_law}
use Rattle.text.proofs.search.starts_with.Goals as goal

pub returns-in-Ok-clause-prefix : goal.returns-in-Ok-clause-prefix
returns-in-Ok-clause-prefix g c = begins_law _ _ _ (ap begins c.in-Ok.ensures)

pub returns-in_default : goal.returns-in_default
returns-in_default g c =
    let e = begins_not _ c.in_default.not-Ok ∙ ap begins c.compare.ensures in
    record { value = e; prefix = begins_law _ _ _ e }
