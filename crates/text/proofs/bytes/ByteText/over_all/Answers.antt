use Rattle.std.proofs.Common.{◌≡◌, subst}
use Rattle.text.specs.Cells.{singles, cut}
use Rattle.text.specs.Singles.{whole_singles, total-singles, solid-singles}
use Rattle.text.proofs.Cuts.{whole_cut}
use Rattle.text.proofs.bytes.ByteText.over_all.Goals as goal

pub invariant_of-result : goal.invariant_of-result
invariant_of-result c = record { few = c.requires; within = whole_singles c.args.bytes.now }

pub returns-clause-all : goal.returns-clause-all
returns-clause-all c =
    let bs = c.args.bytes.now in
    subst (λ n. cut (singles bs) 0 n ≡ singles bs) (total-singles bs) (whole_cut (singles bs) (solid-singles bs))
