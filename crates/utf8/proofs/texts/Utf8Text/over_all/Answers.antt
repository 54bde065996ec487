use Rattle.std.proofs.Common.{◌≡◌, subst}
use Rattle.text.specs.Cells.{Within, cut}
use Rattle.text.proofs.Cuts.{whole_cut, whole_within}
use Rattle.utf8.specs.Octets.{scan}
use Rattle.utf8.specs.Scans.{solid-scan}
use Rattle.utf8.proofs.texts.Utf8Text.over_all.Goals as goal

pub invariant_of-result : goal.invariant_of-result
invariant_of-result c =
    let bs = c.args.bytes.now in
    record { few = c.requires.few; well = c.requires.well; within = subst (Within (scan bs) 0) c.requires.well (whole_within (scan bs) (solid-scan bs)) }

pub returns-clause-all : goal.returns-clause-all
returns-clause-all c =
    let bs = c.args.bytes.now in
    subst (λ n. cut (scan bs) 0 n ≡ scan bs) c.requires.well (whole_cut (scan bs) (solid-scan bs))
