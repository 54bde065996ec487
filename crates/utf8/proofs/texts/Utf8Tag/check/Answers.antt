use Rattle.std.proofs.Common.{◌≡◌, sym, subst, rules}
use Rattle.utf8.specs.Answers.{utf8_tag_check}
use Rattle.utf8.specs.Rfc.{TagAnswer}
use Rattle.utf8.proofs.Rules.{tag_exact}
use Rattle.utf8.proofs.texts.Utf8Tag.check.Goals as goal

pub returns-clause-exact : goal.returns-clause-exact
returns-clause-exact c =
    let bs = c.args.bytes.now in
    let is : c.check_well_formed.result ≡ utf8_tag_check bs = search rules in
    subst (TagAnswer bs) (sym is) (tag_exact bs)
