use Rattle.std.proofs.Common.{◌≡◌, sym, subst, rules}
use Rattle.utf8.specs.Answers.{utf8_text_check}
use Rattle.utf8.specs.Rfc.{TextAnswer}
use Rattle.utf8.proofs.Rules.{text_exact}
use Rattle.utf8.proofs.texts.Utf8Text.check.Goals as goal

pub returns-clause-exact : goal.returns-clause-exact
returns-clause-exact c =
    let bs = c.args.bytes.now in
    let is : c.check_well_formed.result ≡ utf8_text_check bs = search rules in
    subst (TextAnswer bs) (sym is) (text_exact bs)
