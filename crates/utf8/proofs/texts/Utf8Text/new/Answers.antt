use Rattle.std.proofs.Common.{◌≡◌, sym, subst, rules}
use Rattle.text.specs.Answers.{kept}
use Rattle.utf8.specs.Answers.{utf8_text_check}
use Rattle.utf8.specs.Octets.{scan}
use Rattle.utf8.specs.Rfc.{Octets, codes}
use Rattle.utf8.proofs.Rules.{kept_octets}
use Rattle.utf8.proofs.texts.Utf8Text.new.Goals as goal

pub returns-clause-items : goal.returns-clause-items
returns-clause-items c =
    let bs = c.args.bytes.now in
    let same : c.unwrap_or.result.bytes.now ≡ kept (utf8_text_check bs) bs = search rules in
    subst (λ l. Octets l (codes (scan l))) (sym same) (kept_octets bs)
