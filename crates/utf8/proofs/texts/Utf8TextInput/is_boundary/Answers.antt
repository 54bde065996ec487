use Rattle.std.proofs.Common.{◌||◌, ◌≡◌, ◌<◌, ◌≤◌, leb, ltb, length, get_or, sym, refl, ap, ◌∙◌, rules}
use Rattle.std.proofs.lemmas.Bool.{cond-true, cond-false, lt-ltb, le-ltb, or_left}
use Rattle.utf8.specs.Octets.{scan}
use Rattle.utf8.proofs.Starts.{boundary-scan}
use Rattle.utf8.proofs.texts.Utf8TextInput.is_boundary.Goals as goal

pub returns-then-b-lt128 : goal.returns-then-b-lt128
returns-then-b-lt128 c =
    let bs = c.args.self.now.bytes.now in
    let n = c.args.at in
    let there : n < length bs = search rules in
    let is : c.in-Some.b.now ≡ get_or bs n 0 = search rules in
    let low = ap (λ b. ltb b 128) (sym is) ∙ lt-ltb _ _ c.if-b-lt128.true in
    ap (λ b. ltb b 128) is
    ∙ sym (boundary-scan (scan bs) bs n refl c.args.self.now.well ∙ cond-true _ _ _ (lt-ltb n (length bs) there) ∙ or_left _ (leb 192 (get_or bs n 0)) low ∙ sym low)

pub returns-else-b-lt128 : goal.returns-else-b-lt128
returns-else-b-lt128 c =
    let bs = c.args.self.now.bytes.now in
    let n = c.args.at in
    let there : n < length bs = search rules in
    let is : c.in-Some.b.now ≡ get_or bs n 0 = search rules in
    let high = ap (λ b. ltb b 128) (sym is) ∙ le-ltb _ _ c.if-b-lt128.false in
    ap (leb 192) is
    ∙ sym (boundary-scan (scan bs) bs n refl c.args.self.now.well ∙ cond-true _ _ _ (lt-ltb n (length bs) there) ∙ ap (λ b. b || leb 192 (get_or bs n 0)) high)

pub returns-in-None : goal.returns-in-None
returns-in-None c =
    let bs = c.args.self.now.bytes.now in
    let n = c.args.at in
    let past : length bs ≤ n = search rules in
    sym (boundary-scan (scan bs) bs n refl c.args.self.now.well ∙ cond-false _ _ _ (le-ltb n (length bs) past))
