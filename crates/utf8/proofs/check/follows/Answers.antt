use Rattle.std.proofs.Common.{◌≡◌, ◌-◌, ◌&&◌, get_or, drop, sym, ap, ◌∙◌, arith}
use Rattle.std.proofs.lemmas.Bool.{and_left}
use Rattle.utf8.specs.Octets.{inside, follow}
use Rattle.utf8.proofs.Steps.{follow_short, follow_on}
use Rattle.utf8.proofs.check.follows.Goals as goal

pub returns-then-bytes-tails : goal.returns-then-bytes-tails
returns-then-bytes-tails c = follow_short c.args.row.now.tails _ _ c.args.bytes.now (omega arith)

pub returns-then-not-contains-2 : goal.returns-then-not-contains-2
returns-then-not-contains-2 c =
    let bs = c.args.bytes.now in
    let row = c.args.row.now in
    let two : (inside 0x80 0xBF (get_or bs 1 0) && follow (row.tails - 1 - 1) 0x80 0xBF (drop 2 bs)) ≡ follow (row.tails - 1) 0x80 0xBF (drop 1 bs) = follow_on 0x80 0xBF bs 1 (row.tails - 1) (omega arith) (omega arith) in
    let one : (inside row.second.low row.second.high (get_or bs 0 0) && follow (row.tails - 1) 0x80 0xBF (drop 1 bs)) ≡ follow row.tails row.second.low row.second.high bs = follow_on row.second.low row.second.high bs 0 row.tails (omega arith) (omega arith) in
    sym (sym one ∙ ap (λ b. b && follow (row.tails - 1) 0x80 0xBF (drop 1 bs)) (sym c.if-not-contains.ensures) ∙ sym two ∙ and_left _ _ (sym c.if-not-contains-2.ensures))
