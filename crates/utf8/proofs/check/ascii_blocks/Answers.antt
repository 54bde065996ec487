use Rattle.std.proofs.Common.{◌≡◌, ◌+◌, ◌-◌, take, drop, sym, subst, take-add, arith}
use Rattle.std.specs.Str.{IsAscii}
use Rattle.std.proofs.lemmas.Str.{IsAscii-append}
use Rattle.utf8.proofs.check.ascii_blocks.Goals as goal

pub loop-at-preserved : goal.loop-at-preserved
loop-at-preserved c =
    let bytes = c.args.bytes.now in
    let at = c.loop-at.at in
    let size : at + 64 - at ≡ 64 = omega arith in
    let block : IsAscii (take 64 (drop at bytes)) = subst (λ n. IsAscii (take n (drop at bytes))) size c.if-is_ascii.ensures.cases in
    (omega arith, subst IsAscii (sym (take-add at 64 bytes)) (IsAscii-append _ _ c.loop-at.invariant.1 block))
