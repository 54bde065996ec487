use Rattle.std.proofs.Common.{sym, inl, inr, arith}
use Rattle.text.proofs.Matching.{bytes_begin, bytes_short, bytes_apart}
use Rattle.text.proofs.bytes.compare_bytes.Goals as goal
use Rattle.text.proofs.bytes.compare_bytes.Goals.{else-text-tag-via-then-text-tag+else-starts_with-2, else-text-tag-via-else-text-tag}

pub returns-then-starts_with : goal.returns-then-starts_with
returns-then-starts_with c = bytes_begin c.args.text.now c.args.tag.now (sym c.if-starts_with.ensures.value)

pub returns-then-starts_with-2 : goal.returns-then-starts_with-2
returns-then-starts_with-2 c = bytes_short c.args.text.now c.args.tag.now (sym c.if-starts_with.ensures.value) (sym c.if-starts_with-2.ensures.value)

pub returns-else-text-tag : goal.returns-else-text-tag
returns-else-text-tag c = bytes_apart c.args.text.now c.args.tag.now (sym c.if-starts_with.ensures.value) (elim c.else-text-tag.branch [
  | else-text-tag-via-then-text-tag+else-starts_with-2 w ↦ inl (sym w.if-starts_with-2.ensures.value)
  | else-text-tag-via-else-text-tag w ↦ inr (omega (arith, w.if-text-tag.false))
])
