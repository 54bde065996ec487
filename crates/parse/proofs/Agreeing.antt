-- What a run on an input comes to, for a caller of check and of emit.
use Rattle.std.proofs.Common.{◌≡◌, ℕ, ◌+◌, ◌≤◌, List, length, Ok, Err, Result, sym, ap, ◌∙◌, arith, length-append}
use Rattle.text.specs.declared.Span.{Span}
use Rattle.parse.specs.declared.Fault.{Fault}
use Rattle.parse.specs.Run.{Run, Emits, full as is_full, room as has_room, Checks, items}
use Rattle.parse.specs.Whole.{full, room, Agreeing}

module _ {O I E : Type 0} (x : Run O I E) where
  -- emit agrees with check: the numbers that check tells stop far above what a sink can hold
  pub agreeing : (n : ℕ) (l m : List I) (r : Result (Span × O) (Fault E)) → n ≤ 65536 → length m ≤ n → Emits x n l r m → Agreeing x n l r m
  agreeing n l m r few within (is_full lt q s) answer c p h = full (omega (arith, h.peaked)) q s
  agreeing n l m r few within (has_room le q s) answer c p h =
      let len : length m ≡ length l + length (items x.outcome) = ap length s ∙ length-append l (items x.outcome) in
      room (omega (arith, h.peaked)) (q ∙ sym h.answered) (items x.outcome) (omega (arith, h.counted)) s
