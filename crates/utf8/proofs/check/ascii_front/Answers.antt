use Rattle.std.proofs.lemmas.Str.{IsUtf8-from_ascii}
use Rattle.utf8.proofs.Library.{well_from_IsUtf8}
use Rattle.utf8.proofs.check.ascii_front.Goals as goal

pub returns-else-is_ascii : goal.returns-else-is_ascii
returns-else-is_ascii c = (c.loop-at.invariant.0, well_from_IsUtf8 _ (IsUtf8-from_ascii _ c.loop-at.invariant.1))

pub returns-after-loop-at : goal.returns-after-loop-at
returns-after-loop-at c = (c.loop-at.invariant.0, well_from_IsUtf8 _ (IsUtf8-from_ascii _ c.loop-at.invariant.1))
