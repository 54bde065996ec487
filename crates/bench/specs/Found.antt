-- What the benchmark's functions answer. Assumes nothing.
use Rattle.std.specs.Prelude.{ℕ, Bool, ◌&&◌, List, nat_le, unwrap_or}
use Rattle.text.specs.Cells.{Cell, total}
use Rattle.text.specs.Search.{found}

-- an upper-case ASCII letter
abbrev pub upper : ℕ → Bool
upper item = nat_le 65 item && nat_le item 90

-- where a tag is first found, or the end
abbrev pub placed : List Cell → List Cell → ℕ
placed cs ts = unwrap_or (found cs ts) (total cs)
