-- How much more input is needed. Assumes nothing.
use Rattle.std.specs.Prelude.{ℕ, zero, suc, Bool, true, false}
use Rattle.std.proofs.Common.{zero-le, suc-le-suc}
use Rattle.text.specs.declared.Needed.{Needed}
use Rattle.text.specs.declared.Needed.TheVariants.{Unknown, Size}

-- n more bytes, which are unknown where n is 0, since a size is never 0
abbrev pub needed : ℕ → Needed
needed zero = Unknown
needed (suc n) = Size (record { value = suc n; ok = suc-le-suc zero-le })

abbrev pub known : Needed → Bool
known Unknown = false
known (Size n) = true

-- what a UTF-8 text short of n items needs
abbrev pub unknown : ℕ → Needed
unknown n = Unknown
