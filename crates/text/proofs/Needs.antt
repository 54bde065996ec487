-- Sizes that are never 0. Assumes nothing.
use Rattle.std.proofs.Common.{◌≡◌, ℕ, zero, suc, ◌<◌, ap, suc-le-suc, zero-le, arith}
use mathlib.Core.HLevel.{is_prop→PathP}
use native.Mathlib.Bridge.{le_prop}
use Rattle.std.specs.declared.num.NonZeroUsize.{NonZeroUsize}
use Rattle.text.specs.declared.Needed.TheVariants.{Size}
use Rattle.text.specs.Need.{needed}

-- two numbers that are not 0 are equal where their values are
same_value : (x y : NonZeroUsize) → x.value ≡ y.value → x ≡ y
same_value x y e = λ i. record { value = e i; ok = is_prop→PathP (λ i. 0 < e i) (λ i. le_prop) x.ok y.ok i }

pub needed_size : (x : NonZeroUsize) (n : ℕ) → x.value ≡ n → Size x ≡ needed n
needed_size x zero e = absurd (let h = x.ok in omega (arith, h))
needed_size x (suc n) e = ap Size (same_value x (record { value = suc n; ok = suc-le-suc zero-le }) e)
