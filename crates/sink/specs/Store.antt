-- What a sink stores into. No call of a sink changes it. Assumes nothing.
use Rattle.std.specs.Prelude.{ℕ}
use Rattle.std.specs.Borrow.{GName}
use Rattle.std.proofs.Math.Option.{Option}

-- how many places there are, and which slice they stand in, if one was lent
pub record Store : Type 0 where
  pub cap : ℕ
  pub lent : Option GName
