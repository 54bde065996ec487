-- Errors that join associatively make the choice of ways associative.
use Rattle.std.proofs.Common.{◌≡◌, ℕ, max, refl, ap, ◌∙◌, arith}
use Rattle.parse.specs.Run.{Outcome, done, incomplete, error, failure, Run}
use Rattle.parse.specs.Algebra.{recover, or_error, on_error, either}

module _ {A I E : Type 0} (joined : E → E → E) (assoc : (a b c : E) → joined (joined a b) c ≡ joined a (joined b c)) where
  -- the third way, where the first two are errors
  third : (p q : ℕ) (a b : E) (z : Outcome A I E) (r : ℕ)
      → ◌≡◌ {A = Run A I E} (record { outcome = or_error (joined (joined a b)) z; peak = max (max p q) r }) (record { outcome = or_error (joined a) (or_error (joined b) z); peak = max p (max q r) })
  third p q a b z r =
      let pk : max (max p q) r ≡ max p (max q r) = omega arith in
      ap (λ (n : ℕ). record { outcome = or_error (joined (joined a b)) z; peak = n }) pk ∙ ap (λ (y : Outcome A I E). record { outcome = y; peak = max p (max q r) }) (outcomes z)
    where
      outcomes : (z : Outcome A I E) → or_error (joined (joined a b)) z ≡ or_error (joined a) (or_error (joined b) z)
      outcomes (done s o is) = refl
      outcomes (incomplete w) = refl
      outcomes (error c) = ap error (assoc a b c)
      outcomes (failure c) = refl

  -- the second way, where the first is the error a
  second : (p : ℕ) (a : E) (q : ℕ) (y : Outcome A I E) (z : Run A I E)
      → recover (max p q) (or_error (joined a) y) (λ e. on_error (joined e) z) ≡ record { outcome = or_error (joined a) (recover q y (λ e. on_error (joined e) z)).outcome; peak = max p (recover q y (λ e. on_error (joined e) z)).peak }
  second p a q (done s o is) z = refl
  second p a q (incomplete w) z = refl
  second p a q (error b) z = third p q a b z.outcome z.peak
  second p a q (failure w) z = refl

  first : (p : ℕ) (x : Outcome A I E) (y z : Run A I E) → either joined (recover p x (λ e. on_error (joined e) y)) z ≡ recover p x (λ e. on_error (joined e) (either joined y z))
  first p (done s o is) y z = refl
  first p (incomplete w) y z = refl
  first p (error a) y z = second p a y.peak y.outcome z
  first p (failure w) y z = refl

  pub either_assoc : (x y z : Run A I E) → either joined (either joined x y) z ≡ either joined x (either joined y z)
  either_assoc x y z = first x.peak x.outcome y z
