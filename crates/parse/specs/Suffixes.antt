-- Every remainder is a suffix of its span: what each operation on runs keeps of that. Assumes nothing.
use Rattle.std.specs.Prelude.{ℕ, List, refl}
use Rattle.std.proofs.Common.{arith, ◌∙◌}
use Rattle.text.specs.declared.Span.{Span}
use Rattle.text.specs.Cells.{Cell, Within}
use Rattle.parse.specs.Run.{Outcome, done, incomplete, error, failure, Run, Rests, Suffix}
use Rattle.parse.specs.Algebra.{still, behind, follow, and_then, keeping, closing, and_step, tried, after, mapped, map_run, resting, rest_at, recover, or_else, or_error, on_error, either}

-- a span is a remainder of itself
pub whole_rests : (cs : List Cell) (s : Span) → Within cs s.start s.end → Rests cs s s
whole_rests cs s w = record { later = omega arith; within = w; ends = refl }

pub rests_trans : (cs : List Cell) (s r q : Span) → Rests cs s r → Rests cs r q → Rests cs s q
rests_trans cs s r q x y = record { later = omega (arith, x.later, y.later); within = y.within; ends = y.ends ∙ x.ends }

module _ (cs : List Cell) (s : Span) {B I E : Type 0} where
  -- a remainder of a remainder
  pub widen : (r : Span) (o : Outcome B I E) → Rests cs s r → Suffix cs r o → Suffix cs s o
  widen r (done q b is) x y = rests_trans cs s r q x y
  widen r (incomplete n) x y = tt
  widen r (error e) x y = tt
  widen r (failure e) x y = tt

  behind_suffix : (is : List I) (o : Outcome B I E) → Suffix cs s o → Suffix cs s (behind is o)
  behind_suffix is (done q b js) x = x
  behind_suffix is (incomplete n) x = tt
  behind_suffix is (error e) x = tt
  behind_suffix is (failure e) x = tt

  keeping_suffix : (is : List I) (o : Outcome B I E) → Suffix cs s o → Suffix cs s (keeping is o)
  keeping_suffix is (done q b js) x = x
  keeping_suffix is (incomplete n) x = tt
  keeping_suffix is (error e) x = tt
  keeping_suffix is (failure e) x = tt

  resting_suffix : (r : Span) (o : Outcome B I E) → Rests cs s r → Suffix cs s (resting r o)
  resting_suffix r (done q a is) x = x
  resting_suffix r (incomplete n) x = tt
  resting_suffix r (error e) x = tt
  resting_suffix r (failure e) x = tt

  pub rest_suffix : (r : Span) (x : Run B I E) → Rests cs s r → Suffix cs s (rest_at r x).outcome
  rest_suffix r x h = resting_suffix r x.outcome h

  error_suffix_at : (f : E → E) (o : Outcome B I E) → Suffix cs s o → Suffix cs s (or_error f o)
  error_suffix_at f (done r a is) x = x
  error_suffix_at f (incomplete n) x = tt
  error_suffix_at f (error e) x = tt
  error_suffix_at f (failure e) x = tt

  recover_suffix : (p : ℕ) (o : Outcome B I E) (k : E → Run B I E) → Suffix cs s o → ((e : E) → Suffix cs s (k e).outcome) → Suffix cs s (recover p o k).outcome
  recover_suffix p (done r a is) k x f = x
  recover_suffix p (incomplete n) k x f = tt
  recover_suffix p (error e) k x f = f e
  recover_suffix p (failure e) k x f = tt

  pub or_suffix : (x : Run B I E) (k : E → Run B I E) → Suffix cs s x.outcome → ((e : E) → Suffix cs s (k e).outcome) → Suffix cs s (or_else x k).outcome
  or_suffix x k h f = recover_suffix x.peak x.outcome k h f

  pub either_suffix : (joined : E → E → E) (x y : Run B I E) → Suffix cs s x.outcome → Suffix cs s y.outcome → Suffix cs s (either joined x y).outcome
  either_suffix joined x y h g = or_suffix x (λ e. on_error (joined e) y) h (λ e. error_suffix_at (joined e) y.outcome g)

module _ (cs : List Cell) (s : Span) {A B I E : Type 0} where
  follow_suffix : (p : ℕ) (o : Outcome A I E) (k : Span → A → Run B I E) → Suffix cs s o → ((r : Span) (a : A) → Rests cs s r → Suffix cs r (k r a).outcome) → Suffix cs s (follow p o k).outcome
  follow_suffix p (done r a is) k x f = behind_suffix cs s is (k r a).outcome (widen cs s r (k r a).outcome x (f r a x))
  follow_suffix p (incomplete n) k x f = tt
  follow_suffix p (error e) k x f = tt
  follow_suffix p (failure e) k x f = tt

  pub then_suffix : (x : Run A I E) (k : Span → A → Run B I E) → Suffix cs s x.outcome → ((r : Span) (a : A) → Rests cs s r → Suffix cs r (k r a).outcome) → Suffix cs s (and_then x k).outcome
  then_suffix x k h f = follow_suffix x.peak x.outcome k h f

  closing_suffix : (o : Outcome A I E) (k : Span → A → Outcome B I E) → Suffix cs s o → ((r : Span) (a : A) → Rests cs s r → Suffix cs r (k r a)) → Suffix cs s (closing o k)
  closing_suffix (done r a is) k x f = keeping_suffix cs s is (k r a) (widen cs s r (k r a) x (f r a x))
  closing_suffix (incomplete n) k x f = tt
  closing_suffix (error e) k x f = tt
  closing_suffix (failure e) k x f = tt

  pub step_suffix : (x : Run A I E) (k : Span → A → Outcome B I E) → Suffix cs s x.outcome → ((r : Span) (a : A) → Rests cs s r → Suffix cs r (k r a)) → Suffix cs s (and_step x k).outcome
  step_suffix x k h f = closing_suffix x.outcome k h f

  pub mapped_suffix : (f : A → B) (o : Outcome A I E) → Suffix cs s o → Suffix cs s (mapped f o)
  mapped_suffix f (done q b js) x = x
  mapped_suffix f (incomplete n) x = tt
  mapped_suffix f (error e) x = tt
  mapped_suffix f (failure e) x = tt

  pub map_suffix : (f : A → B) (x : Run A I E) → Suffix cs s x.outcome → Suffix cs s (map_run f x).outcome
  map_suffix f x u = mapped_suffix f x.outcome u

module _ (cs : List Cell) (s : Span) {A B J I E : Type 0} where
  pub tried_suffix : (o : Outcome A J E) (k : Span → A → Run B I E) (h : E → Run B I E) → Suffix cs s o → ((r : Span) (a : A) → Rests cs s r → Suffix cs s (k r a).outcome) → ((e : E) → Suffix cs s (h e).outcome) → Suffix cs s (tried o k h).outcome
  tried_suffix (done r a is) k h x f g = f r a x
  tried_suffix (incomplete n) k h x f g = tt
  tried_suffix (error e) k h x f g = g e
  tried_suffix (failure e) k h x f g = tt

  pub after_suffix : (o : Outcome A J E) (k : Span → A → Run B I E) → Suffix cs s o → ((r : Span) (a : A) → Rests cs s r → Suffix cs r (k r a).outcome) → Suffix cs s (after o k).outcome
  after_suffix o k u f = tried_suffix o k (λ e. still (error e)) u (λ r a h. widen cs s r (k r a).outcome h (f r a h)) (λ e. tt)
