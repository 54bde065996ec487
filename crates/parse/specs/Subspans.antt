-- A span that a parser cuts out of its own. Assumes nothing.
use Rattle.std.specs.Prelude.{ℕ, ◌≤◌, List, Ok, Err, Result}
use Rattle.std.proofs.Common.{arith}
use Rattle.text.specs.declared.Span.{Span}
use Rattle.text.specs.Cells.{Cell, Within}
use Rattle.parse.specs.declared.Fault.{Fault}
use Rattle.parse.specs.Run.{Outcome, done, incomplete, error, failure, Run, Rests, Suffix}
use Rattle.parse.specs.Algebra.{still, after, rest_at, keeping, mapped, closing, and_step, or_error, recover, on_error, either}
use Rattle.parse.specs.Suffixes.{rests_trans, rest_suffix, tried_suffix}

-- an answer with its remainder and its output as spans
abbrev pub both_spanned : {T E : Type 0} → (T → Span) → Result (T × T) (Fault E) → Result (Span × Span) (Fault E)
both_spanned place (Ok x) = Ok (place x.0, place x.1)
both_spanned place (Err e) = Err e

-- a span u of the text that lies inside s
pub record Inner (cs : List Cell) (s u : Span) : Type 0 where
  pub later : s.start ≤ u.start
  pub within : Within cs u.start u.end
  pub earlier : u.end ≤ s.end

-- where the outcome is done, its output lies inside the span, and its remainder is one of the span
abbrev pub Inside : {I E : Type 0} → List Cell → Span → Outcome Span I E → Type 0
Inside cs s (done r u is) = Inner cs s u × Rests cs s r
Inside cs s (incomplete n) = Unit {0}
Inside cs s (error e) = Unit {0}
Inside cs s (failure e) = Unit {0}

pub inside_suffix : {I E : Type 0} (cs : List Cell) (s : Span) (o : Outcome Span I E) → Inside cs s o → Suffix cs s o
inside_suffix cs s (done r u is) x = x.1
inside_suffix cs s (incomplete n) x = tt
inside_suffix cs s (error e) x = tt
inside_suffix cs s (failure e) x = tt

-- a second part on the span that the first cut out, which rests where the first does
pub inner_suffix : {B J I E : Type 0} (cs : List Cell) (s : Span) (o : Outcome Span J E) (k : Span → Run B I E) → Inside cs s o → Suffix cs s (after o (λ r u. rest_at r (k u))).outcome
inner_suffix cs s o k x = tried_suffix cs s o (λ r u. rest_at r (k u)) (λ e. still (error e)) (inside_suffix cs s o x) (λ r u h. rest_suffix cs s r (k u) h) (λ e. tt)

module _ (cs : List Cell) (s : Span) {I E : Type 0} where
  -- a span inside a remainder
  pub inside_rest : (r : Span) (o : Outcome Span I E) → Rests cs s r → Inside cs r o → Inside cs s o
  inside_rest r (done q u is) x (y, z) = (record { later = omega (arith, x.later, y.later); within = y.within; earlier = omega (arith, y.earlier, x.ends) }, rests_trans cs s r q x z)
  inside_rest r (incomplete n) x y = tt
  inside_rest r (error e) x y = tt
  inside_rest r (failure e) x y = tt

  -- behind a part whose output is dropped
  pub after_inside : {A J : Type 0} (o : Outcome A J E) (k : Span → A → Run Span I E) → Suffix cs s o → ((r : Span) (a : A) → Rests cs s r → Inside cs r (k r a).outcome) → Inside cs s (after o k).outcome
  after_inside (done r a is) k x f = inside_rest r (k r a).outcome x (f r a x)
  after_inside (incomplete n) k x f = tt
  after_inside (error e) k x f = tt
  after_inside (failure e) k x f = tt

  kept_inside : {B : Type 0} (is : List I) (r u : Span) (o : Outcome B I E) → Inner cs s u → Rests cs s r → Suffix cs r o → Inside cs s (keeping is (mapped (λ _. u) o))
  kept_inside is r u (done q b js) x y z = (x, rests_trans cs s r q y z)
  kept_inside is r u (incomplete n) x y z = tt
  kept_inside is r u (error e) x y z = tt
  kept_inside is r u (failure e) x y z = tt

  closing_inside : {B : Type 0} (o : Outcome Span I E) (k : Span → Outcome B I E) → Inside cs s o → ((r : Span) → Rests cs s r → Suffix cs r (k r)) → Inside cs s (closing o (λ r u. mapped (λ _. u) (k r)))
  closing_inside (done r u is) k x f = kept_inside is r u (k r) x.0 x.1 (f r x.1)
  closing_inside (incomplete n) k x f = tt
  closing_inside (error e) k x f = tt
  closing_inside (failure e) k x f = tt

  -- before a part whose output is dropped
  pub step_inside : {B : Type 0} (x : Run Span I E) (k : Span → Outcome B I E) → Inside cs s x.outcome → ((r : Span) → Rests cs s r → Suffix cs r (k r)) → Inside cs s (and_step x (λ r u. mapped (λ _. u) (k r))).outcome
  step_inside x k h f = closing_inside x.outcome k h f

  error_inside : (f : E → E) (o : Outcome Span I E) → Inside cs s o → Inside cs s (or_error f o)
  error_inside f (done r u is) x = x
  error_inside f (incomplete n) x = tt
  error_inside f (error e) x = tt
  error_inside f (failure e) x = tt

  recover_inside : (p : ℕ) (o : Outcome Span I E) (k : E → Run Span I E) → Inside cs s o → ((e : E) → Inside cs s (k e).outcome) → Inside cs s (recover p o k).outcome
  recover_inside p (done r u is) k x f = x
  recover_inside p (incomplete n) k x f = tt
  recover_inside p (error e) k x f = f e
  recover_inside p (failure e) k x f = tt

  -- by one of two ways
  pub either_inside : (joined : E → E → E) (x y : Run Span I E) → Inside cs s x.outcome → Inside cs s y.outcome → Inside cs s (either joined x y).outcome
  either_inside joined x y h g = recover_inside x.peak x.outcome (λ e. on_error (joined e) y) h (λ e. error_inside (joined e) y.outcome g)
