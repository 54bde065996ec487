-- The algebra of runs: what a combinator's run is, from the runs of its parts. Assumes nothing.
use Rattle.std.specs.Prelude.{ℕ, ◌+◌, max, List, ◌++◌, length}
use Rattle.text.specs.declared.Span.{Span}
use Rattle.parse.specs.Run.{Outcome, done, incomplete, error, failure, Run}

-- an outcome that comes at once: no item ever stands
abbrev pub still : {O I E : Type 0} → Outcome O I E → Run O I E
still o = record { outcome = o; peak = 0 }

-- the outcome, its items after these
abbrev pub behind : {O I E : Type 0} → List I → Outcome O I E → Outcome O I E
behind is (done r o js) = done r o (is ++ js)
behind is (incomplete n) = incomplete n
behind is (error e) = error e
behind is (failure e) = failure e

abbrev pub follow : {A B I E : Type 0} → ℕ → Outcome A I E → (Span → A → Run B I E) → Run B I E
follow p (done r a is) k = record { outcome = behind is (k r a).outcome; peak = max p (length is + (k r a).peak) }
follow p (incomplete n) k = record { outcome = incomplete n; peak = p }
follow p (error e) k = record { outcome = error e; peak = p }
follow p (failure e) k = record { outcome = failure e; peak = p }

-- a run and, where it is done, another behind its items
abbrev pub and_then : {A B I E : Type 0} → Run A I E → (Span → A → Run B I E) → Run B I E
and_then x k = follow x.peak x.outcome k

-- the outcome, with these items for its own
abbrev pub keeping : {O I E : Type 0} → List I → Outcome O I E → Outcome O I E
keeping is (done r o js) = done r o is
keeping is (incomplete n) = incomplete n
keeping is (error e) = error e
keeping is (failure e) = failure e

abbrev pub closing : {A B I E : Type 0} → Outcome A I E → (Span → A → Outcome B I E) → Outcome B I E
closing (done r a is) k = keeping is (k r a)
closing (incomplete n) k = incomplete n
closing (error e) k = error e
closing (failure e) k = failure e

-- a run and, where it is done, a step that appends nothing: a function on the output, or a part run by check
abbrev pub and_step : {A B I E : Type 0} → Run A I E → (Span → A → Outcome B I E) → Run B I E
and_step x k = record { outcome = closing x.outcome k; peak = x.peak }

-- a run by check, its items dropped; and then another, where it is done or where it is Error
abbrev pub tried : {A B J I E : Type 0} → Outcome A J E → (Span → A → Run B I E) → (E → Run B I E) → Run B I E
tried (done r a is) k h = k r a
tried (incomplete n) k h = still (incomplete n)
tried (error e) k h = h e
tried (failure e) k h = still (failure e)

-- a run by check and, where it is done, another
abbrev pub after : {A B J I E : Type 0} → Outcome A J E → (Span → A → Run B I E) → Run B I E
after o k = tried o k (λ e. still (error e))

-- a function on the output
abbrev pub mapped : {A B I E : Type 0} → (A → B) → Outcome A I E → Outcome B I E
mapped f (done r a is) = done r (f a) is
mapped f (incomplete n) = incomplete n
mapped f (error e) = error e
mapped f (failure e) = failure e

abbrev pub map_run : {A B I E : Type 0} → (A → B) → Run A I E → Run B I E
map_run f x = record { outcome = mapped f x.outcome; peak = x.peak }

-- another remainder
abbrev pub resting : {O I E : Type 0} → Span → Outcome O I E → Outcome O I E
resting s (done r o is) = done s o is
resting s (incomplete n) = incomplete n
resting s (error e) = error e
resting s (failure e) = failure e

abbrev pub rest_at : {O I E : Type 0} → Span → Run O I E → Run O I E
rest_at s x = record { outcome = resting s x.outcome; peak = x.peak }

abbrev pub recover : {A I E : Type 0} → ℕ → Outcome A I E → (E → Run A I E) → Run A I E
recover p (done r a is) k = record { outcome = done r a is; peak = p }
recover p (incomplete n) k = record { outcome = incomplete n; peak = p }
recover p (error e) k = record { outcome = (k e).outcome; peak = max p (k e).peak }
recover p (failure e) k = record { outcome = failure e; peak = p }

-- a run or, where it is Error, another in its place
abbrev pub or_else : {A I E : Type 0} → Run A I E → (E → Run A I E) → Run A I E
or_else x k = recover x.peak x.outcome k

-- a function on the error, and not on a failure
abbrev pub or_error : {A I E : Type 0} → (E → E) → Outcome A I E → Outcome A I E
or_error f (done r a is) = done r a is
or_error f (incomplete n) = incomplete n
or_error f (error e) = error (f e)
or_error f (failure e) = failure e

abbrev pub on_error : {A I E : Type 0} → (E → E) → Run A I E → Run A I E
on_error f x = record { outcome = or_error f x.outcome; peak = x.peak }

-- a run or, where it is Error, another, the errors of both joined
abbrev pub either : {A I E : Type 0} → (E → E → E) → Run A I E → Run A I E → Run A I E
either joined x y = or_else x (λ e. on_error (joined e) y)
