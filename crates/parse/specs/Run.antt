-- What a parser means: an outcome, and the most of its items that stood at one moment. Assumes nothing.
use Rattle.std.specs.Prelude.{◌≡◌, ℕ, ◌+◌, ◌<◌, ◌≤◌, min, List, [], ◌++◌, length, Ok, Err, Result}
use Rattle.text.specs.declared.Needed.{Needed}
use Rattle.text.specs.declared.Span.{Span}
use Rattle.text.specs.Cells.{Cell, Within}
use Rattle.parse.specs.declared.Done.{Done}
use Rattle.parse.specs.declared.Stopped.{Stopped}
use Rattle.parse.specs.declared.Fault.{Fault}
use Rattle.parse.specs.declared.Fault.TheVariants.{Incomplete, Error, Failure, Full}

-- how a parser ends: done with a remainder, an output and items; short of input; an error, after which another way may be
-- tried; or a failure, after which none is
pub data Outcome (O I E : Type 0) : Type 0 where
  done : Span → O → List I → Outcome O I E
  incomplete : Needed → Outcome O I E
  error : E → Outcome O I E
  failure : E → Outcome O I E

-- an outcome, and the most items that stood at one moment on the way to it, those later cut back included
pub record Run (O I E : Type 0) : Type 0 where
  pub outcome : Outcome O I E
  pub peak : ℕ

-- what is answered of an outcome: all but the items
abbrev pub told : {O I E : Type 0} → Outcome O I E → Result (Span × O) (Fault E)
told (done r o is) = Ok (r, o)
told (incomplete n) = Err (Incomplete n)
told (error e) = Err (Error e)
told (failure e) = Err (Failure e)

-- its items: none unless it is done
abbrev pub items : {O I E : Type 0} → Outcome O I E → List I
items (done r o is) = is
items (incomplete n) = []
items (error e) = []
items (failure e) = []

-- what emit answers, and the list that it leaves: Full, and the list as it was, exactly where the free places are fewer than the peak
pub data Emits {O I E : Type 0} (run : Run O I E) (places : ℕ) (before : List I) (r : Result (Span × O) (Fault E)) (after : List I) : Type 0 where
  full : places < length before + run.peak → r ≡ Err Full → after ≡ before → Emits run places before r after
  room : length before + run.peak ≤ places → r ≡ told run.outcome → after ≡ before ++ items run.outcome → Emits run places before r after

-- an answer with its remainder as a span
abbrev pub spanned : {T O E : Type 0} → (T → Span) → Result (T × O) (Fault E) → Result (Span × O) (Fault E)
spanned place (Ok x) = Ok (place x.0, x.1)
spanned place (Err e) = Err e

-- the parts of what a check gives: the answer, the number of items, which is 0 where it stopped, and the peak
abbrev pub answer_of : {T O E : Type 0} → (T → Span) → Result (Done T O) (Stopped E) → Result (Span × O) (Fault E)
answer_of place (Ok d) = Ok (place d.rest, d.output)
answer_of place (Err s) = Err s.fault

abbrev pub count_of : {T O E : Type 0} → Result (Done T O) (Stopped E) → ℕ
count_of (Ok d) = d.count
count_of (Err s) = 0

abbrev pub peak_of : {T O E : Type 0} → Result (Done T O) (Stopped E) → ℕ
peak_of (Ok d) = d.peak
peak_of (Err s) = s.peak

-- a number as a check tells it: it stops at the largest of 32 bits
abbrev pub capped : ℕ → ℕ
capped n = min n 4294967295

-- what check tells: the answer, how many items there are, and the peak
pub record Checks {O I E : Type 0} (run : Run O I E) (answer : Result (Span × O) (Fault E)) (count peak : ℕ) : Type 0 where
  pub answered : answer ≡ told run.outcome
  pub counted : count ≡ capped (length (items run.outcome))
  pub peaked : peak ≡ capped run.peak

-- a remainder of a span of a text: it lies in the text, starts no earlier and ends where the span ends
pub record Rests (cs : List Cell) (s r : Span) : Type 0 where
  pub later : s.start ≤ r.start
  pub within : Within cs r.start r.end
  pub ends : r.end ≡ s.end

-- the remainder of an outcome, where it is done, is one of the span
abbrev pub Suffix : {O I E : Type 0} → List Cell → Span → Outcome O I E → Type 0
Suffix cs s (done r o is) = Rests cs s r
Suffix cs s (incomplete n) = Unit {0}
Suffix cs s (error e) = Unit {0}
Suffix cs s (failure e) = Unit {0}
