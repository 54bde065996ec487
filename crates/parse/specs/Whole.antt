-- What is said of a run on an input, in the words of a caller of check and of emit. Assumes nothing.
use Rattle.std.specs.Prelude.{◌≡◌, ℕ, ◌+◌, ◌<◌, ◌≤◌, List, ◌++◌, length, Ok, Err, Result}
use Rattle.text.specs.declared.Span.{Span}
use Rattle.text.specs.Cells.{Cell}
use Rattle.parse.specs.declared.Fault.{Fault}
use Rattle.parse.specs.declared.Fault.TheVariants.{Full}
use Rattle.parse.specs.Run.{Run, Checks, Rests}

-- where an answer is Ok, its remainder is one of the span
abbrev pub Remains : {O E : Type 0} → List Cell → Span → Result (Span × O) (Fault E) → Type 0
Remains cs s (Ok x) = Rests cs s x.0
Remains cs s (Err e) = Unit {0}

-- unless an answer is Ok, the list is as it was
abbrev pub Undone : {O I E : Type 0} → Result (Span × O) (Fault E) → List I → List I → Type 0
Undone (Ok x) before after = Unit {0}
Undone (Err e) before after = after ≡ before

-- what emit does, by what a check told before: Full and nothing else where the free places are fewer than the peak that was told,
-- and otherwise the answer that was told, with as many items appended as were counted
pub data Agrees {O I E : Type 0} (answer : Result (Span × O) (Fault E)) (count peak places : ℕ) (before : List I) (r : Result (Span × O) (Fault E)) (after : List I) : Type 0 where
  full : places < length before + peak → r ≡ Err Full → after ≡ before → Agrees answer count peak places before r after
  room : length before + peak ≤ places → r ≡ answer → (appended : List I) → length appended ≡ count → after ≡ before ++ appended → Agrees answer count peak places before r after

-- emit agrees with whatever a check of the same run told
abbrev pub Agreeing : {O I E : Type 0} → Run O I E → ℕ → List I → Result (Span × O) (Fault E) → List I → Type 0
Agreeing {O} {I} {E} run places before r after = (answer : Result (Span × O) (Fault E)) (count peak : ℕ) → Checks run answer count peak → Agrees answer count peak places before r after
