-- What is asked of a fault. Assumes nothing.
use Rattle.std.specs.Prelude.{Bool, true, false, Ok, Err, Result}
use Rattle.text.specs.declared.Span.{Span}
use Rattle.parse.specs.declared.Fault.{Fault}
use Rattle.parse.specs.declared.Fault.TheVariants.{Incomplete, Error, Failure, Full}

-- whether another way may be tried
abbrev pub erring : {E : Type 0} → Fault E → Bool
erring (Incomplete n) = false
erring (Error e) = true
erring (Failure e) = false
erring Full = false

abbrev pub short : {E : Type 0} → Fault E → Bool
short (Incomplete n) = true
short (Error e) = false
short (Failure e) = false
short Full = false

-- a function on the error
abbrev pub or_fault : {E : Type 0} → (E → E) → Fault E → Fault E
or_fault f (Incomplete n) = Incomplete n
or_fault f (Error e) = Error (f e)
or_fault f (Failure e) = Failure e
or_fault f Full = Full
