-- A function that may refuse an output: what is answered, and what the outcome then is. Assumes nothing.
use Rattle.std.specs.Prelude.{◌≡◌, List, [], Some, None, Ok, Err, Option, Result, refl}
use Rattle.std.specs.Option.{ok_or}
use Rattle.std.specs.Result.{result_map_both}
use Rattle.text.specs.declared.Span.{Span}
use Rattle.text.specs.Cells.{Cell, Within}
use Rattle.parse.specs.Run.{Outcome, done, error, Suffix}
use Rattle.parse.specs.Suffixes.{whole_rests}

-- done with the value, or the error that is made of the function's own
abbrev pub resulted : {B X I E : Type 0} → (X → E) → Span → Result B X → Outcome B I E
resulted made r (Ok b) = done r b []
resulted made r (Err x) = error (made x)

-- done with the value, or this error where there is none
abbrev pub valued : {B I E : Type 0} → E → Span → Option B → Outcome B I E
valued e r (Some b) = done r b []
valued e r None = error e

-- what both come to: done with a value, or an error
abbrev pub settled_run : {B I E : Type 0} → Span → Result B E → Outcome B I E
settled_run r (Ok b) = done r b []
settled_run r (Err e) = error e

pub result_settles : (I : Type 0) {B X E : Type 0} (made : X → E) (r : Span) (v : Result B X) → settled_run {I = I} r (result_map_both (λ b. b) made v) ≡ resulted made r v
result_settles I made r (Ok b) = refl
result_settles I made r (Err x) = refl

pub option_settles : (I : Type 0) {B E : Type 0} (e : E) (r : Span) (v : Option B) → settled_run {I = I} r (ok_or v e) ≡ valued e r v
option_settles I e r (Some b) = refl
option_settles I e r None = refl

module _ (I : Type 0) (cs : List Cell) (r : Span) (w : Within cs r.start r.end) {B E : Type 0} where
  pub settled_suffix : (v : Result B E) → Suffix cs r (settled_run {I = I} r v)
  settled_suffix (Ok b) = whole_rests cs r w
  settled_suffix (Err e) = tt

  pub resulted_suffix : {X : Type 0} (made : X → E) (v : Result B X) → Suffix cs r (resulted {I = I} made r v)
  resulted_suffix made (Ok b) = whole_rests cs r w
  resulted_suffix made (Err x) = tt

  pub valued_suffix : (e : E) (v : Option B) → Suffix cs r (valued {I = I} e r v)
  valued_suffix e (Some b) = whole_rests cs r w
  valued_suffix e None = tt
