-- What is told of bytes as a text. Assumes nothing.
use Rattle.std.specs.Prelude.{List, length, Ok, Err, Result}
use Rattle.text.specs.declared.Refusal.{Refusal}
use Rattle.text.specs.Cells.{Cell, total}
use Rattle.text.specs.Search.{lines}
use Rattle.loom.specs.declared.report.Counts.{Counts}

-- the size of a text that has these items
abbrev pub counts_of : List Cell → Counts
counts_of cs = record { bytes = total cs; items = length cs; lines = lines cs }

-- the size of a text that was accepted, or its refusal
abbrev pub told : Result (Unit {0}) Refusal → List Cell → Result Counts Refusal
told (Ok u) cs = Ok (counts_of cs)
told (Err e) cs = Err e
