-- How a refusal reads. Assumes nothing.
use Rattle.std.specs.Prelude.{ℕ, List, ◌++◌, codes}
use Rattle.std.specs.Fmt.{decimal}
use Rattle.sink.specs.declared.Refusal.{Refusal}
use Rattle.sink.specs.declared.Refusal.TheVariants.{TooManyPlaces, Full, MarkAboveList, PastList}

-- each refusal in words
abbrev pub words_of : Refusal → List ℕ
words_of (TooManyPlaces places) =
    codes "the sink has " ++ (decimal places
    ++ (codes " places, and a sink may have at most " ++ decimal 65536))
words_of Full = codes "the sink is full"
words_of (MarkAboveList mark len) =
    codes "the mark is at " ++ (decimal mark
    ++ (codes ", and the list has " ++ (decimal len ++ codes " items")))
words_of (PastList at len) =
    codes "there is no item " ++ (decimal at
    ++ (codes ", since the list has " ++ (decimal len ++ codes " items")))
