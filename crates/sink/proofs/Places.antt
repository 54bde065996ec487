-- For callers of a sheet: what its slice's first places hold.
use Rattle.std.proofs.Common.{◌≡◌, ℕ, List, length, take, length-take}
use Rattle.std.proofs.lemmas.List.{take_min}
use Rattle.sink.specs.Sheets.{sheet_list}

-- the first places, as many as the list is long, are the list
pub sheet_front : {I : Type 0} (places : List I) (len n : ℕ)
    → n ≡ length (sheet_list places len) → take n places ≡ sheet_list places len
sheet_front places len n e = rw (e, length-take, take_min)
