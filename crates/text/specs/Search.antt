-- What is asked of the items of a span: comparing, finding, counting. Assumes nothing.
use Rattle.std.specs.Prelude.{ℕ, suc, ◌+◌, ◌-◌, Bool, true, false, cond, ◌&&◌, List, [], ◌∷◌, length, take, Some, None, Ok, Err, Option, Result, ◌==◌, nat_le}
use Rattle.text.specs.declared.Needed.{Needed}
use Rattle.text.specs.declared.CompareResult.{CompareResult}
use Rattle.text.specs.declared.CompareResult.TheVariants as compared
use Rattle.text.specs.Cells.{Cell, total}

-- equal code, equal width
abbrev pub same : Cell → Cell → Bool
same c d = c.0 == d.0 && c.1 == d.1

-- items against a tag's: they begin with it, are a shorter prefix of it, or neither
abbrev pub matched : List Cell → List Cell → CompareResult
matched cs [] = compared.Ok
matched [] (t ∷ ts) = compared.Incomplete
matched (c ∷ cs) (t ∷ ts) = cond (same c t) (matched cs ts) compared.Error

abbrev pub begins : CompareResult → Bool
begins compared.Ok = true
begins compared.Incomplete = false
begins compared.Error = false

-- a place, w bytes further on
abbrev pub further : ℕ → Option ℕ → Option ℕ
further w None = None
further w (Some n) = Some (w + n)

-- the bytes before the first place at which the items begin with a tag
abbrev pub found : List Cell → List Cell → Option ℕ
found [] ts = cond (begins (matched [] ts)) (Some 0) None
found (c ∷ cs) ts = cond (begins (matched (c ∷ cs) ts)) (Some 0) (further c.1 (found cs ts))

-- the bytes before the first item that meets the test; all of them where none does
abbrev pub until : (ℕ → Bool) → List Cell → ℕ
until p [] = 0
until p (c ∷ cs) = cond (p c.0) 0 (c.1 + until p cs)

-- the test of an item for one code
abbrev pub is : ℕ → ℕ → Bool
is code item = item == code

-- an item's code, where there is one
abbrev pub code_of : Option Cell → Option ℕ
code_of None = None
code_of (Some c) = Some c.0

-- the bytes of the first n items, or what is needed where there are fewer
abbrev pub sliced : (ℕ → Needed) → ℕ → List Cell → Result ℕ Needed
sliced lack n cs = cond (nat_le n (length cs)) (Ok (total (take n cs))) (Err (lack (n - length cs)))

-- how many items meet the test
abbrev pub counted : (ℕ → Bool) → List Cell → ℕ
counted p [] = 0
counted p (c ∷ cs) = cond (p c.0) (suc (counted p cs)) (counted p cs)

-- lines are the pieces between items 10, so there is one more of them
abbrev pub lines : List Cell → ℕ
lines cs = suc (counted (is 10) cs)
