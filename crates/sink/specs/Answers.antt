-- The answers of a sink: when each call is refused, and what it leaves. Assumes nothing.
use Rattle.std.specs.Prelude.{◌≡◌, ℕ, ◌<◌, ◌≤◌, cond, List, [], ◌∷◌, ◌++◌, length, Ok, Err, Result, nat_lt, slice_get}
use Rattle.std.specs.Option.{ok_or}
use Rattle.sink.specs.declared.Refusal.{Refusal}
use Rattle.sink.specs.declared.Refusal.TheVariants.{TooManyPlaces, Full, MarkAboveList, PastList}

-- each refusal's number
abbrev pub number_of : Refusal → ℕ
number_of (TooManyPlaces n) = 4
number_of Full = 5
number_of (MarkAboveList m n) = 6
number_of (PastList at n) = 7

-- a sink of over 65,536 places, with their number
abbrev pub making : ℕ → Result (Unit {0}) Refusal
making places = cond (nat_lt 65536 places) (Err (TooManyPlaces places)) (Ok tt)

-- a push: refused exactly at capacity, which leaves the list; else the item goes last
pub data Pushes {I : Type 0} (places : ℕ) (before : List I) (x : I)
    (r : Result (Unit {0}) Refusal) (after : List I) : Type 0 where
  refused : places ≤ length before → r ≡ Err Full → after ≡ before
      → Pushes places before x r after
  pushed : length before < places → r ≡ Ok tt → after ≡ before ++ (x ∷ [])
      → Pushes places before x r after

-- a cut back of a list of this length to a mark: refused where the mark is above it, with both
abbrev pub cutting : ℕ → ℕ → Result (Unit {0}) Refusal
cutting len mark = cond (nat_lt len mark) (Err (MarkAboveList mark len)) (Ok tt)

-- a read: the item at a place, refused past the list with the place and the list's length
abbrev pub item_at : {I : Type 0} → List I → ℕ → Result I Refusal
item_at l at = ok_or (slice_get l at) (PastList at (length l))
