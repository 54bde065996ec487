-- What the leaves of the demonstration mean. Assumes nothing.
use Rattle.std.specs.Prelude.{◌≡◌, ℕ, ◌+◌, Bool, true, false, ◌&&◌, List, [], ◌∷◌, Some, None, Option, nat_le, refl}
use Rattle.std.proofs.Common.{arith, sym}
use Rattle.text.specs.declared.Span.{Span}
use Rattle.text.specs.Cells.{Cell, Solid, first, cut, Within}
use Rattle.text.specs.Need.{needed}
use Rattle.text.specs.Search.{until, is}
use Rattle.text.proofs.Cuts.{On, item_on}
use Rattle.text.proofs.Walking.{until_within}
use Rattle.parse.specs.Run.{done, incomplete, error, Run, Suffix}
use Rattle.parse.specs.Algebra.{still}
use Rattle.parse.specs.Subspans.{Inside}

-- the digits `0` to `9`, by code
abbrev pub digit : ℕ → Bool
digit item = nat_le 48 item && nat_le item 57

-- an item that meets the test or not: its code as output and as the one item appended, or the error
abbrev pub met : {E : Type 0} → E → Span → Cell → Bool → Run ℕ ℕ E
met e s c true = record { outcome = done (record { start = s.start + c.1; end = s.end }) c.0 (c.0 ∷ []); peak = 1 }
met e s c false = still (error e)

-- what the end of a span means: an error where no more input follows, else that one byte more is needed
abbrev pub ended : {E : Type 0} → E → Bool → Run ℕ ℕ E
ended e true = still (error e)
ended e false = still (incomplete (needed 1))

-- one item that meets the test, by the span's first item
abbrev pub satisfied : {E : Type 0} → (ℕ → Bool) → E → Bool → Span → Option Cell → Run ℕ ℕ E
satisfied test e complete s (Some c) = met e s c (test c.0)
satisfied test e complete s None = ended e complete

met_suffix : {E : Type 0} (e : E) (cs : List Cell) (s : Span) (c : Cell) (b : Bool) → On cs s.start s.end c → Suffix cs s (met e s c b).outcome
met_suffix e cs s c true on = record { later = omega arith; within = on.within; ends = refl }
met_suffix e cs s c false on = tt

ended_suffix : {E : Type 0} (e : E) (cs : List Cell) (s : Span) (b : Bool) → Suffix cs s (ended e b).outcome
ended_suffix e cs s true = tt
ended_suffix e cs s false = tt

pub satisfied_suffix : {E : Type 0} (test : ℕ → Bool) (e : E) (complete : Bool) (cs : List Cell) (s : Span) → Solid cs → Within cs s.start s.end → Suffix cs s (satisfied test e complete s (first (cut cs s.start s.end))).outcome
satisfied_suffix test e complete cs s k w = go (first (cut cs s.start s.end)) refl
  where
    go : (o : Option Cell) → first (cut cs s.start s.end) ≡ o → Suffix cs s (satisfied test e complete s o).outcome
    go (Some c) q = met_suffix e cs s c (test c.0) (item_on cs s.start s.end c k w (sym q))
    go None q = ended_suffix e cs s complete

-- the span before the first item that has the code
abbrev pub before_item : {I E : Type 0} → ℕ → List Cell → Span → Run Span I E
before_item code cs s =
    let at = s.start + until (is code) (cut cs s.start s.end) in
    still (done (record { start = at; end = s.end }) (record { start = s.start; end = at }) [])

pub before_inside : (I E : Type 0) (code : ℕ) (cs : List Cell) (s : Span) → Solid cs → Within cs s.start s.end → Inside cs s (before_item {I = I} {E = E} code cs s).outcome
before_inside I E code cs s k w =
    let n = until_within (is code) cs s.end k s.start (until (is code) (cut cs s.start s.end)) w refl in
    (record { later = omega arith; within = (omega arith, w.1, n.1); earlier = n.0 }, record { later = omega arith; within = n; ends = refl })
