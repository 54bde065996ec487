-- The kinds' numbers, and how the error that got furthest is chosen. Assumes nothing.
use Rattle.std.specs.Prelude.{◌≡◌, ℕ, Bool, true, false, cond, nat_lt, refl}
use Rattle.std.proofs.Common.{arith, ltb-true, ltb-false, lt-ltb, le-ltb}
use Rattle.parse.specs.declared.error.ErrorKind.{ErrorKind}
use Rattle.parse.specs.declared.error.ErrorKind.TheVariants as kind
use Rattle.parse.specs.declared.error.Far.{Far}

abbrev pub number_of : ErrorKind → ℕ
number_of kind.Tag = 1
number_of kind.MapRes = 2
number_of kind.MapOpt = 3
number_of kind.Alt = 4
number_of kind.IsNot = 5
number_of kind.IsA = 6
number_of kind.SeparatedList = 7
number_of kind.Many1 = 9
number_of kind.Count = 10
number_of kind.TakeUntil = 12
number_of kind.LengthValue = 15
number_of kind.Eof = 23
number_of kind.TakeWhile1 = 47
number_of kind.Complete = 48
number_of kind.ManyMN = 57
number_of kind.Many0 = 62
number_of kind.Not = 63
number_of kind.Permutation = 64
number_of kind.ManyTill = 65
number_of kind.Verify = 66
number_of kind.TakeTill1 = 67
number_of kind.TakeWhileMN = 69
number_of kind.Many1Count = 72

-- whichever starts further on, the later at a tie
abbrev pub further : Far → Far → Far
further a b = cond (nat_lt b.input.start a.input.start) a b

-- by whether b starts before a, and c before b
pick : (a b c : Far) (p q : Bool) → nat_lt b.input.start a.input.start ≡ p → nat_lt c.input.start b.input.start ≡ q → further (cond p a b) c ≡ further a (cond q b c)
pick a b c true true e f = rw (e, lt-ltb c.input.start a.input.start (omega (arith, ltb-true _ _ e, ltb-true _ _ f)))
pick a b c true false e f = refl
pick a b c false true e f = rw (e, f)
pick a b c false false e f = rw (f, le-ltb c.input.start a.input.start (omega (arith, ltb-false _ _ e, ltb-false _ _ f)))

pub further_associates : (a b c : Far) → further (further a b) c ≡ further a (further b c)
further_associates a b c = pick a b c (nat_lt b.input.start a.input.start) (nat_lt c.input.start b.input.start) refl refl
