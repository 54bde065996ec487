-- UTF-8 as RFC 3629 has it: a table of lead bytes, and the code points that a list of bytes begins with. Assumes nothing.
use Rattle.std.specs.Prelude.{◌≡◌, ℕ, zero, suc, ◌+◌, ◌-◌, ◌*◌, Bool, true, false, cond, ◌&&◌, ◌||◌, List, [], ◌∷◌, length, Some, None, Option, nat_le, nat_lt}
use Rattle.std.specs.List.{find}
use Rattle.text.specs.Cells.{Cell, total}
use Rattle.utf8.specs.declared.rows.Row.{Row}

abbrev row : ℕ → ℕ → ℕ → ℕ → ℕ → ℕ → Row
row a b n c d e = record { lead = record { low = a; high = b }; tails = n; second = record { low = c; high = d }; base = e }

-- the lead bytes of a row, how many bytes follow, the range of the first of these, and what marks the lead byte.
-- The bytes after that one are from 0x80 to 0xBF.
unfoldable pub rows : List Row
rows =
    row 0x00 0x7F 0 0x80 0xBF 0x00
    ∷ row 0xC2 0xDF 1 0x80 0xBF 0xC0
    ∷ row 0xE0 0xE0 2 0xA0 0xBF 0xE0
    ∷ row 0xE1 0xEC 2 0x80 0xBF 0xE0
    ∷ row 0xED 0xED 2 0x80 0x9F 0xE0
    ∷ row 0xEE 0xEF 2 0x80 0xBF 0xE0
    ∷ row 0xF0 0xF0 3 0x90 0xBF 0xF0
    ∷ row 0xF1 0xF3 3 0x80 0xBF 0xF0
    ∷ row 0xF4 0xF4 3 0x80 0x8F 0xF0
    ∷ []

abbrev pub inside : ℕ → ℕ → ℕ → Bool
inside lo hi b = nat_le lo b && nat_le b hi

-- the row of a lead byte
abbrev pub row_of : List Row → ℕ → Option Row
row_of rs b = find (λ r. inside r.lead.low r.lead.high b) rs

-- whether n bytes follow, the first of them from lo to hi
abbrev pub follow : ℕ → ℕ → ℕ → List ℕ → Bool
follow zero lo hi bs = true
follow (suc n) lo hi [] = false
follow (suc n) lo hi (b ∷ bs) = inside lo hi b && follow n 0x80 0xBF bs

-- the code that n bytes make with what comes before them, six bits each
abbrev pub glue : ℕ → ℕ → List ℕ → ℕ
glue zero code bs = code
glue (suc n) code [] = code
glue (suc n) code (b ∷ bs) = glue n (code * 64 + (b - 0x80)) bs

abbrev pub led : Option Row → ℕ → List ℕ → Option Cell
led None b bs = None
led (Some r) b bs = cond (follow r.tails r.second.low r.second.high bs) (Some (glue r.tails (b - r.base) bs, suc r.tails)) None

-- the code point that the bytes begin with, with its width
abbrev pub char : List ℕ → Option Cell
char [] = None
char (b ∷ bs) = led (row_of rows b) b bs

abbrev pub push : Option Cell → (Cell → List Cell) → List Cell
push None k = []
push (Some c) k = c ∷ k c

-- the code points of the longest well-formed prefix, past n bytes
abbrev pub scan_past : ℕ → List ℕ → List Cell
scan_past zero [] = []
scan_past zero (b ∷ bs) = push (char (b ∷ bs)) (λ c. scan_past (c.1 - 1) bs)
scan_past (suc n) [] = []
scan_past (suc n) (b ∷ bs) = scan_past n bs

-- the code points of the longest well-formed prefix
abbrev pub scan : List ℕ → List Cell
scan bs = scan_past 0 bs

-- all of the bytes are code points
abbrev pub WellFormed : List ℕ → Type 0
WellFormed bs = total (scan bs) ≡ length bs

-- a byte that starts a code point
abbrev pub leads : ℕ → Bool
leads b = nat_lt b 0x80 || nat_le 0xC0 b

-- how many bytes follow a lead byte
abbrev pub tails_of : ℕ → ℕ
tails_of b = cond (nat_lt b 0x80) 0 (cond (nat_lt b 0xE0) 1 (cond (nat_lt b 0xF0) 2 3))
