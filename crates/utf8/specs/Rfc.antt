-- UTF-8 by the syntax of RFC 3629, section 4, with the code points of its section 3. Nothing here names the code or its
-- table. Assumes nothing.
use Rattle.std.specs.Prelude.{◌≡◌, ℕ, ◌+◌, ◌-◌, ◌*◌, ◌<◌, ◌≤◌, List, [], ◌∷◌, ◌++◌, length, take, Ok, Err, Result}
use Rattle.text.specs.Cells.{Cell}
use Rattle.text.specs.declared.Refusal.{Refusal}
use Rattle.text.specs.declared.Refusal.TheVariants.{TextTooLong, Malformed, TagTooLong}

-- %xLO-HI
abbrev pub In : ℕ → ℕ → ℕ → Type 0
In lo hi a = (lo ≤ a) × (a ≤ hi)

-- UTF8-tail = %x80-BF
abbrev pub Tail : ℕ → Type 0
Tail a = In 0x80 0xBF a

-- the code points of two, three and four octets: the lead octet's free bits, and six bits of each tail
abbrev pub code_2 : ℕ → ℕ → ℕ
code_2 a b = (a - 0xC0) * 64 + (b - 0x80)

abbrev pub code_3 : ℕ → ℕ → ℕ → ℕ
code_3 a b c = ((a - 0xE0) * 64 + (b - 0x80)) * 64 + (c - 0x80)

abbrev pub code_4 : ℕ → ℕ → ℕ → ℕ → ℕ
code_4 a b c d = (((a - 0xF0) * 64 + (b - 0x80)) * 64 + (c - 0x80)) * 64 + (d - 0x80)

-- UTF8-char = UTF8-1 / UTF8-2 / UTF8-3 / UTF8-4, an alternative a constructor, and the code point that the octets encode
pub data Char : List ℕ → ℕ → Type 0 where
  -- %x00-7F
  ascii : {a : ℕ} → In 0x00 0x7F a → Char (a ∷ []) a
  -- %xC2-DF UTF8-tail
  two : {a b : ℕ} → In 0xC2 0xDF a → Tail b → Char (a ∷ b ∷ []) (code_2 a b)
  -- %xE0 %xA0-BF UTF8-tail
  three_e0 : {a b c : ℕ} → In 0xE0 0xE0 a → In 0xA0 0xBF b → Tail c → Char (a ∷ b ∷ c ∷ []) (code_3 a b c)
  -- %xE1-EC 2( UTF8-tail )
  three_e1 : {a b c : ℕ} → In 0xE1 0xEC a → Tail b → Tail c → Char (a ∷ b ∷ c ∷ []) (code_3 a b c)
  -- %xED %x80-9F UTF8-tail
  three_ed : {a b c : ℕ} → In 0xED 0xED a → In 0x80 0x9F b → Tail c → Char (a ∷ b ∷ c ∷ []) (code_3 a b c)
  -- %xEE-EF 2( UTF8-tail )
  three_ee : {a b c : ℕ} → In 0xEE 0xEF a → Tail b → Tail c → Char (a ∷ b ∷ c ∷ []) (code_3 a b c)
  -- %xF0 %x90-BF 2( UTF8-tail )
  four_f0 : {a b c d : ℕ} → In 0xF0 0xF0 a → In 0x90 0xBF b → Tail c → Tail d → Char (a ∷ b ∷ c ∷ d ∷ []) (code_4 a b c d)
  -- %xF1-F3 3( UTF8-tail )
  four_f1 : {a b c d : ℕ} → In 0xF1 0xF3 a → Tail b → Tail c → Tail d → Char (a ∷ b ∷ c ∷ d ∷ []) (code_4 a b c d)
  -- %xF4 %x80-8F 2( UTF8-tail )
  four_f4 : {a b c d : ℕ} → In 0xF4 0xF4 a → In 0x80 0x8F b → Tail c → Tail d → Char (a ∷ b ∷ c ∷ d ∷ []) (code_4 a b c d)

-- UTF8-octets = *( UTF8-char ), and its code points
pub data Octets : List ℕ → List ℕ → Type 0 where
  none : Octets [] []
  more : {os rest codes : List ℕ} {code : ℕ} → Char os code → Octets rest codes → Octets (os ++ rest) (code ∷ codes)

-- the codes of a list of items
abbrev pub codes : List Cell → List ℕ
codes [] = []
codes (c ∷ cs) = c.0 ∷ codes cs

-- the bytes are UTF-8
abbrev pub Utf8 : List ℕ → Type 0
Utf8 bs = (codes : List ℕ) × Octets bs codes

-- n bytes are UTF-8, and no longer prefix is
abbrev pub Longest : List ℕ → ℕ → Type 0
Longest bs n = (n ≤ length bs) × Utf8 (take n bs) × ((m : ℕ) → m ≤ length bs → Utf8 (take m bs) → m ≤ n)

-- how bytes are answered as a text: accepted exactly where they are at most 1,048,576 and UTF-8, and otherwise
-- refused by their number, or by the length of the longest prefix that is UTF-8
abbrev pub TextAnswer : List ℕ → Result (Unit {0}) Refusal → Type 0
TextAnswer bs (Ok u) = (length bs ≤ 1048576) × Utf8 bs
TextAnswer bs (Err (TextTooLong n)) = (1048576 < length bs) × (n ≡ length bs)
TextAnswer bs (Err (Malformed n)) = (length bs ≤ 1048576) × (Utf8 bs → ⊥) × Longest bs n
TextAnswer bs (Err (TagTooLong n)) = ⊥

-- and as a tag, of at most 32 bytes
abbrev pub TagAnswer : List ℕ → Result (Unit {0}) Refusal → Type 0
TagAnswer bs (Ok u) = (length bs ≤ 32) × Utf8 bs
TagAnswer bs (Err (TagTooLong n)) = (32 < length bs) × (n ≡ length bs)
TagAnswer bs (Err (Malformed n)) = (length bs ≤ 32) × (Utf8 bs → ⊥) × Longest bs n
TagAnswer bs (Err (TextTooLong n)) = ⊥
