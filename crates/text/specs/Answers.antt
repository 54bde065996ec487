-- When bytes are refused as a text or as a tag, and what is made of them then. Assumes nothing.
use Rattle.std.specs.Prelude.{◌≡◌, ℕ, cond, List, [], length, Ok, Err, Result, nat_lt}
use Rattle.text.specs.declared.Refusal.{Refusal}
use Rattle.text.specs.declared.Refusal.TheVariants.{TextTooLong, Malformed, TagTooLong}

-- each refusal's number
abbrev pub number_of : Refusal → ℕ
number_of (TextTooLong n) = 1
number_of (Malformed n) = 2
number_of (TagTooLong n) = 3

-- a text of over 1,048,576 bytes, with their number
abbrev pub text_limit : List ℕ → Result (Unit {0}) Refusal → Result (Unit {0}) Refusal
text_limit bs within = cond (nat_lt 1048576 (length bs)) (Err (TextTooLong (length bs))) within

-- a tag of over 32 bytes, with their number
abbrev pub tag_limit : List ℕ → Result (Unit {0}) Refusal → Result (Unit {0}) Refusal
tag_limit bs within = cond (nat_lt 32 (length bs)) (Err (TagTooLong (length bs))) within

-- any bytes within the limit are a byte text, and a byte tag
abbrev pub byte_text_check : List ℕ → Result (Unit {0}) Refusal
byte_text_check bs = text_limit bs (Ok tt)

abbrev pub byte_tag_check : List ℕ → Result (Unit {0}) Refusal
byte_tag_check bs = tag_limit bs (Ok tt)

-- whether there are at most so many bytes, or how many there are
abbrev pub over : ℕ → List ℕ → Result (Unit {0}) ℕ
over limit bs = cond (nat_lt limit (length bs)) (Err (length bs)) (Ok tt)

-- what is answered of bytes that a check accepts or refuses: something that is so, or the check's refusal
abbrev pub Made : {T : Type 0} → Result (Unit {0}) Refusal → (T → Type 0) → Result T Refusal → Type 0
Made check P (Ok t) = (check ≡ Ok tt) × P t
Made check P (Err e) = check ≡ Err e

-- what is made of bytes: nothing where they are refused
abbrev pub kept : Result (Unit {0}) Refusal → List ℕ → List ℕ
kept (Ok u) bs = bs
kept (Err e) bs = []
