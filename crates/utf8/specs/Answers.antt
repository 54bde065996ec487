-- When bytes are refused as a UTF-8 text or tag. Assumes nothing.
use Rattle.std.specs.Prelude.{ℕ, cond, List, length, Ok, Err, Result, ◌==◌}
use Rattle.text.specs.declared.Refusal.{Refusal}
use Rattle.text.specs.declared.Refusal.TheVariants.{Malformed}
use Rattle.text.specs.Answers.{text_limit, tag_limit}
use Rattle.text.specs.Cells.{total}
use Rattle.utf8.specs.Octets.{scan}

-- not well-formed, with the length of the longest well-formed prefix
abbrev pub well_check : List ℕ → Result (Unit {0}) Refusal
well_check bs = cond (total (scan bs) == length bs) (Ok tt) (Err (Malformed (total (scan bs))))

-- the limit comes first
abbrev pub utf8_text_check : List ℕ → Result (Unit {0}) Refusal
utf8_text_check bs = text_limit bs (well_check bs)

abbrev pub utf8_tag_check : List ℕ → Result (Unit {0}) Refusal
utf8_tag_check bs = tag_limit bs (well_check bs)
