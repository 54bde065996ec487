-- What the words of a command line ask for. Assumes nothing.
use Rattle.std.specs.Prelude.{◌≡◌, ℕ, ◌<◌, List, [], ◌∷◌, length, drop, Ok, Err, string_bytes, codes, Result, String, ◌≢◌}
use Rattle.std.specs.declared.alloc.Global.{Global}
use Rattle.loom.specs.declared.command.Command.{Command}
use Rattle.loom.specs.declared.command.Command.TheVariants.{Help, Text}
use Rattle.loom.specs.declared.command.UsageError.{UsageError}
use Rattle.loom.specs.declared.command.UsageError.TheVariants.{NoCommand, UnknownCommand, NoFile, TooManyWords}

-- the words are one word, and nothing else
abbrev pub Alone : List (String Global) → List ℕ → Type 0
Alone [] word = ⊥
Alone (w ∷ ws) word = (string_bytes w ≡ word) × (length ws ≡ 0)

-- the words are one word, and then others
abbrev pub With : List (String Global) → List ℕ → List (String Global) → Type 0
With [] word others = ⊥
With (w ∷ ws) word others = (string_bytes w ≡ word) × (0 < length ws) × (others ≡ ws)

-- the first word is this one, and none of the commands
abbrev pub Strange : List (String Global) → List ℕ → Type 0
Strange [] word = ⊥
Strange (w ∷ ws) word = (string_bytes w ≡ word) × (word ≢ codes "--help") × (word ≢ codes "text")

abbrev pub Parsed : List (String Global) → Result Command UsageError → Type 0
Parsed ws (Ok Help) = Alone ws (codes "--help")
Parsed ws (Ok (Text names)) = With ws (codes "text") names.now
Parsed ws (Err NoCommand) = length ws ≡ 0
Parsed ws (Err NoFile) = Alone ws (codes "text")
Parsed ws (Err TooManyWords) = With ws (codes "--help") (drop 1 ws)
Parsed ws (Err (UnknownCommand word)) = Strange ws word.now
