-- The commands, by their words.
use Rattle.std.specs.Prelude.{ℕ, ◌≡◌, List, [], ◌∷◌, codes}
use Rattle.regulator_main.specs.declared.words.Command.{Command}
use Rattle.regulator_main.specs.declared.words.Command.TheVariants.{Check, Solo}

abbrev pub word_of : Command → List ℕ
word_of Check = codes "check"
word_of Solo = codes "solo"

-- these words are the command
abbrev pub AreWordsOf : Command → List (List ℕ) → Type 0
AreWordsOf command words = words ≡ word_of command ∷ []
