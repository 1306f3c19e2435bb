-- Strings that are read byte by byte.
use Rattle.std.specs.Prelude.{ℕ, List, [], ◌∷◌, ◌++◌, Option, Some, None}
use Rattle.std.specs.Option.{option_map}

-- one more byte of the last string, where there is one
abbrev pub with_last_byte : List (List ℕ) → ℕ → Option (List (List ℕ))
with_last_byte [] byte = None
with_last_byte (s ∷ []) byte = Some ((s ++ byte ∷ []) ∷ [])
with_last_byte (s ∷ t ∷ strings) byte = option_map (λ others. s ∷ others) (with_last_byte (t ∷ strings) byte)
