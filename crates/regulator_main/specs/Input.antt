use Rattle.std.specs.Prelude.{◌≡◌, ◌≤◌, ℕ, List, Option, length}
use Rattle.reg_outside.specs.Told.{with_before}

-- some bytes were taken from the front, at most this many
abbrev pub TookAtMost : ℕ → Option (List ℕ) → Option (List ℕ) → Type 0
TookAtMost most old new = (taken : List ℕ) × (length taken ≤ most) × (old ≡ with_before taken new)
