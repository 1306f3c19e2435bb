-- The registers that a board is found with.
use Rattle.std.specs.Prelude.{ℕ, ◌<◌, List, [], ◌∷◌, All, replicate}
use Rattle.chip_regs.specs.Registers.{with_byte}
use Rattle.chip_regs.specs.Width.{chip_registers}
use Rattle.board_draft.specs.declared.drafted.Drafted.{Drafted}

-- the registers with new contents of some of them, each a chip, a register and its content; of two for one register the later counts
abbrev pub with_bytes : List (List ℕ) → List (ℕ × ℕ × ℕ) → List (List ℕ)
with_bytes regs [] = regs
with_bytes regs (new ∷ news) = with_bytes (with_byte regs new.0 new.1 new.2) news

-- what the registers of a board's chips hold after a reset
abbrev pub reset_regs : Drafted → List (List ℕ)
reset_regs drafted = with_bytes (replicate drafted.board.chips (replicate chip_registers 0)) drafted.resets

-- each of these names one of so many chips
abbrev pub NameChips : ℕ → List (ℕ × ℕ × ℕ) → Type 0
NameChips chips news = All (λ new. new.0 < chips) news
