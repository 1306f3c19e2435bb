-- Registers that are given new contents one after another.
use Rattle.std.proofs.Common.{◌≡◌, ℕ, List, [], ◌∷◌, ◌++◌, refl}
use Rattle.chip_regs.specs.Registers.{with_byte}
use Rattle.board_load.specs.Registers.{with_bytes}

pub with_bytes-more : (regs : List (List ℕ)) (news : List (ℕ × ℕ × ℕ)) (new : ℕ × ℕ × ℕ) → with_bytes regs (news ++ new ∷ []) ≡ with_byte (with_bytes regs news) new.0 new.1 new.2
with_bytes-more regs [] new = refl
with_bytes-more regs (first ∷ news) new = with_bytes-more (with_byte regs first.0 first.1 first.2) news new
