-- Register writes as a wire tells them.
use Rattle.std.specs.Prelude.{ℕ}
use Rattle.board.specs.declared.write.Write.{Write}

-- an update: the chip, the register, the mask and the bits
abbrev pub update_of : Write → ℕ × ℕ × ℕ × ℕ
update_of write = (write.chip, write.reg, write.mask, write.bits)
