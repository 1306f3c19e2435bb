-- How wide registers are, and how many a chip has: the constants of `src/width.rt`.
use Rattle.std.specs.Prelude.{ℕ, ◌^◌}
use Rattle.std.specs.Int.{Width, w8}
use Rattle.chip_regs.specs.declared.width.TheConstants.{WIDTH, REGISTERS}

-- how many bits a register has
abbrev pub register_width : ℕ
register_width = WIDTH

-- how many contents a register can have
abbrev pub register_contents : ℕ
register_contents = 2 ^ register_width

-- how many registers a chip has
abbrev pub chip_registers : ℕ
chip_registers = REGISTERS

-- the kind of number that a register holds
abbrev pub register_word : Width
register_word = w8
