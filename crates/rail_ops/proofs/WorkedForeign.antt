-- What is in no field of two coupled bucks: of the byte 0x15 of the modes at 0x30 the low four bits are theirs, and 0x10 isn't.
use Rattle.std.specs.Prelude.{◌≡◌, ℕ, List, [], ◌∷◌}
use Rattle.std.proofs.Common.{refl}
use Rattle.chip_regs.specs.Registers.{byte_of, with_byte, with_field}
use Rattle.board.proofs.Boards.{coupled_board}
use Rattle.plain_board.proofs.Played.{chip_with}
use Rattle.plain_board.proofs.PlayedBoards.{reset_chip}
use Rattle.rail_ops.specs.Foreign.{foreign}

-- a chip on which nothing but the modes holds a bit that is in no field
abbrev others_left : List ℕ
others_left = chip_with ((0x30, 0x10) ∷ [])

left_after_reset : foreign coupled_board (reset_chip ∷ []) ≡ others_left ∷ []
unfolding byte_of with_byte with_field
left_after_reset = refl

-- a buck that is on at 812500 µV, and one that sleeps at 1000000 µV: only fields differ
only_fields_differ : foreign coupled_board (chip_with ((0x10, 0x21) ∷ (0x11, 0x20) ∷ (0x20, 0x01) ∷ (0x30, 0x1a) ∷ (0x41, 0x30) ∷ []) ∷ []) ≡ foreign coupled_board (reset_chip ∷ [])
unfolding byte_of with_byte with_field
only_fields_differ = refl

-- the mode of the third buck, which is no rail of the board, and the top bit beside a selector
other_bits_differ : foreign coupled_board (chip_with ((0x10, 0xa0) ∷ (0x11, 0x20) ∷ (0x30, 0x25) ∷ []) ∷ []) ≡ chip_with ((0x10, 0x80) ∷ (0x30, 0x20) ∷ []) ∷ []
unfolding byte_of with_byte with_field
other_bits_differ = refl
