-- Writes of register fields of rails, and the registers after them.
use Rattle.std.specs.Prelude.{ℕ, ◌+◌, ◌-◌, ◌*◌, ◌^◌, ◌==◌, bit_and, List, [], ◌∷◌, map, find, slice_get, Option, Some, None, unwrap_or, option_map, option_and_then}
use Rattle.chip_regs.specs.declared.field.Field.{Field}
use Rattle.chip_regs.specs.Registers.{byte_of, with_byte, with_field}
use Rattle.board.specs.declared.board.Board.{Board}
use Rattle.board.specs.declared.part.Part.{Part}
use Rattle.board.specs.declared.rail.Rail.{Rail}
use Rattle.board.specs.declared.rail_id.RailId.{RailId}
use Rattle.board.specs.declared.write.Write.{Write}
use Rattle.board.specs.Rail.{choices, part_field}

-- the first selector that gives a value
abbrev pub selector_for : Rail → ℕ → ℕ
selector_for rail uv = unwrap_or (option_map (λ pair. pair.0) (find (λ pair. pair.1 == uv) (choices rail))) 0

-- one number for one field of one rail
pub record Move : Type 0 where
  pub rail : RailId
  pub part : Part
  pub bits : ℕ

-- the field that a move writes, where the rail has it
abbrev pub field_of_move : Board → Move → Option Field
field_of_move board move = option_and_then (part_field move.part) (slice_get board.rails move.rail.0)

-- the registers after a masked update of one of them: the bits of the mask are those of the update, and all others stay
abbrev pub after_write : List (List ℕ) → Write → List (List ℕ)
after_write regs write =
    let byte = byte_of regs write.chip write.reg in
    with_byte regs write.chip write.reg (byte - bit_and byte write.mask + bit_and write.bits write.mask)

-- the registers after a write of a field, where it is there
abbrev pub written : Option Field → List (List ℕ) → ℕ → List (List ℕ)
written None regs bits = regs
written (Some field) regs bits = with_field regs field bits

-- the registers after these moves
abbrev pub after_moves : Board → List (List ℕ) → List Move → List (List ℕ)
after_moves board regs [] = regs
after_moves board regs (move ∷ moves) = after_moves board (written (field_of_move board move) regs move.bits) moves

-- the masked update that a write of a field makes
abbrev pub update_of_field : Option Field → ℕ → Write
update_of_field None bits = record { chip = 0; reg = 0; mask = 0; bits = 0 }
update_of_field (Some field) bits = record { chip = field.chip; reg = field.reg; mask = field.mask; bits = bits * 2 ^ field.shift }

-- the register writes of these moves
abbrev pub writes_of : Board → List Move → List Write
writes_of board moves = map (λ move. update_of_field (field_of_move board move) move.bits) moves
