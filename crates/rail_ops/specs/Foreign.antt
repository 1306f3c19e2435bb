-- What stands in the registers and is in no field of the board's rails.
use Rattle.std.specs.Prelude.{List, [], ◌∷◌, filter_map, flat_map, ℕ}
use Rattle.chip_regs.specs.declared.field.Field.{Field}
use Rattle.chip_regs.specs.Registers.{with_field}
use Rattle.board.specs.declared.board.Board.{Board}
use Rattle.board.specs.declared.part.Part.{Part}
use Rattle.board.specs.declared.part.Part.TheVariants.{Selector, Enable, ModePart, SuspendEnable, SuspendSelector}
use Rattle.board.specs.declared.rail.Rail.{Rail}
use Rattle.board.specs.Rail.{part_field}

-- the parts that a rail can have a field of
abbrev pub parts : List Part
parts = Selector ∷ Enable ∷ ModePart ∷ SuspendEnable ∷ SuspendSelector ∷ []

-- the fields of a rail
abbrev pub fields_of_rail : Rail → List Field
fields_of_rail rail = filter_map (λ part. part_field part rail) parts

-- the fields of all rails of the board
abbrev pub fields_of : Board → List Field
fields_of board = flat_map fields_of_rail board.rails

-- the registers with 0 in each of these fields
abbrev pub cleared : List Field → List (List ℕ) → List (List ℕ)
cleared [] regs = regs
cleared (field ∷ fields) regs = cleared fields (with_field regs field 0)

-- the registers with 0 in each field of the board's rails: what is in no field
abbrev pub foreign : Board → List (List ℕ) → List (List ℕ)
foreign board regs = cleared (fields_of board) regs
