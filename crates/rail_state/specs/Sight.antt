-- What can be seen of a board under the locks of some of its rails.
use Rattle.std.specs.Prelude.{ℕ, ◌≡◌, List, length, Contains, Some}
use Rattle.chip_regs.specs.declared.field.Field.{Field}
use Rattle.chip_regs.specs.Registers.{IsImage, field_of, with_field}
use Rattle.board_graph.specs.Sets.{guard_of}
use Rattle.board.specs.declared.board.Board.{Board}
use Rattle.board.specs.declared.part.Part.{Part}
use Rattle.board.specs.Fields.{field_at}
use Rattle.rail_law.specs.Law.{Law}

-- one of the locks that guard rail j is among these
abbrev pub IsGuarded : Board → List ℕ → ℕ → Type 0
IsGuarded board rails j = (i : ℕ) × Contains rails i × Contains (guard_of board.graph j) i

-- all locks that guard rail j are among these
abbrev pub IsOwned : Board → List ℕ → ℕ → Type 0
IsOwned board rails j = (i : ℕ) → Contains (guard_of board.graph j) i → Contains rails i

-- the registers look so: each field that can be seen under these locks has its number
abbrev pub Look : Board → List ℕ → (ℕ → Part → ℕ) → List (List ℕ) → Type 0
Look board rails bits regs =
    (j : ℕ) (part : Part) (field : Field) → IsGuarded board rails j → field_at board j part ≡ Some field → field_of regs field ≡ bits j part

-- whatever stands in the fields that can't be seen: where the law holds, it holds once the field has this number
abbrev pub KeepsLaw : Board → List ℕ → (ℕ → Part → ℕ) → Field → ℕ → Type 0
KeepsLaw board rails bits field number =
    (regs : List (List ℕ)) → IsImage regs → length regs ≡ board.chips → Look board rails bits regs
    → Law board regs → Law board (with_field regs field number)
