-- What the registers say of a rail, and which values it may stand at.
use Rattle.std.specs.Prelude.{ℕ, Bool, ◌&&◌, ◌==◌, true, List, [], ◌∷◌, map, filter, Option, Some, None, unwrap_or, slice_get, nat_eq, nat_le, IsTrue, if◌then◌else◌}
use Rattle.std.specs.List.{list_any}
use Rattle.std.specs.Option.{is_some, option_map_or}
use Rattle.chip_regs.specs.declared.field.Field.{Field}
use Rattle.chip_regs.specs.Registers.{field_of}
use Rattle.load_modes.specs.declared.mode.Mode.{Mode}
use Rattle.load_modes.specs.declared.mode.Mode.TheVariants.{Fast, Normal, Idle, Standby}
use Rattle.board.specs.declared.part.Part.{Part}
use Rattle.board.specs.declared.rail.Rail.{Rail}
use Rattle.board.specs.Desc.{described_field}
use Rattle.board.specs.Table.{uv_of, values_of}

-- a value lies within bounds, where any are given
abbrev pub is_within : Option (ℕ × ℕ) → ℕ → Bool
is_within None uv = true
is_within (Some bounds) uv = nat_le bounds.0 uv && nat_le uv bounds.1

-- the pairs (selector, µV) among which a rail moves: those of its table within its bounds;
-- a rail that isn't changeable has one, whose selector is never written and stands as 0
abbrev pub choices : Rail → List (ℕ × ℕ)
choices rail =
    if rail.changeable
    then filter (λ pair. is_within rail.limits.bounds pair.1) (values_of rail.desc.table)
    else (0, rail.kept_uv) ∷ []

-- the values that a rail may stand at, in µV
abbrev pub allowed : Rail → List ℕ
allowed rail = map (λ pair. pair.1) (choices rail)

-- the rail may stand at this value
abbrev pub IsAllowed : Rail → ℕ → Type 0
IsAllowed rail uv = IsTrue (list_any (nat_eq uv) (allowed rail))

-- the lesser of a number and what may be a number
abbrev pub lesser : ℕ → Option ℕ → ℕ
lesser n None = n
lesser n (Some m) = if nat_le n m then n else m

-- the least number of a list
abbrev pub least : List ℕ → Option ℕ
least [] = None
least (n ∷ ns) = Some (lesser n (least ns))

-- the value that a selector field tells
abbrev pub told_uv : Rail → List (List ℕ) → Option Field → ℕ
told_uv rail regs None = rail.kept_uv
told_uv rail regs (Some field) = unwrap_or (uv_of rail.desc.table (field_of regs field)) rail.kept_uv

-- where the rail stands, in µV: the table at its selector, or its one value
abbrev pub uv : Rail → List (List ℕ) → ℕ
uv rail regs = told_uv rail regs rail.desc.selector

-- the rail is on: its on bit is 1
abbrev pub is_on : Rail → List (List ℕ) → Bool
is_on rail regs = field_of regs rail.desc.enable == 1

-- the modes, by the numbers of a mode field
abbrev pub mode_numbered : ℕ → Mode
mode_numbered n = unwrap_or (slice_get (Fast ∷ Normal ∷ Idle ∷ Standby ∷ []) n) Normal

-- the mode that the rail is in: the one that its mode field tells, and normal where it has none
abbrev pub mode : Rail → List (List ℕ) → Mode
mode rail regs = option_map_or (λ field. mode_numbered (field_of regs field)) rail.desc.modes Normal

-- the field of a part, where the rail has one
abbrev pub part_field : Part → Rail → Option Field
part_field part rail = described_field part rail.desc

-- consumers' loads choose the rail's mode: it was asked for, and the rail has modes
abbrev pub counts_loads : Rail → Bool
counts_loads rail = rail.limits.allow_load && is_some rail.desc.modes
