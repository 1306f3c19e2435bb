-- What is read off the numbers that are seen in the fields of a rail.
use Rattle.std.specs.Prelude.{ℕ, Option, None, Some, unwrap_or, slice_get}
use Rattle.std.specs.Option.{option_map_or}
use Rattle.chip_regs.specs.declared.field.Field.{Field}
use Rattle.board.specs.declared.board.Board.{Board}
use Rattle.board.specs.declared.rail.Rail.{Rail}
use Rattle.board.specs.Table.{uv_of}

-- where a rail stands whose selector field, if it has one, holds this number
abbrev pub uv_told : Rail → ℕ → Option Field → ℕ
uv_told rail number None = rail.kept_uv
uv_told rail number (Some field) = unwrap_or (uv_of rail.desc.table number) rail.kept_uv

-- where rail r stands, by the number of its selector field
abbrev pub told_at : Board → ℕ → ℕ → ℕ
told_at board r number = option_map_or (λ rail. uv_told rail number rail.desc.selector) (slice_get board.rails r) 0
