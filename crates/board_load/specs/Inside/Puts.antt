-- The numbers that loading puts into fields.
use Rattle.std.specs.Prelude.{ℕ, ◌*◌, ◌^◌, ◌==◌, Bool, List, [], ◌∷◌, ◌++◌, flat_map, slice_get, slice_index, Option, None, Some, option_and_then, if◌then◌else◌}
use Rattle.std.specs.Option.{option_map_or, option_to_list}
use Rattle.chip_regs.specs.declared.field.Field.{Field}
use Rattle.chip_regs.specs.Registers.{field_of, with_field}
use Rattle.board.specs.declared.board.Board.{Board}
use Rattle.board.specs.declared.rail.Rail.{Rail}
use Rattle.board.specs.declared.write.Write.{Write}
use Rattle.board.specs.Rail.{uv}
use Rattle.plain_board.specs.Plan.{mode_number, table_selector}
use Rattle.board_load.specs.declared.puts.Put.{Put}
use Rattle.board_load.specs.Start.{start_mode, starts_on}

-- a number for a field, where it holds another
abbrev pub changed_put : List (List ℕ) → Field → ℕ → Option Put
changed_put regs field bits = if field_of regs field == bits then None else Some (record { field = field; bits = bits })

-- the selector of a rail's value, where it doesn't stand there
abbrev pub value_put : List (List ℕ) → ℕ → Rail → Option Put
value_put regs target rail =
    if uv rail regs == target then None
    else option_and_then (λ field. option_and_then (changed_put regs field) (table_selector rail target)) rail.desc.selector

-- the number of a rail's mode, where it isn't in it
abbrev pub mode_put : List (List ℕ) → Rail → Option Put
mode_put regs rail = option_and_then (λ field. option_and_then (λ mode. changed_put regs field (mode_number mode)) (start_mode rail)) rail.desc.modes

-- a rail's on bit, where it is to be on and isn't
abbrev pub on_put : List (List ℕ) → Bool → Rail → Option Put
on_put regs on rail = if on then changed_put regs rail.desc.enable 1 else None

-- those of one rail's value and mode, and that of its on bit
abbrev pub value_and_mode_puts : Board → List (List ℕ) → List ℕ → ℕ → List Put
value_and_mode_puts board regs values r =
    option_map_or (λ rail. option_to_list (value_put regs (slice_index values r) rail) ++ option_to_list (mode_put regs rail)) (slice_get board.rails r) []

abbrev pub on_puts : Board → List (List ℕ) → ℕ → List Put
on_puts board regs r = option_map_or (λ rail. option_to_list (on_put regs (starts_on board regs r) rail)) (slice_get board.rails r) []

-- all of them
abbrev pub loading_puts : Board → List (List ℕ) → List ℕ → List Put
loading_puts board regs values = flat_map (value_and_mode_puts board regs values) board.order ++ flat_map (on_puts board regs) board.order

-- the registers after some
abbrev pub after_puts : List (List ℕ) → List Put → List (List ℕ)
after_puts regs [] = regs
after_puts regs (put ∷ puts) = after_puts (with_field regs put.field put.bits) puts

-- one as a masked update
abbrev pub write_of_put : Put → Write
write_of_put put = record { chip = put.field.chip; reg = put.field.reg; mask = put.field.mask; bits = put.bits * 2 ^ put.field.shift }
