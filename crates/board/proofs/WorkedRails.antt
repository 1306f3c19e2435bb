-- Rails worked out by hand: the values that they may stand at, and what registers say of them.
use Rattle.chip_regs.specs.Width.{register_contents, chip_registers}
use Rattle.std.specs.Prelude.{◌≡◌, ℕ, ◌-◌, true, false, List, [], ◌∷◌, Some, None, replicate}
use Rattle.std.proofs.Common.{refl}
use Rattle.linear_range.specs.Values.{values}
use Rattle.load_modes.specs.declared.mode.Mode.TheVariants.{Fast, Normal, Idle, Standby}
use Rattle.chip_regs.specs.Registers.{byte_of, with_byte, field_of}
use Rattle.board.specs.declared.part.Part.TheVariants.{Selector, Enable, ModePart, SuspendEnable, SuspendSelector}
use Rattle.board.specs.declared.rail.Rail.{Rail}
use Rattle.board.specs.Table.{uv_of, values_of}
use Rattle.board.specs.Rail.{is_within, choices, allowed, IsAllowed, least, uv, is_on, mode_numbered, mode, part_field, counts_loads}
use Rattle.board.proofs.Boards.{low_bits, bit, io_table, usb_table, first_buck, second_buck, io_rail, usb_rail, battery}

-- tables by ranges and by a list
at_first_range : uv_of io_table 15 ≡ Some 1550000
at_first_range = refl

at_second_range : uv_of io_table 16 ≡ Some 1600000
at_second_range = refl

behind_ranges : uv_of io_table 32 ≡ None
behind_ranges = refl

at_list : uv_of usb_table 7 ≡ Some 3300000
at_list = refl

behind_list : uv_of usb_table 8 ≡ None
behind_list = refl

list_written_out : values_of usb_table ≡ (0, 1200000) ∷ (1, 1500000) ∷ (2, 1800000) ∷ (3, 2500000) ∷ (4, 2800000) ∷ (5, 3000000) ∷ (6, 3200000) ∷ (7, 3300000) ∷ []
list_written_out = refl

-- bounds hold themselves
at_both_bounds : is_within (Some (5, 5)) 5 ≡ true
at_both_bounds = refl

below_bounds : is_within (Some (5, 7)) 4 ≡ false
below_bounds = refl

above_bounds : is_within (Some (5, 7)) 8 ≡ false
above_bounds = refl

without_bounds : is_within None 8 ≡ true
without_bounds = refl

-- the choices of an ldo within 1800000 to 2800000 µV, of a buck, and of a rail that can't change
abbrev narrow_rail : Rail
narrow_rail = record usb_rail { limits = record usb_rail.limits { bounds = Some (1800000, 2800000) } }

choices_of_list : choices narrow_rail ≡ (2, 1800000) ∷ (3, 2500000) ∷ (4, 2800000) ∷ []
choices_of_list = refl

allowed_of_list : allowed narrow_rail ≡ 1800000 ∷ 2500000 ∷ 2800000 ∷ []
allowed_of_list = refl

choices_of_fixed : choices battery ≡ (0, 5000000) ∷ []
choices_of_fixed = refl

-- the bounds of a rail that can't change say nothing of its one value
kept_outside_bounds : allowed (record narrow_rail { changeable = false; kept_uv = 1500000 }) ≡ 1500000 ∷ []
kept_outside_bounds = refl

allowed_at_bound : IsAllowed first_buck 1000000
unfolding values
allowed_at_bound = refl

not_allowed_between : ¬ IsAllowed narrow_rail 2500001
not_allowed_between is = cc

not_allowed_outside : ¬ IsAllowed narrow_rail 3000000
not_allowed_outside is = cc

-- the least of numbers
least_of_three : least (5 ∷ 3 ∷ 4 ∷ []) ≡ Some 3
least_of_three = refl

least_of_rising : least (3 ∷ 5 ∷ []) ≡ Some 3
least_of_rising = refl

least_of_none : least [] ≡ None
least_of_none = refl

-- Registers of two chips. In chip 0 the first selector is 49 with the spare bit set, the second 64;
-- the first rail is off and the second on; the modes are standby, idle and fast.
abbrev some_regs : List (List ℕ)
some_regs = with_byte (with_byte (with_byte (with_byte (replicate chip_registers 0 ∷ replicate chip_registers (register_contents - 1) ∷ []) 0 0x10 0xb1) 0 0x11 0x40) 0 0x20 0x0a) 0 0x30 0x0b

stands_by_selector : uv first_buck some_regs ≡ 906250
unfolding with_byte byte_of field_of
stands_by_selector = refl

other_stands_by_selector : uv second_buck some_regs ≡ 1000000
unfolding with_byte byte_of field_of
other_stands_by_selector = refl

-- without a selector field, and where the selector has no value, a rail stands at its kept value
stands_by_kept : uv battery some_regs ≡ 5000000
stands_by_kept = refl

stands_by_kept_beside : uv (record first_buck { desc = record first_buck.desc { table = usb_table } }) some_regs ≡ 1000000
unfolding with_byte byte_of field_of
stands_by_kept_beside = refl

first_is_off : is_on first_buck some_regs ≡ false
unfolding with_byte byte_of field_of
first_is_off = refl

second_is_on : is_on second_buck some_regs ≡ true
unfolding with_byte byte_of field_of
second_is_on = refl

fixed_is_on : is_on battery some_regs ≡ true
unfolding with_byte byte_of field_of
fixed_is_on = refl

-- an on bit is 1, and no other number
two_is_off : is_on (record first_buck { desc = record first_buck.desc { enable = low_bits 0x20 0x0e } }) some_regs ≡ false
unfolding with_byte byte_of field_of
two_is_off = refl

first_in_standby : mode first_buck some_regs ≡ Standby
unfolding with_byte byte_of field_of
first_in_standby = refl

second_in_idle : mode second_buck some_regs ≡ Idle
unfolding with_byte byte_of field_of
second_in_idle = refl

third_in_fast : mode io_rail some_regs ≡ Fast
unfolding with_byte byte_of field_of
third_in_fast = refl

in_normal : mode_numbered 1 ≡ Normal
in_normal = refl

normal_without_modes : mode usb_rail some_regs ≡ Normal
normal_without_modes = refl

-- the field of each part
selector_field : part_field Selector io_rail ≡ Some (low_bits 0x12 0x1f)
selector_field = refl

enable_field : part_field Enable io_rail ≡ Some (bit 0x20 2)
enable_field = refl

mode_field : part_field ModePart io_rail ≡ Some (record { chip = 0; reg = 0x30; mask = 0x30; shift = 4 })
mode_field = refl

suspend_enable_field : part_field SuspendEnable io_rail ≡ Some (bit 0x21 2)
suspend_enable_field = refl

suspend_selector_field : part_field SuspendSelector io_rail ≡ Some (low_bits 0x42 0x1f)
suspend_selector_field = refl

no_mode_field : part_field ModePart usb_rail ≡ None
no_mode_field = refl

-- loads are counted where they are asked for and the rail has modes
loads_with_modes : counts_loads (record first_buck { limits = record first_buck.limits { allow_load = true } }) ≡ true
loads_with_modes = refl

no_loads_unasked : counts_loads first_buck ≡ false
no_loads_unasked = refl

no_loads_without_modes : counts_loads (record usb_rail { limits = record usb_rail.limits { allow_load = true } }) ≡ false
no_loads_without_modes = refl
