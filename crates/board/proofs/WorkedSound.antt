-- Rails worked out by hand that are sound, and that aren't in one point alone.
use Rattle.std.specs.Prelude.{IsSome, All}
use Rattle.std.proofs.Common.{◌≡◌, ◌≢◌, ℕ, zero, suc, true, false, List, [], ◌∷◌, Option, Some, None, refl, arith}
use Rattle.std.proofs.lemmas.Option.{same_Some}
use Rattle.std.proofs.lemmas.List.Elements.{All-from_recursion}
use Rattle.linear_range.specs.Values.{values}
use Rattle.load_modes.specs.Modes.{suffices, mode_of_load}
use Rattle.board_graph.proofs.FailsBy.{FailsBy}
use Rattle.board.specs.declared.rail.Rail.{Rail}
use Rattle.board.specs.declared.sleep.Sleep.{Sleep}
use Rattle.chip_regs.specs.declared.field.Field.{Field}
use Rattle.board.specs.declared.part.Part.TheVariants.{Selector, Enable, ModePart, SuspendEnable, SuspendSelector}
use Rattle.board.specs.declared.table.Table.TheVariants.{List as Listed}
use Rattle.board.specs.Table.{uv_of}
use Rattle.board.specs.declared.desc.Desc.{Desc}
use Rattle.board.specs.Desc.{ArePlaced, IsSoundDesc}
use Rattle.board.specs.Rail.{allowed}
use Rattle.board.specs.Valid.{is_span, HasSelector, SleepsWell, IsSoundRail, CarriesSystemLoad}
use Rattle.board.proofs.Boards.{low_bits, bit, buck, core_table, io_table, usb_table, within, first_buck, second_buck, io_rail, usb_rail, battery, low_rail, high_rail}
use Rattle.board.proofs.Exact.{FillsMask, listed_has}
use Rattle.board.proofs.WorkedDescs.{buck_sound, ldo_sound, fixed_sound, core_fills, io_fills, usb_fills}

-- bounds that leave room
spans : is_span (Some (5, 6)) ≡ true
spans = refl

equal_bounds : is_span (Some (5, 5)) ≡ false
equal_bounds = refl

no_bounds : is_span None ≡ false
no_bounds = refl

-- the ldo has the selector 3 for 2500000 µV, and none for 2500001
has_selector : HasSelector usb_rail (low_bits 0x43 0x07) 2500000
has_selector = record { sel = 3; value = refl; fits = omega arith }

-- the selectors of the ldo's values, one by one
value_at : (sel uv : ℕ) → uv_of usb_table sel ≡ Some uv → (uv ≡ 3300000 → sel ≡ 7) × (uv ≢ 2500001)
value_at zero uv is = let e = same_Some 1200000 uv is in (λ same. absurd (omega arith), λ same. absurd (omega arith))
value_at (suc zero) uv is = let e = same_Some 1500000 uv is in (λ same. absurd (omega arith), λ same. absurd (omega arith))
value_at (suc (suc zero)) uv is = let e = same_Some 1800000 uv is in (λ same. absurd (omega arith), λ same. absurd (omega arith))
value_at (suc (suc (suc zero))) uv is = let e = same_Some 2500000 uv is in (λ same. absurd (omega arith), λ same. absurd (omega arith))
value_at (suc (suc (suc (suc zero)))) uv is = let e = same_Some 2800000 uv is in (λ same. absurd (omega arith), λ same. absurd (omega arith))
value_at (suc (suc (suc (suc (suc zero))))) uv is = let e = same_Some 3000000 uv is in (λ same. absurd (omega arith), λ same. absurd (omega arith))
value_at (suc (suc (suc (suc (suc (suc zero)))))) uv is = let e = same_Some 3200000 uv is in (λ same. absurd (omega arith), λ same. absurd (omega arith))
value_at (suc (suc (suc (suc (suc (suc (suc zero))))))) uv is = (λ same. refl, λ same. absurd (omega (arith, same_Some 3300000 uv is)))
value_at (suc (suc (suc (suc (suc (suc (suc (suc sel)))))))) uv is = absurd (cc)

has_no_selector : ¬ HasSelector usb_rail (low_bits 0x43 0x07) 2500001
has_no_selector has = (value_at has.sel 2500001 has.value).1 refl

-- its last value has the selector 7, which doesn't fit two bits
has_too_great_a_selector : ¬ HasSelector usb_rail (low_bits 0x43 0x03) 3300000
has_too_great_a_selector has = absurd (omega (arith, has.fits, (value_at has.sel 3300000 has.value).0 refl))

-- a sleep without a value asks nothing of a rail
abbrev asleep : Option ℕ → Option Sleep
asleep uv = Some (record { on = None; uv = uv })

sleeps_anyhow : SleepsWell usb_rail (asleep None)
sleeps_anyhow = tt

sleeps_well : SleepsWell usb_rail (asleep (Some 2500000))
sleeps_well = record { sel = 3; value = refl; fits = omega arith }

sleeps_badly : ¬ SleepsWell usb_rail (asleep (Some 2500001))
sleeps_badly has = has_no_selector has

-- a rail without a suspended selector may be asked for any value
sleeps_without_selector : SleepsWell battery (asleep (Some 2500001))
sleeps_without_selector = tt

-- the rails of the boards are sound
no_sleeps : (rail : Rail) → All (SleepsWell rail) (None ∷ None ∷ None ∷ [])
no_sleeps rail = All-from_recursion (SleepsWell rail) (None ∷ None ∷ None ∷ []) (tt, (tt, (tt, tt)))

pub first_sound : IsSoundRail 1 first_buck
unfolding values
first_sound = record {
  desc = buck_sound 1 (omega arith) 0 (omega arith) core_table 0x7f core_fills;
  changeable = refl;
  moves = λ _. refl;
  sleeps = no_sleeps first_buck;
  some_value = λ none. cc;
}

pub second_sound : IsSoundRail 1 second_buck
unfolding values
second_sound = record {
  desc = buck_sound 1 (omega arith) 1 (omega arith) core_table 0x7f core_fills;
  changeable = refl;
  moves = λ _. refl;
  sleeps = no_sleeps second_buck;
  some_value = λ none. cc;
}

-- a description's ramp says nothing of its soundness
other_ramp_placed : (chips : ℕ) (desc : Desc) (ramp : ℕ) → ArePlaced chips desc → ArePlaced chips (record desc { ramp = ramp })
other_ramp_placed chips desc ramp placed Selector = placed Selector
other_ramp_placed chips desc ramp placed Enable = placed Enable
other_ramp_placed chips desc ramp placed ModePart = placed ModePart
other_ramp_placed chips desc ramp placed SuspendEnable = placed SuspendEnable
other_ramp_placed chips desc ramp placed SuspendSelector = placed SuspendSelector

other_ramp : (chips : ℕ) (desc : Desc) (ramp : ℕ) → IsSoundDesc chips desc → IsSoundDesc chips (record desc { ramp = ramp })
other_ramp chips desc ramp sound = record {
  placed = other_ramp_placed chips desc ramp sound.placed;
  selector = sound.selector;
  enable = sound.enable;
  suspend_enable = sound.suspend_enable;
  modes = sound.modes;
}

pub io_sound : IsSoundRail 2 io_rail
unfolding values
io_sound = record {
  desc = other_ramp 2 (buck 2 io_table 0x1f) 10000 (buck_sound 2 (omega arith) 2 (omega arith) io_table 0x1f io_fills);
  changeable = refl;
  moves = λ _. refl;
  sleeps = no_sleeps io_rail;
  some_value = λ none. cc;
}

pub usb_sound : IsSoundRail 2 usb_rail
usb_sound = record {
  desc = ldo_sound 2 (omega arith) 3 (omega arith) usb_table 0x07 usb_fills;
  changeable = refl;
  moves = λ _. refl;
  sleeps = no_sleeps usb_rail;
  some_value = λ none. cc;
}

pub battery_sound : IsSoundRail 2 battery
battery_sound = record {
  desc = fixed_sound 5000000;
  changeable = refl;
  moves = λ changes. absurd (cc);
  sleeps = no_sleeps battery;
  some_value = λ none. cc;
}

-- the second one by another name
pub renamed_sound : (name : List ℕ) → IsSoundRail 1 (record second_buck { name = record { bytes = name; spare = [] } })
unfolding values
renamed_sound name = record { desc = second_sound.desc; changeable = refl; moves = λ _. refl; sleeps = no_sleeps (record second_buck { name = record { bytes = name; spare = [] } }); some_value = λ none. cc }

-- the second one with the on bit of the first
abbrev sharing : Desc
sharing = record (buck 1 core_table 0x7f) { enable = bit 0x20 0 }

sharing_placed : ArePlaced 1 sharing
sharing_placed Selector = second_sound.desc.placed Selector
sharing_placed Enable = first_sound.desc.placed Enable
sharing_placed ModePart = second_sound.desc.placed ModePart
sharing_placed SuspendEnable = second_sound.desc.placed SuspendEnable
sharing_placed SuspendSelector = second_sound.desc.placed SuspendSelector

pub sharing_sound : IsSoundRail 1 (record second_buck { desc = sharing })
unfolding values
sharing_sound = record {
  desc = record { placed = sharing_placed; selector = second_sound.desc.selector; enable = refl; suspend_enable = refl; modes = refl };
  changeable = refl;
  moves = λ _. refl;
  sleeps = no_sleeps (record second_buck { desc = sharing });
  some_value = λ none. cc;
}

-- the rails with a gap
two_values : (uv other : ℕ) → FillsMask (Listed (uv ∷ other ∷ [])) 0x01
two_values uv other = record { width = 1; some = omega arith; within = omega arith; ones = refl; has = listed_has (uv ∷ other ∷ []) 1 refl }

pub low_sound : IsSoundRail 1 low_rail
low_sound = record {
  desc = buck_sound 1 (omega arith) 0 (omega arith) (Listed (0 ∷ 100 ∷ [])) 0x01 (two_values 0 100);
  changeable = refl;
  moves = λ _. refl;
  sleeps = no_sleeps low_rail;
  some_value = λ none. cc;
}

pub high_sound : IsSoundRail 1 high_rail
high_sound = record {
  desc = buck_sound 1 (omega arith) 1 (omega arith) (Listed (30 ∷ 130 ∷ [])) 0x01 (two_values 30 130);
  changeable = refl;
  moves = λ _. refl;
  sleeps = no_sleeps high_rail;
  some_value = λ none. cc;
}

-- on a board that lacks its chip
unplaced : FailsBy (IsSoundDesc 1 battery.desc) (IsSoundRail 1 battery)
unplaced = record {
  needs = λ sound. sound.desc;
  suffices = λ desc. record { desc = desc; changeable = refl; moves = battery_sound.moves; sleeps = battery_sound.sleeps; some_value = battery_sound.some_value };
  fails = λ desc. absurd (omega (arith, (desc.placed Enable).chip));
}

-- marked as one that can't change, though its bounds leave it room
abbrev frozen : Rail
frozen = record usb_rail { changeable = false }

wrongly_marked : FailsBy (false ≡ true) (IsSoundRail 2 frozen)
wrongly_marked = record {
  needs = λ sound. sound.changeable;
  suffices = λ marked. record { desc = usb_sound.desc; changeable = marked; moves = λ changes. refl; sleeps = no_sleeps frozen; some_value = λ none. cc };
  fails = λ marked. cc;
}

-- a fixed rail with bounds that leave it room
abbrev loose : Rail
loose = record battery { limits = within 4000000 6000000; changeable = true }

without_selector : FailsBy (IsSome {T = Field} None) (IsSoundRail 2 loose)
without_selector = record {
  needs = λ sound. sound.moves refl;
  suffices = λ some. record { desc = fixed_sound 5000000; changeable = refl; moves = λ changes. some; sleeps = no_sleeps loose; some_value = λ none. cc };
  fails = λ some. cc;
}

-- asked in its last sleep for a value that it lacks
abbrev bad_sleep : Rail
bad_sleep = record usb_rail { limits = record usb_rail.limits { sleeps = None ∷ None ∷ asleep (Some 2500001) ∷ [] } }

sleepless : FailsBy (HasSelector bad_sleep (low_bits 0x43 0x07) 2500001) (IsSoundRail 2 bad_sleep)
sleepless = record {
  needs = λ sound. sound.sleeps 2 None (omega arith);
  suffices = λ has. record {
    desc = usb_sound.desc;
    changeable = refl;
    moves = usb_sound.moves;
    sleeps = All-from_recursion (SleepsWell bad_sleep) (None ∷ None ∷ asleep (Some 2500001) ∷ []) (tt, (tt, (has, tt)));
    some_value = usb_sound.some_value;
  };
  fails = λ has. (value_at has.sel 2500001 has.value).1 refl;
}

-- bounds between two values
abbrev valueless : Rail
valueless = record usb_rail { limits = within 1900000 2400000 }

no_value_within : FailsBy (allowed valueless ≢ []) (IsSoundRail 2 valueless)
no_value_within = record {
  needs = λ sound. sound.some_value;
  suffices = λ some. record { desc = usb_sound.desc; changeable = refl; moves = usb_sound.moves; sleeps = no_sleeps valueless; some_value = some };
  fails = λ some. some refl;
}

-- a rail that counts loads carries 3000000 µA at the most, or 1000000 µA where it isn't to be fast
abbrev pub loaded : ℕ → ℕ → Rail
loaded load modes = record first_buck { limits = record first_buck.limits { allow_load = true; system_load = load; allowed = record { 0 = modes } } }

pub loaded_sound : (load modes : ℕ) → IsSoundRail 1 (loaded load modes)
unfolding values
loaded_sound load modes = record { desc = first_sound.desc; changeable = refl; moves = λ _. refl; sleeps = no_sleeps (loaded load modes); some_value = λ none. cc }

carries : CarriesSystemLoad (loaded 3000000 15)
unfolding suffices mode_of_load
carries _ = refl

pub overloaded : ¬ CarriesSystemLoad (loaded 3000001 15)
unfolding suffices mode_of_load
overloaded carried = let some = carried refl in cc

overloaded_slow : ¬ CarriesSystemLoad (loaded 1000001 14)
unfolding suffices mode_of_load
overloaded_slow carried = let some = carried refl in cc

-- one that counts none carries whatever it is
carries_uncounted : CarriesSystemLoad (record first_buck { limits = record first_buck.limits { system_load = 3000001 } })
carries_uncounted counts = absurd (cc)
