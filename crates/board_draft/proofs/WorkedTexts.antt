-- The text of each refusal, worked out by hand.
use Rattle.std.specs.Prelude.{◌≡◌, [], codes}
use Rattle.std.specs.Fmt.{digits}
use Rattle.std.proofs.Common.{refl}
use Rattle.constraints.specs.declared.prop.Prop.TheVariants.{Name, MinMicrovolt, MaxMicrovolt, SystemLoad, RampDelay, EnableRampDelay, SettlingTime, SettlingTimeUp, SettlingTimeDown, MaxStep, AllowedModes, InitialMode, CoupledWith, MaxSpread, SuspendMicrovolt, Supply}
use Rattle.board_draft.specs.declared.fault.BoardFault.TheVariants.{TooManyChips, UnknownChip, TooManyRails, NoRails, NameTooLong, TwoNames, BadCells, OneBound, Reversed, FixedRange, NoValueInside, BadMode, SuspendValue, NoSupply, SupplyLoop, NoCouple, OneWay, NoSpread, SpreadsDiffer, CoupledSupplier, GroupLoop, GapOverSpread, GapOverStep, SuspendSpread, LoadOverModes, Memory}
use Rattle.board_draft.specs.Text.{text_of}

-- each refusal, its numbers in their order
too_many_chips_text : text_of (TooManyChips 17) ≡ codes "toomanychips 17"
unfolding digits
too_many_chips_text = refl

unknown_chip_text : text_of (UnknownChip 4294967295) ≡ codes "unknownchip 4294967295"
unfolding digits
unknown_chip_text = refl

too_many_rails_text : text_of (TooManyRails 65) ≡ codes "toomanyrails 65"
unfolding digits
too_many_rails_text = refl

no_rails_text : text_of NoRails ≡ codes "norails"
unfolding digits
no_rails_text = refl

name_too_long_text : text_of (NameTooLong 0) ≡ codes "nametoolong 0"
unfolding digits
name_too_long_text = refl

two_names_text : text_of (TwoNames 0 63) ≡ codes "twonames 0 63"
unfolding digits
two_names_text = refl

one_bound_text : text_of (OneBound 3) ≡ codes "onebound 3"
unfolding digits
one_bound_text = refl

reversed_text : text_of (Reversed 12) ≡ codes "reversed 12"
unfolding digits
reversed_text = refl

fixed_range_text : text_of (FixedRange 4) ≡ codes "fixedrange 4"
unfolding digits
fixed_range_text = refl

no_value_inside_text : text_of (NoValueInside 9) ≡ codes "novalueinside 9"
unfolding digits
no_value_inside_text = refl

bad_mode_text : text_of (BadMode 1 3) ≡ codes "badmode 1 3"
unfolding digits
bad_mode_text = refl

suspend_value_text : text_of (SuspendValue 10) ≡ codes "suspendvalue 10"
unfolding digits
suspend_value_text = refl

no_supply_text : text_of (NoSupply 2) ≡ codes "nosupply 2"
unfolding digits
no_supply_text = refl

supply_loop_text : text_of (SupplyLoop 5) ≡ codes "supplyloop 5"
unfolding digits
supply_loop_text = refl

no_couple_text : text_of (NoCouple 6) ≡ codes "nocouple 6"
unfolding digits
no_couple_text = refl

one_way_text : text_of (OneWay 0 2) ≡ codes "oneway 0 2"
unfolding digits
one_way_text = refl

no_spread_text : text_of (NoSpread 7) ≡ codes "nospread 7"
unfolding digits
no_spread_text = refl

spreads_differ_text : text_of (SpreadsDiffer 1 4) ≡ codes "spreadsdiffer 1 4"
unfolding digits
spreads_differ_text = refl

coupled_supplier_text : text_of (CoupledSupplier 8 3) ≡ codes "coupledsupplier 8 3"
unfolding digits
coupled_supplier_text = refl

group_loop_text : text_of (GroupLoop 20) ≡ codes "grouploop 20"
unfolding digits
group_loop_text = refl

gap_over_spread_text : text_of (GapOverSpread 2 100000 50000) ≡ codes "gapoverspread 2 100000 50000"
unfolding digits
gap_over_spread_text = refl

gap_over_step_text : text_of (GapOverStep 0 6250 6249) ≡ codes "gapoverstep 0 6250 6249"
unfolding digits
gap_over_step_text = refl

suspend_spread_text : text_of (SuspendSpread 0 1) ≡ codes "suspendspread 0 1"
unfolding digits
suspend_spread_text = refl

load_over_modes_text : text_of (LoadOverModes 0 3000001) ≡ codes "loadovermodes 0 3000001"
unfolding digits
load_over_modes_text = refl

memory_text : text_of Memory ≡ []
memory_text = refl

-- each property of a rail's node that has a wrong form
name_cells : text_of (BadCells 0 Name) ≡ codes "badcells 0 regulator-name"
unfolding digits
name_cells = refl

min_microvolt_cells : text_of (BadCells 1 MinMicrovolt) ≡ codes "badcells 1 regulator-min-microvolt"
unfolding digits
min_microvolt_cells = refl

max_microvolt_cells : text_of (BadCells 2 MaxMicrovolt) ≡ codes "badcells 2 regulator-max-microvolt"
unfolding digits
max_microvolt_cells = refl

system_load_cells : text_of (BadCells 3 SystemLoad) ≡ codes "badcells 3 regulator-system-load"
unfolding digits
system_load_cells = refl

ramp_delay_cells : text_of (BadCells 4 RampDelay) ≡ codes "badcells 4 regulator-ramp-delay"
unfolding digits
ramp_delay_cells = refl

enable_ramp_delay_cells : text_of (BadCells 5 EnableRampDelay) ≡ codes "badcells 5 regulator-enable-ramp-delay"
unfolding digits
enable_ramp_delay_cells = refl

settling_time_cells : text_of (BadCells 6 SettlingTime) ≡ codes "badcells 6 regulator-settling-time-us"
unfolding digits
settling_time_cells = refl

settling_time_up_cells : text_of (BadCells 7 SettlingTimeUp) ≡ codes "badcells 7 regulator-settling-time-up-us"
unfolding digits
settling_time_up_cells = refl

settling_time_down_cells : text_of (BadCells 8 SettlingTimeDown) ≡ codes "badcells 8 regulator-settling-time-down-us"
unfolding digits
settling_time_down_cells = refl

max_step_cells : text_of (BadCells 9 MaxStep) ≡ codes "badcells 9 regulator-max-step-microvolt"
unfolding digits
max_step_cells = refl

allowed_modes_cells : text_of (BadCells 10 AllowedModes) ≡ codes "badcells 10 regulator-allowed-modes"
unfolding digits
allowed_modes_cells = refl

initial_mode_cells : text_of (BadCells 11 InitialMode) ≡ codes "badcells 11 regulator-initial-mode"
unfolding digits
initial_mode_cells = refl

coupled_with_cells : text_of (BadCells 12 CoupledWith) ≡ codes "badcells 12 regulator-coupled-with"
unfolding digits
coupled_with_cells = refl

max_spread_cells : text_of (BadCells 13 MaxSpread) ≡ codes "badcells 13 regulator-coupled-max-spread"
unfolding digits
max_spread_cells = refl

suspend_microvolt_cells : text_of (BadCells 14 SuspendMicrovolt) ≡ codes "badcells 14 regulator-suspend-microvolt"
unfolding digits
suspend_microvolt_cells = refl

supply_cells : text_of (BadCells 15 Supply) ≡ codes "badcells 15 supply"
unfolding digits
supply_cells = refl
