-- The built-in board is sound, its rail has a value within its bounds, and its resets are of its chip.
use Rattle.std.proofs.Common.{◌≡◌, ◌≢◌, ℕ, ◌==◌, true, false, if◌then◌else◌, List, [], ◌∷◌, Some, None, refl, sym, ap, ◌∙◌, subst, arith, eqb, filter, map, ◌<◌}
use Rattle.std.specs.Prelude.{All, IfSome, codes}
use Rattle.std.specs.List.{list_any}
use Rattle.std.proofs.lemmas.Bool.{false≢true}
use Rattle.std.proofs.lemmas.List.Elements.{All-nil, All-cons}
use Rattle.linear_range.specs.Values.{values}
use Rattle.chip_regs.specs.declared.field.Field.{Field}
use Rattle.chip_regs.specs.Field.{SharesBit}
use Rattle.board.specs.declared.rail.Rail.{Rail}
use Rattle.board.specs.declared.board.Board.{Board}
use Rattle.board.specs.declared.part.Part.{Part}
use Rattle.board.specs.declared.part.Part.TheVariants.{Selector, Enable, ModePart, SuspendEnable, SuspendSelector}
use Rattle.board.specs.Rail.{allowed, choices, part_field, is_within, IsAllowed}
use Rattle.board.specs.Lone.{IsLone}
use Rattle.board.specs.declared.table.Table.TheVariants.{Ranges}
use Rattle.board.specs.Desc.{IsPlaced, IsSoundDesc}
use Rattle.board.specs.Valid.{CarriesSystemLoad, IsPrinted, SleepsWell, IsSoundRail}
use Rattle.board.proofs.Exact.{FillsMask, low_holds, one_has}
use Rattle.board_load.specs.Demo.{IsCore, IsDemo, core_ranges, low_bits, demo_resets}
use Rattle.board_load.specs.Loading.{HasValueInside}
use Rattle.board_load.specs.Registers.{NameChips}

-- the pairs of `core`
abbrev core_choices : List (ℕ × ℕ)
core_choices = filter (λ pair. is_within (Some (800000, 1000000)) pair.1) (values core_ranges)

choices-core : (rail : Rail) → IsCore rail → choices rail ≡ core_choices
choices-core rail core = rw (core.changeable, core.limits.bounds, core.desc.table) refl

-- its selectors are the numbers of 7 bits
core_fills : FillsMask (Ranges core_ranges) 0x7f
core_fills = record { width = 7; some = omega arith; within = omega arith; ones = refl; has = one_has 600000 6250 127 }

-- the register of each part of `core`
core_reg : Part → ℕ
core_reg Selector = 0x10
core_reg Enable = 0x20
core_reg ModePart = 0x30
core_reg SuspendEnable = 0x21
core_reg SuspendSelector = 0x40

core_mask : Part → ℕ
core_mask Selector = 0x7f
core_mask Enable = 0x01
core_mask ModePart = 0x03
core_mask SuspendEnable = 0x01
core_mask SuspendSelector = 0x7f

core_width : Part → ℕ
core_width Selector = 7
core_width Enable = 1
core_width ModePart = 2
core_width SuspendEnable = 1
core_width SuspendSelector = 7

-- the part of `core` that has a register
part_at : ℕ → Part
part_at reg = if reg == 0x10 then Selector else if reg == 0x20 then Enable else if reg == 0x30 then ModePart else if reg == 0x21 then SuspendEnable else SuspendSelector

part_at-core_reg : (part : Part) → part_at (core_reg part) ≡ part
unfolding part_at core_reg
part_at-core_reg Selector = refl
part_at-core_reg Enable = refl
part_at-core_reg ModePart = refl
part_at-core_reg SuspendEnable = refl
part_at-core_reg SuspendSelector = refl

core_bits : Part → Field
core_bits part = low_bits (core_reg part) (core_mask part)

core_field : (rail : Rail) → IsCore rail → (part : Part) → part_field part rail ≡ Some (core_bits part)
unfolding core_bits core_reg core_mask
core_field rail core Selector = core.desc.selector
core_field rail core Enable = ap Some core.desc.enable
core_field rail core ModePart = core.desc.modes
core_field rail core SuspendEnable = core.desc.suspend_enable
core_field rail core SuspendSelector = core.desc.suspend_selector

core_shape : (part : Part) → IsPlaced 1 (core_bits part)
unfolding core_bits core_reg core_mask
core_shape Selector = record { shape = record { width = 7; some_bit = omega arith; within = omega arith; run = refl }; chip = omega arith }
core_shape Enable = record { shape = record { width = 1; some_bit = omega arith; within = omega arith; run = refl }; chip = omega arith }
core_shape ModePart = record { shape = record { width = 2; some_bit = omega arith; within = omega arith; run = refl }; chip = omega arith }
core_shape SuspendEnable = record { shape = record { width = 1; some_bit = omega arith; within = omega arith; run = refl }; chip = omega arith }
core_shape SuspendSelector = record { shape = record { width = 7; some_bit = omega arith; within = omega arith; run = refl }; chip = omega arith }

core_placed : (rail : Rail) → IsCore rail → (part : Part) → IfSome (part_field part rail) (IsPlaced 1)
core_placed rail core part = rw (core_field rail core part) (core_shape part)

core_desc_sound : (rail : Rail) → IsCore rail → IsSoundDesc 1 rail.desc
core_desc_sound rail core = record {
  placed = core_placed rail core;
  selector = rw (core.desc.selector, core.desc.table) (low_holds (Ranges core_ranges) 0 0x10 0x7f core_fills);
  enable = rw core.desc.enable refl;
  suspend_enable = rw core.desc.suspend_enable refl;
  modes = rw core.desc.modes refl;
}

-- fields of different parts are in different registers
core_apart : (rail : Rail) → IsCore rail → (part other : Part) (f g : Field) → part ≢ other → part_field part rail ≡ Some f → part_field other rail ≡ Some g → SharesBit f g → ⊥
unfolding core_bits
core_apart rail core part other f g differ first second shared =
    let f_is : core_bits part ≡ f = cc (core_field rail core part) in
    let g_is : core_bits other ≡ g = cc (core_field rail core other) in
    let regs : core_reg part ≡ core_reg other =
    ap (λ (h : Field). h.reg) f_is ∙ shared.in_first.1 ∙ sym shared.in_second.1 ∙ ap (λ (h : Field). h.reg) (sym g_is) in
    differ (sym (part_at-core_reg part) ∙ ap part_at regs ∙ part_at-core_reg other)

core_allowed : (rail : Rail) → IsCore rail → IsAllowed rail 800000
unfolding values
core_allowed rail core = rw (choices-core rail core) refl

some_value : (rail : Rail) → IsCore rail → allowed rail ≢ []
some_value rail core none = let here = core_allowed rail core in false≢true (ap (list_any (eqb 800000)) (sym none) ∙ here)

no_sleeps : (rail : Rail) → All (SleepsWell rail) (None ∷ None ∷ None ∷ [])
no_sleeps rail = All-cons (SleepsWell rail) None (None ∷ None ∷ []) tt (All-cons (SleepsWell rail) None (None ∷ []) tt (All-cons (SleepsWell rail) None [] tt (All-nil (SleepsWell rail))))

core_sound : (rail : Rail) → IsCore rail → IsSoundRail 1 rail
core_sound rail core = record {
  desc = core_desc_sound rail core;
  changeable = rw (core.changeable, core.limits.bounds) refl;
  moves = λ _. rw core.desc.selector refl;
  sleeps = subst (All (SleepsWell rail)) (sym core.limits.sleeps) (no_sleeps rail);
  some_value = some_value rail core;
}

-- it counts no loads
core_carries : (rail : Rail) → IsCore rail → CarriesSystemLoad rail
core_carries rail core counts = let counted : false ≡ true = rw core.limits.allow_load at counts in absurd (false≢true counted)

printed_name : All IsPrinted (codes "core")
printed_name =
    All-cons IsPrinted 99 (111 ∷ 114 ∷ 101 ∷ []) (omega arith, omega arith)
    (All-cons IsPrinted 111 (114 ∷ 101 ∷ []) (omega arith, omega arith)
    (All-cons IsPrinted 114 (101 ∷ []) (omega arith, omega arith)
    (All-cons IsPrinted 101 [] (omega arith, omega arith) (All-nil IsPrinted))))

core_printed : (rail : Rail) → IsCore rail → All IsPrinted rail.name.bytes
core_printed rail core = subst (All IsPrinted) (sym core.name) printed_name

pub demo_lone : (board : Board) → IsDemo board → IsLone board
demo_lone board demo = record {
  rail = demo.core;
  rails = demo.rails;
  sound = rw demo.chips (core_sound demo.core demo.is_core);
  load = core_carries demo.core demo.is_core;
  printed = core_printed demo.core demo.is_core;
  apart = core_apart demo.core demo.is_core;
  supply = demo.is_core.supply;
  group = demo.is_core.group;
  steps = demo.is_core.limits.max_step;
  spread = demo.spread;
  graph = demo.graph;
  order = demo.order;
}

-- the values of `core` within its bounds, of which 800000 µV is one
abbrev core_inside : List ℕ
core_inside = filter (is_within (Some (800000, 1000000))) (map (λ pair. pair.1) (values core_ranges))

core_inside_has : list_any (eqb 800000) core_inside ≡ true
unfolding values
core_inside_has = refl

core_has_value : (rail : Rail) → IsCore rail → HasValueInside rail
core_has_value rail core = rw (core.limits.bounds, core.desc.table) (λ none. false≢true (ap (list_any (eqb 800000)) (sym none) ∙ core_inside_has))

pub demo_has_values : (board : Board) → IsDemo board → All HasValueInside board.rails
demo_has_values board demo =
    subst (All HasValueInside) (sym demo.rails) (All-cons HasValueInside demo.core [] (core_has_value demo.core demo.is_core) (All-nil HasValueInside))

pub demo_resets_name_chips : NameChips 1 demo_resets
demo_resets_name_chips =
    All-cons (λ reset. reset.0 < 1) (0, 0x10, 0x20) ((0, 0x11, 0x20) ∷ (0, 0x30, 0x15) ∷ []) (omega arith)
    (All-cons (λ reset. reset.0 < 1) (0, 0x11, 0x20) ((0, 0x30, 0x15) ∷ []) (omega arith)
    (All-cons (λ reset. reset.0 < 1) (0, 0x30, 0x15) [] (omega arith) (All-nil (λ reset. reset.0 < 1))))
