-- Sound rails worked out by hand, and rails that lack one part of it each.
use Rattle.std.proofs.Common.{◌≡◌, ◌<◌, ℕ, [], ◌∷◌, Option, Some, None, refl, inl, inr, arith}
use Rattle.std.specs.Prelude.{codes}
use Rattle.chip_regs.specs.declared.field.Field.{Field}
use Rattle.board.specs.declared.desc.Desc.{Desc}
use Rattle.board.specs.declared.part.Part.TheVariants.{Selector, Enable, ModePart}
use Rattle.board.specs.declared.table.Table.{Table}
use Rattle.board.specs.declared.table.Table.TheVariants.{Ranges, List as Listed}
use Rattle.board_nodes.specs.Rails.{Found, fixed_desc}
use Rattle.board_nodes.specs.Sound.{HasOneValue, IsSoundRail, StandsIn, field_in, NoneShare}
use Rattle.board_nodes.proofs.SoundLemmas.{fixed-sound, fixed-apart, fixed-separate}
use Rattle.board_nodes.proofs.ApartLemmas.{none-share}

one_value : HasOneValue (Listed (5 ∷ []))
one_value = refl

no_value : ¬ HasOneValue (Listed [])
no_value is = omega (arith, is)

two_values : ¬ HasOneValue (Listed (5 ∷ 5 ∷ []))
two_values is = omega (arith, is)

no_list : ¬ HasOneValue (Ranges [])
no_list is = is

-- a rail of this description, at node 3
abbrev rail : Option ℕ → Desc → Found
rail chip_node desc = record { name = codes "vcc"; node = 3; chip_node = chip_node; supply = codes "vin"; desc = desc }

-- bit 0 of a register of chip 1
abbrev bit : ℕ → Field
bit reg = record { chip = 1; reg = reg; mask = 1; shift = 0 }

-- the fixed rail 2 on chip 1, with another table and a suspended selector
abbrev with_table : Table → Option Field → Desc
with_table table suspended = record (fixed_desc 1 2 5) { table = table; suspend_selector = suspended }

sound : IsSoundRail 2 (rail None (fixed_desc 1 2 5))
sound = record { desc = fixed-sound 1 2 2 5 (omega arith); suspend_selector = tt; fixed = λ none. refl; one_value = λ none. refl }

-- chip 1 isn't on a board of one chip
chip_missing : ¬ IsSoundRail 1 (rail None (fixed_desc 1 2 5))
chip_missing is = let placed : 1 < 1 = (is.desc.placed Enable).chip in omega (arith, placed)

-- a suspended selector of two values for a table of one
selector_wide : ¬ IsSoundRail 2 (rail None (with_table (Listed (5 ∷ [])) (Some (bit 9))))
selector_wide is = let some = (is.suspend_selector 1).0 (omega arith) in cc

-- a rail of a chip without a selector
not_fixed : ¬ IsSoundRail 2 (rail (Some 0) (fixed_desc 1 2 5))
not_fixed is = let none = is.fixed refl in cc

-- a fixed rail of two values
not_one_value : ¬ IsSoundRail 2 (rail None (with_table (Listed (5 ∷ 6 ∷ [])) None))
not_one_value is = two_of (is.one_value refl)
  where
    two_of : ¬ HasOneValue (Listed (5 ∷ 6 ∷ []))
    two_of same = omega (arith, same)

stands : StandsIn 4 (rail (Some 2) (fixed_desc 1 2 5))
stands = record { node = omega arith; chip_node = omega arith }

node_outside : ¬ StandsIn 3 (rail (Some 2) (fixed_desc 1 2 5))
node_outside is = let inside : 3 < 3 = is.node in omega (arith, inside)

chip_outside : ¬ StandsIn 4 (rail (Some 4) (fixed_desc 1 2 5))
chip_outside is = let inside : 4 < 4 = is.chip_node in omega (arith, inside)

-- fields by the numbers of rails
second : field_in (fixed_desc 1 2 5 ∷ fixed_desc 1 3 6 ∷ []) 1 Enable ≡ Some (bit 3)
second = refl

without : field_in (fixed_desc 1 2 5 ∷ []) 0 ModePart ≡ None
without = refl

no_rail : field_in (fixed_desc 1 2 5 ∷ []) 1 Enable ≡ None
no_rail = refl

-- two rails with one on bit
shared_by_two : ¬ NoneShare (fixed_desc 1 2 5 ∷ fixed_desc 1 2 6 ∷ [])
shared_by_two none =
    none 0 1 Enable Enable (bit 2) (bit 2) (inl (λ same. omega (arith, same))) refl refl
    (record { chip = 1; reg = 2; bit = 0; in_first = (refl, refl, λ clear. omega (arith, clear)); in_second = (refl, refl, λ clear. omega (arith, clear)) })

-- a rail whose selector is its on bit
shared_by_parts : ¬ NoneShare (record (fixed_desc 1 2 5) { selector = Some (bit 2) } ∷ [])
shared_by_parts none =
    none 0 0 Enable Selector (bit 2) (bit 2) (inr (λ same. cc)) refl refl
    (record { chip = 1; reg = 2; bit = 0; in_first = (refl, refl, λ clear. omega (arith, clear)); in_second = (refl, refl, λ clear. omega (arith, clear)) })

-- two fixed rails in neighbouring registers
apart : NoneShare (fixed_desc 1 2 5 ∷ fixed_desc 1 3 5 ∷ [])
apart = none-share (λ d. d) (fixed_desc 1 2 5 ∷ fixed_desc 1 3 5 ∷ []) (fixed-apart 1 2 5, ((fixed-separate 1 2 3 5 5 (omega arith), tt), (fixed-apart 1 3 5, (tt, tt))))
