-- What holds of the rails that the nodes of a tree make.
use Rattle.std.specs.Prelude.{ℕ, ◌≡◌, ◌≢◌, ◌<◌, ◌⊎◌, List, length, Option, Some, None, IfSome, slice_get}
use Rattle.std.specs.Option.{option_and_then}
use Rattle.chip_regs.specs.declared.field.Field.{Field}
use Rattle.chip_regs.specs.Field.{SharesBit}
use Rattle.board.specs.declared.desc.Desc.{Desc}
use Rattle.board.specs.declared.part.Part.{Part}
use Rattle.board.specs.declared.table.Table.{Table}
use Rattle.board.specs.declared.table.Table.TheVariants.{Ranges, List as Listed}
use Rattle.board.specs.Desc.{described_field, HoldsSelectors, IsSoundDesc}
use Rattle.board_nodes.specs.Rails.{Found}

-- the table is a list of one value
abbrev pub HasOneValue : Table → Type 0
HasOneValue (Ranges ranges) = ⊥
HasOneValue (Listed values) = length values ≡ 1

-- On a board of so many chips the description is sound, and the suspended selector holds the selectors of the
-- table; a rail without a selector is a fixed one, which has one value.
pub record IsSoundRail (chips : ℕ) (rail : Found) : Type 0 where
  pub desc : IsSoundDesc chips rail.desc
  pub suspend_selector : IfSome rail.desc.suspend_selector (HoldsSelectors rail.desc.table)
  pub fixed : rail.desc.selector ≡ None → rail.chip_node ≡ None
  pub one_value : rail.desc.selector ≡ None → HasOneValue rail.desc.table

-- the rail's node and its chip's are among so many
pub record StandsIn (count : ℕ) (rail : Found) : Type 0 where
  pub node : rail.node < count
  pub chip_node : IfSome rail.chip_node (λ node. node < count)

-- the field of a part of a rail
abbrev pub field_in : List Desc → ℕ → Part → Option Field
field_in descs r part = option_and_then (described_field part) (slice_get descs r)

-- no two fields share a bit
abbrev pub NoneShare : List Desc → Type 0
NoneShare descs = (r s : ℕ) (part other : Part) (f g : Field) → (r ≢ s) ⊎ (part ≢ other) → field_in descs r part ≡ Some f → field_in descs s other ≡ Some g → ¬ SharesBit f g
