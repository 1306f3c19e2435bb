-- What holds of every chip, whichever place it has on a board.
use Rattle.std.specs.Prelude.{ℕ, ◌≡◌, ◌+◌, List, [], ◌∷◌, IfSome}
use Rattle.std.specs.List.{All, filter_map, flat_map}
use Rattle.chip_regs.specs.declared.field.Field.{Field}
use Rattle.chip_regs.specs.Clash.{NoneClash}
use Rattle.board.specs.declared.desc.Desc.{Desc}
use Rattle.board.specs.declared.part.Part.{Part}
use Rattle.board.specs.declared.part.Part.TheVariants.{Selector, Enable, ModePart, SuspendEnable, SuspendSelector}
use Rattle.board.specs.Desc.{described_field, HoldsSelectors, IsSoundDesc}
use Rattle.pmic_tables.specs.declared.chip_desc.ChipDesc.{ChipDesc}

-- the fields of a rail
abbrev pub fields_of : Desc → List Field
fields_of desc =
    filter_map (λ part. described_field part desc) (Enable ∷ Selector ∷ ModePart ∷ SuspendEnable ∷ SuspendSelector ∷ [])

-- the description is sound on a board that has this chip and those before it, its fields lie in
-- this chip, and its suspended selector is as wide as its selector
pub record IsSoundOn (chip : ℕ) (desc : Desc) : Type 0 where
  pub sound : IsSoundDesc (chip + 1) desc
  pub own : (part : Part) → IfSome (described_field part desc) (λ field. field.chip ≡ chip)
  pub suspend_selector : IfSome desc.suspend_selector (HoldsSelectors desc.table)

-- each rail is sound
abbrev pub AreSound : ℕ → ChipDesc → Type 0
AreSound chip desc = All (λ rail. IsSoundOn chip rail.desc) desc.rails

-- no two fields of the chip share a bit
abbrev pub AreApart : ChipDesc → Type 0
AreApart desc = NoneClash (flat_map (λ rail. fields_of rail.desc) desc.rails)
