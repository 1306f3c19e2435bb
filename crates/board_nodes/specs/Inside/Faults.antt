-- The reasons against a board in three parts.
use Rattle.std.specs.Prelude.{ℕ, ◌==◌, nat_lt, List, [], ◌∷◌, length, Option}
use Rattle.std.specs.Option.{option_map}
use Rattle.dts_tree.specs.Tree.{Node}
use Rattle.dts_nodes.specs.Firsts.{when}
use Rattle.board_nodes.specs.declared.fault.NodesFault.{NodesFault}
use Rattle.board_nodes.specs.declared.fault.NodesFault.TheVariants.{TooManyChips, UnknownChip, TooManyRails, NoRails, NameTooLong, TwoNames}
use Rattle.board_nodes.specs.Chips.{chip_count, unknown_chip}
use Rattle.board_nodes.specs.Rails.{rails_in}
use Rattle.board_nodes.specs.Faults.{long_name, two_names}

-- those of chips
abbrev pub chip_faults : List Node → List (Option NodesFault)
chip_faults nodes = when (nat_lt 16 (chip_count nodes)) (TooManyChips (chip_count nodes)) ∷ option_map (λ at. UnknownChip at) (unknown_chip nodes) ∷ []

-- those of a number of rails
abbrev pub count_faults : ℕ → List (Option NodesFault)
count_faults rails = when (nat_lt 64 rails) (TooManyRails rails) ∷ when (rails == 0) NoRails ∷ []

-- those of the rails' number
abbrev pub rail_faults : List Node → List (Option NodesFault)
rail_faults nodes = count_faults (length (rails_in nodes))

-- those of names
abbrev pub name_faults_of : List (List ℕ) → List (Option NodesFault)
name_faults_of names = option_map (λ r. NameTooLong r) (long_name names) ∷ option_map (λ pair. TwoNames pair.0 pair.1) (two_names names) ∷ []
