-- The chips of a tree, one after another.
use Rattle.std.proofs.Common.{◌≡◌, ℕ, ◌++◌, List, map, drop}
use Rattle.std.specs.List.{AllByRecursion, enumerate_from, flat_map}
use Rattle.dts_tree.specs.Tree.{Node}
use Rattle.board_nodes.specs.declared.plan.Plan.{Plan}
use Rattle.board_nodes.specs.Chips.{chip_resets}
use Rattle.board_nodes.specs.Rails.{rails_at}
use Rattle.board_nodes.specs.Inside.Drafts.{found_in}
use Rattle.board_nodes.specs.Inside.Outline.{IsThere}
use Rattle.board_nodes.specs.Inside.Sheets.{AreSoundFrom}

-- the first i chips are in the plan, and the others are nodes in use
pub record HasFirst (nodes : List Node) (chips : List ℕ) (count : ℕ) (plan : Plan) (i number : ℕ) : Type 0 where
  pub at : number ≡ i
  pub rails : map found_in plan.drafts ++ flat_map (λ chip. rails_at nodes chip.0 chip.1) (enumerate_from number (drop i chips)) ≡ flat_map (λ chip. rails_at nodes chip.0 chip.1) (enumerate_from 0 chips)
  pub resets : plan.resets ++ flat_map (λ chip. chip_resets nodes chip.0 chip.1) (enumerate_from number (drop i chips)) ≡ flat_map (λ chip. chip_resets nodes chip.0 chip.1) (enumerate_from 0 chips)
  pub chips_are : plan.chips ≡ count
  pub there : AllByRecursion (IsThere nodes) (drop i chips)
  pub sound : AreSoundFrom nodes number (drop i chips) → AreSoundFrom nodes 0 chips
