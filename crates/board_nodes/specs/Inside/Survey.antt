-- What stands between a tree and its rails.
use Rattle.std.specs.Prelude.{◌≡◌, ℕ, List, map, flat_map}
use Rattle.std.specs.List.{enumerate_from}
use Rattle.dts_tree.specs.Tree.{Node}
use Rattle.board_nodes.specs.declared.plan.Plan.{Plan}
use Rattle.board_nodes.specs.declared.survey.Survey.{Survey}
use Rattle.board_nodes.specs.Chips.{chip_nodes, fixed_nodes, chip_count, chip_resets, resets_of}
use Rattle.board_nodes.specs.Rails.{rails_at, rails_in}
use Rattle.board_nodes.specs.Inside.Drafts.{found_in}
use Rattle.board_nodes.specs.Inside.Outline.{IsOutline}
use Rattle.board_nodes.specs.Inside.Sheets.{AreSoundFrom}

-- the survey is that of the tree
pub record IsSurvey (nodes : List Node) (survey : Survey) : Type 0 where
  pub outline : IsOutline nodes survey.outline
  pub chips : survey.chips ≡ chip_nodes nodes
  pub fixed : survey.fixed ≡ fixed_nodes nodes

-- the plan has the rails and the registers of these chips
pub record HasChips (nodes : List Node) (chips : List ℕ) (count : ℕ) (plan : Plan) : Type 0 where
  pub rails : map found_in plan.drafts ≡ flat_map (λ chip. rails_at nodes chip.0 chip.1) (enumerate_from 0 chips)
  pub resets : plan.resets ≡ flat_map (λ chip. chip_resets nodes chip.0 chip.1) (enumerate_from 0 chips)
  pub chips_are : plan.chips ≡ count
  pub sound : AreSoundFrom nodes 0 chips

-- the plan is that of the tree
pub record IsPlan (nodes : List Node) (plan : Plan) : Type 0 where
  pub rails : map found_in plan.drafts ≡ rails_in nodes
  pub resets : plan.resets ≡ resets_of nodes
  pub chips : plan.chips ≡ chip_count nodes
  pub sound : AreSoundFrom nodes 0 (chip_nodes nodes)
