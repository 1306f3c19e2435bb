use Rattle.std.proofs.Common.{◌≡◌, ◌++◌, map}
use Rattle.std.specs.List.{filter_map}
use Rattle.pmic_tables.specs.ChipDesc.{seen}
use Rattle.board_nodes.specs.Inside.Drafts.{found_in, found_below}
use Rattle.board_nodes.proofs.draft.put_rails.Given as goal

abbrev pub invariant-loop-rail : goal.invariant-loop-rail
invariant-loop-rail l = map found_in l.drafts ≡ map found_in l.fn.drafts ++ filter_map (found_below l.tree l.chip_node l.regulators) (map seen l.yielded)
