use Rattle.std.proofs.Common.{◌≡◌, map, drop}
use Rattle.board_nodes.specs.Chips.{first_sheet}
use Rattle.board_nodes.proofs.compatible.first_chip.Given as goal

abbrev pub invariant-loop-name : goal.invariant-loop-name
invariant-loop-name l = first_sheet (map (λ name. name.items) l.names) ≡ first_sheet (map (λ name. name.items) (drop l.name-index l.names))
