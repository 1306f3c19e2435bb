use Rattle.std.proofs.Common.{◌≡◌, map, drop}
use Rattle.board_nodes.specs.Chips.{has_fixed}
use Rattle.board_nodes.proofs.compatible.has_fixed.Given as goal

abbrev pub invariant-loop-name : goal.invariant-loop-name
invariant-loop-name l = has_fixed (map (λ name. name.items) l.names) ≡ has_fixed (map (λ name. name.items) (drop l.name-index l.names))
