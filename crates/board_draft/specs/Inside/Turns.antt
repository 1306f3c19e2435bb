-- How the rails of a graph come up, or where they loop.
use Rattle.std.specs.Prelude.{ℕ}
use Rattle.board_graph.specs.declared.graph.Graph.{Graph}
use Rattle.board_graph.specs.Graph.{IsOnSupplyLoop, IsOnBlockLoop}
use Rattle.board_graph.specs.Loops.{IsLeastSuch}
use Rattle.board_graph.specs.Order.{IsOrder}
use Rattle.board_draft.specs.declared.fault.BoardFault.{BoardFault}
use Rattle.board_draft.specs.declared.fault.BoardFault.TheVariants.{SupplyLoop}
use Rattle.board_draft.specs.declared.parts.Turns.{Turns}
use Rattle.board_draft.specs.declared.parts.Turns.TheVariants.{Order, Loop}

-- the fault tells the least rail on a loop of supplies
abbrev pub IsSupplyFault : Graph → BoardFault → Type 0
IsSupplyFault graph (SupplyLoop r) = IsLeastSuch (IsOnSupplyLoop graph) r
IsSupplyFault graph _ = ⊥

-- the turns are the order; or no rail is on a loop of supplies, and they tell the least one on a loop of blocks
abbrev pub AreTurns : Graph → Turns → Type 0
AreTurns graph (Order order) = IsOrder graph order
AreTurns graph (Loop r) = ((s : ℕ) → ¬ IsOnSupplyLoop graph s) × IsLeastSuch (IsOnBlockLoop graph) r
