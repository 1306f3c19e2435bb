-- The faults of the parts of a board, as faults of the board.
use Rattle.constraints.specs.declared.fault.RailFault.{RailFault}
use Rattle.constraints.specs.declared.fault.RailFault.TheVariants as rail
use Rattle.board_nodes.specs.declared.fault.NodesFault.{NodesFault}
use Rattle.board_nodes.specs.declared.fault.NodesFault.TheVariants as nodes
use Rattle.board_checks.specs.declared.fault.CheckFault.{CheckFault}
use Rattle.board_checks.specs.declared.fault.CheckFault.TheVariants as check
use Rattle.board_draft.specs.declared.fault.BoardFault.{BoardFault}
use Rattle.board_draft.specs.declared.fault.BoardFault.TheVariants.{TooManyChips, UnknownChip, TooManyRails, NoRails, NameTooLong, TwoNames, BadCells, OneBound, Reversed, FixedRange, NoValueInside, BadMode, SuspendValue, GapOverSpread, GapOverStep, SuspendSpread, LoadOverModes, Memory}

-- a fault of nodes, as a board's
abbrev pub of_nodes : NodesFault → BoardFault
of_nodes (nodes.TooManyChips n) = TooManyChips n
of_nodes (nodes.UnknownChip at) = UnknownChip at
of_nodes (nodes.TooManyRails n) = TooManyRails n
of_nodes nodes.NoRails = NoRails
of_nodes (nodes.NameTooLong r) = NameTooLong r
of_nodes (nodes.TwoNames a b) = TwoNames a b
of_nodes nodes.Memory = Memory

-- a fault of a rail's node, as a board's
abbrev pub of_rail : RailFault → BoardFault
of_rail (rail.BadCells r prop) = BadCells r prop
of_rail (rail.OneBound r) = OneBound r
of_rail (rail.Reversed r) = Reversed r
of_rail (rail.FixedRange r) = FixedRange r
of_rail (rail.NoValueInside r) = NoValueInside r
of_rail (rail.BadMode r n) = BadMode r n
of_rail (rail.SuspendValue r) = SuspendValue r
of_rail rail.Memory = Memory

-- what a board can't hold, as a fault of it
abbrev pub of_check : CheckFault → BoardFault
of_check (check.GapOverSpread r gap spread) = GapOverSpread r gap spread
of_check (check.GapOverStep r gap step) = GapOverStep r gap step
of_check (check.SuspendSpread a b) = SuspendSpread a b
of_check (check.LoadOverModes r sum) = LoadOverModes r sum
