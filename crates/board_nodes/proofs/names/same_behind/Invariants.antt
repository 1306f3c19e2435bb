use Rattle.std.proofs.Common.{◌≡◌, ◌-◌, map, length}
use Rattle.std.specs.List.{find, range_with_len}
use Rattle.board_nodes.specs.Inside.Drafts.{name_of, same_behind}
use Rattle.board_nodes.specs.Faults.{same_at}
use Rattle.board_nodes.proofs.names.same_behind.Given as goal

abbrev pub invariant-loop-b : goal.invariant-loop-b
invariant-loop-b l = same_behind (map name_of l.drafts) l.a ≡ find (same_at (map name_of l.drafts) l.a) (range_with_len l.b (length l.drafts - l.b))
