use Rattle.std.proofs.Common.{◌≡◌, map}
use Rattle.board_nodes.specs.Faults.{two_names}
use Rattle.board_nodes.specs.Inside.Drafts.{name_of}
use Rattle.board_nodes.proofs.NameLemmas.{two_from}
use Rattle.board_nodes.proofs.names.two_names.Given as goal

abbrev pub invariant-loop-a : goal.invariant-loop-a
invariant-loop-a l = two_names (map name_of l.drafts) ≡ two_from (map name_of l.drafts) l.a
