use Rattle.std.proofs.Common.{◌≡◌, map, drop}
use Rattle.board_nodes.specs.Inside.Drafts.{name_of, long_from}
use Rattle.board_nodes.proofs.names.long_name.Given as goal

abbrev pub invariant-loop-draft : goal.invariant-loop-draft
invariant-loop-draft l = record {
  rail : l.rail ≡ l.draft-index;
  rest : long_from 0 (map name_of l.drafts) ≡ long_from l.draft-index (map name_of (drop l.draft-index l.drafts));
}
