use Rattle.std.proofs.Common.{◌≡◌, None, map, take}
use Rattle.dts_tree.specs.Inside.Pieces.{piece_by}
use Rattle.dts_tree.specs.Inside.Stored.{labels_kept}
use Rattle.dts_tree.specs.Inside.Numbered.{first_unknown, number_of}
use Rattle.dts_tree.proofs.tree.numbered.numbered.Given as goal

abbrev pub invariant-loop-piece : goal.invariant-loop-piece
invariant-loop-piece l = record {
  numbered : l.kept.items ≡ map (piece_by (number_of l.text l.labels l.ranks)) (take l.piece-index l.piece-items);
  known : first_unknown l.labels (labels_kept l.text (take l.piece-index l.piece-items)) ≡ None;
}
