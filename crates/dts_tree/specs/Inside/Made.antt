-- What comes of what is kept.
use Rattle.std.specs.Prelude.{ℕ, List, Result}
use Rattle.std.specs.List.{find}
use Rattle.dts_tree.specs.declared.fault.TreeFault.{TreeFault}
use Rattle.dts_tree.specs.declared.piece.Piece.{Piece}
use Rattle.dts_tree.specs.declared.piece.Place.{Place}
use Rattle.dts_tree.specs.declared.store.Store.{Store}
use Rattle.dts_tree.specs.Outcome.{is_unknown, unless_unknown}
use Rattle.dts_tree.specs.Tree.{Node}
use Rattle.dts_tree.specs.Inside.Stored.{content_of, labels_kept}

-- the outcome of a text in which no setting is wrong, and nothing is wrong behind them
abbrev pub outcome_kept : List ℕ → List (Piece Place) → Store → Result (List Node) TreeFault
outcome_kept text pieces store =
    let c = content_of text pieces store in
    unless_unknown c (find (is_unknown c) (labels_kept text pieces))
