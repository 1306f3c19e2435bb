use Rattle.std.proofs.Common.{◌∙◌, Some, ap, sym}
use Rattle.dts_tree.specs.declared.piece.Piece.TheVariants as piece
use Rattle.dts_tree.specs.Look.{cells_of}
use Rattle.dts_tree.proofs.CellLemmas.{cells_end, cells_more, parts_of_none}
use Rattle.dts_tree.proofs.tree.value.cells_of.Goals as goal
use Rattle.dts_tree.proofs.tree.value.cells_of.Goals.{in-Cells, in-Number+in_ok-push-in-Number, in-Node+in_ok-push-in-Node}

pub loop-piece-init : goal.loop-piece-init
loop-piece-init c = ap cells_of parts_of_none ∙ sym (ap Some c.new-cells.ensures.items)

pub returns-in_default : goal.returns-in_default
returns-in_default c = sym (cells_end c.args.pieces.now c.loop-piece.piece-index piece.Cells c.loop-piece-test.true c.in_default.not-Cells c.in_default.not-Number c.in_default.not-Node)

pub loop-piece-preserved : goal.loop-piece-preserved
loop-piece-preserved c =
    let ps = c.args.pieces.now in
    let i = c.loop-piece.piece-index in
    elim c.match-piece.branch [
      | in-Cells w ↦ cells_more ps i piece.Cells piece.Cells (Some c.loop-piece.cells.items) c.loop-piece-test.true w.in-Cells.is c.loop-piece.invariant ∙ ap (λ v. Some v.items) (sym w.cells-is)
      | in-Number+in_ok-push-in-Number w ↦ cells_more ps i piece.Cells (piece.Number w.in-Number.n) (Some c.loop-piece.cells.items) c.loop-piece-test.true w.in-Number.is c.loop-piece.invariant
          ∙ ap Some (sym w.in_ok-push-in-Number.ensures.items) ∙ ap (λ v. Some v.items) (sym w.cells-is)
      | in-Node+in_ok-push-in-Node w ↦ cells_more ps i piece.Cells (piece.Node w.in-Node.node) (Some c.loop-piece.cells.items) c.loop-piece-test.true w.in-Node.is c.loop-piece.invariant
          ∙ ap Some (sym w.in_ok-push-in-Node.ensures.items) ∙ ap (λ v. Some v.items) (sym w.cells-is)
    ]
