use Rattle.std.proofs.Common.{◌∙◌, ◌∷◌, [], ◌++◌, get_or, take, map, sym, ap}
use Rattle.std.specs.Option.{option_map}
use Rattle.std.proofs.lemmas.List.{map-append, take_more}
use Rattle.dts_tree.specs.declared.fault.TreeFault.TheVariants.{NoLabel}
use Rattle.dts_tree.specs.declared.piece.Piece.TheVariants as piece
use Rattle.dts_tree.specs.Inside.Pieces.{piece_by}
use Rattle.dts_tree.specs.Inside.Stored.{labels_kept}
use Rattle.dts_tree.specs.Inside.Numbered.{first_unknown, number_of}
use Rattle.dts_tree.proofs.NumberedLemmas.{known_more, fault_at}
use Rattle.dts_tree.proofs.tree.numbered.numbered.Goals as goal

pub returns-in-Err-clause-fault : goal.returns-in-Err-clause-fault
returns-in-Err-clause-fault c = λ _.
    let text = c.args.text.now in
    let labels = c.args.labels.now in
    let ps = c.as_slice-piece-items.result.now in
    ap (λ xs. option_map (λ l. NoLabel l.at) (first_unknown labels (labels_kept text xs))) (sym c.as_slice-piece-items.ensures.value)
    ∙ fault_at text labels ps c.loop-piece.piece-index piece.Cells c.in-Err.at c.loop-piece-test.true c.loop-piece.invariant.known c.in-Err.ensures.unknown

pub loop-piece-preserved : goal.loop-piece-preserved
loop-piece-preserved c =
    let text = c.args.text.now in
    let labels = c.args.labels.now in
    let f = number_of text labels c.args.ranks.now in
    let ps = c.as_slice-piece-items.result.now in
    let i = c.loop-piece.piece-index in
    record {
      numbered = c.in_ok-push-in-Ok.ensures.items
          ∙ ap (λ xs. xs ++ c.in-Ok.piece ∷ []) c.loop-piece.invariant.numbered
          ∙ ap (λ p. map (piece_by f) (take i ps) ++ p ∷ []) c.in-Ok.ensures.numbered
          ∙ sym (ap (map (piece_by f)) (take_more ps i piece.Cells c.loop-piece-test.true) ∙ map-append (piece_by f) (take i ps) (get_or ps i piece.Cells ∷ []));
      known = known_more text labels ps i piece.Cells c.loop-piece-test.true c.loop-piece.invariant.known c.in-Ok.ensures.known;
    }
