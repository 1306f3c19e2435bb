use Rattle.std.proofs.Common.{◌∷◌, ◌++◌, [], List, ap, sym, refl, map, drop}
use Rattle.std.proofs.lemmas.List.{append-nil}
use Rattle.dts_tree.specs.declared.piece.Piece.TheVariants as piece
use Rattle.dts_tree.specs.declared.reading.spot.Spot.TheVariants as spot
use Rattle.dts_tree.specs.declared.value.Cell.TheVariants as cell
use Rattle.dts_tree.specs.Value.{Part, part_by}
use Rattle.dts_tree.specs.Setting.{Label}
use Rattle.dts_tree.specs.Inside.Pieces.{with_cell, parts_of, label_at}
use Rattle.dts_tree.specs.Inside.Stored.{labels_kept}
use Rattle.dts_tree.proofs.ReaderLemmas.{went_more, label_is}
use Rattle.dts_tree.proofs.reading.reader.Reader.cells.Goals as goal

pub returns-in_ok-push-in-Number-clause-ok : goal.returns-in_ok-push-in-Number-clause-ok
returns-in_ok-push-in-Number-clause-ok c =
    let r = c.args.self.now in
    let text = c.args.text.now in
    rw c.in-Number.is (went_more text _ _ _ r c.requires.ready c.push.new.self (piece.Number c.in-Number.n ∷ []) (spot.InCells c.args.name) _ _ c.in_ok-push-in-Number.ensures.items refl (sym (append-nil (labels_kept text r.pieces.items))) _ c.requires.spot refl)

pub returns-in_ok-push-in-Ref-clause-ok : goal.returns-in_ok-push-in-Ref-clause-ok
returns-in_ok-push-in-Ref-clause-ok c =
    let r = c.args.self.now in
    let text = c.args.text.now in
    let old : List (Part Label) = map (part_by (label_at text)) (parts_of (drop r.from r.pieces.items)) in
    let label = label_is text c.args.inner.now c.args.token.now c.place_of.result (c.requires.ready.inner.1 c.in-Ref.is) c.place_of.ensures.at c.place_of.ensures.end in
    rw c.in-Ref.is (went_more text _ _ _ r c.requires.ready c.push-in-Ref.new.self (piece.Node c.place_of.result ∷ []) (spot.InCells c.args.name) _ _ c.in_ok-push-in-Ref.ensures.items (ap (λ (l : Label). with_cell old (cell.Node l)) label) (ap (λ (l : Label). labels_kept text r.pieces.items ++ l ∷ []) label) _ c.requires.spot refl)
