use Rattle.std.proofs.Common.{◌≡◌, ◌∷◌, ◌++◌, ◌∙◌, [], List, ap, sym, refl, map, drop, append_assoc}
use Rattle.std.proofs.lemmas.List.{append-nil}
use Rattle.dts_tree.specs.declared.piece.Piece.TheVariants as piece
use Rattle.dts_tree.specs.declared.reading.spot.Spot.TheVariants as spot
use Rattle.dts_tree.specs.Value.{Part, Text, Whole, part_by}
use Rattle.dts_tree.specs.Lexeme.{unescaped}
use Rattle.dts_tree.proofs.PieceLemmas.{fold-bytes-by, labels-bytes}
use Rattle.dts_tree.specs.Setting.{Label}
use Rattle.dts_tree.specs.Inside.Pieces.{parts_of, label_at}
use Rattle.dts_tree.specs.Inside.Stored.{labels_kept}
use Rattle.dts_tree.proofs.ReaderLemmas.{went_more, label_is}
use Rattle.dts_tree.proofs.reading.reader.Reader.valued.Goals as goal

pub returns-in_ok-push-in-Less-clause-ok : goal.returns-in_ok-push-in-Less-clause-ok
returns-in_ok-push-in-Less-clause-ok c =
    let r = c.args.self.now in
    let text = c.args.text.now in
    rw c.in-Less.is (went_more text _ _ _ r c.requires.ready c.push.new.self (piece.Cells ∷ []) (spot.InCells c.args.name) _ _ c.in_ok-push-in-Less.ensures.items refl (sym (append-nil (labels_kept text r.pieces.items))) _ c.requires.spot refl)

pub returns-in_ok-push-in-Left-clause-ok : goal.returns-in_ok-push-in-Left-clause-ok
returns-in_ok-push-in-Left-clause-ok c =
    let r = c.args.self.now in
    let text = c.args.text.now in
    rw c.in-Left.is (went_more text _ _ _ r c.requires.ready c.push-in-Left.new.self (piece.Bytes ∷ []) (spot.InBytes c.args.name) _ _ c.in_ok-push-in-Left.ensures.items refl (sym (append-nil (labels_kept text r.pieces.items))) _ c.requires.spot refl)

pub returns-in_ok-push-in-Ref-clause-ok : goal.returns-in_ok-push-in-Ref-clause-ok
returns-in_ok-push-in-Ref-clause-ok c =
    let r = c.args.self.now in
    let text = c.args.text.now in
    let old : List (Part Label) = map (part_by (label_at text)) (parts_of (drop r.from r.pieces.items)) in
    let label = label_is text c.args.inner.now c.args.token.now c.place_of.result (c.requires.ready.inner.1 c.in-Ref.is) c.place_of.ensures.at c.place_of.ensures.end in
    rw c.in-Ref.is (went_more text _ _ _ r c.requires.ready c.push-in-Ref.new.self (piece.Whole c.place_of.result ∷ []) (spot.Parted c.args.name) _ _ c.in_ok-push-in-Ref.ensures.items (ap (λ (l : Label). old ++ Whole l ∷ []) label) (ap (λ (l : Label). labels_kept text r.pieces.items ++ l ∷ []) label) _ c.requires.spot refl)

pub returns-in_ok-push_bytes-in-Text-clause-ok : goal.returns-in_ok-push_bytes-in-Text-clause-ok
returns-in_ok-push_bytes-in-Text-clause-ok c =
    let r = c.args.self.now in
    let text = c.args.text.now in
    let said = unescaped c.args.inner.now in
    let old : List (Part Label) = map (part_by (label_at text)) (parts_of (drop r.from r.pieces.items)) in
    let bytes : c.as_slice.result.now ≡ said = c.as_slice.ensures.value ∙ c.in_ok-bytes-in-Text.ensures in
    rw c.in-Text.is (went_more text _ _ _ r c.requires.ready c.push_bytes.new.pieces (piece.Text ∷ map piece.Byte said) (spot.Parted c.args.name) _ _
    (c.in_ok-push_bytes-in-Text.ensures ∙ ap (λ bs. c.push-in-Text.new.self.items ++ map piece.Byte bs) bytes ∙ ap (λ ps. ps ++ map piece.Byte said) c.in_ok-push-in-Text.ensures.items ∙ append_assoc r.pieces.items (piece.Text ∷ []) (map piece.Byte said))
    (fold-bytes-by (label_at text) (old ++ Text [] ∷ []) said)
    (sym (ap (λ ls. labels_kept text r.pieces.items ++ ls) (labels-bytes text said) ∙ append-nil (labels_kept text r.pieces.items)))
    _ c.requires.spot refl)
