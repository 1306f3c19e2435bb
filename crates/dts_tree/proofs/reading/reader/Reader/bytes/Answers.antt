use Rattle.std.proofs.Common.{◌≡◌, ◌∙◌, ◌++◌, Bool, true, false, ap, sym, map, refl}
use Rattle.std.specs.Prelude.{◌&&◌}
use Rattle.std.proofs.lemmas.List.{append-nil}
use Rattle.dts_tree.specs.declared.piece.Piece.TheVariants.{Byte}
use Rattle.dts_tree.specs.declared.reading.spot.Spot.TheVariants as spot
use Rattle.dts_tree.specs.Lexeme.{is_bytes, bytes_of}
use Rattle.dts_tree.specs.Inside.Pieces.{label_at}
use Rattle.dts_tree.specs.Inside.Stored.{labels_kept}
use Rattle.dts_tree.proofs.PieceLemmas.{fold-bytes-by, labels-bytes}
use Rattle.dts_tree.proofs.ReaderLemmas.{went_more}
use Rattle.dts_tree.proofs.reading.reader.Reader.bytes.Goals as goal

both : (a b : Bool) → (a && b) ≡ true → b ≡ true
both true b h = h
both false b h = absurd (let e : false ≡ true = h in cc)

pub bytes_of-requires : goal.bytes_of-requires
unfolding is_bytes
bytes_of-requires c = both _ _ (sym c.is_bytes.ensures ∙ c.if-not-is_bytes.false)

pub returns-in_ok-push_bytes-in-Word-clause-ok : goal.returns-in_ok-push_bytes-in-Word-clause-ok
returns-in_ok-push_bytes-in-Word-clause-ok c =
    let r = c.args.self.now in
    let text = c.args.text.now in
    let word = c.args.inner.now in
    let form : is_bytes word ≡ true = sym c.is_bytes.ensures ∙ c.if-not-is_bytes.false in
    let bytes : c.as_slice.result.now ≡ bytes_of word = c.as_slice.ensures.value ∙ c.in_ok-bytes-in-Word.ensures in
    rw (c.in-Word.is, form) (went_more text _ _ _ r c.requires.ready c.push_bytes.new.pieces (map Byte (bytes_of word)) (spot.InBytes c.args.name) _ _
    (c.in_ok-push_bytes-in-Word.ensures ∙ ap (λ bs. r.pieces.items ++ map Byte bs) bytes)
    (fold-bytes-by (label_at text) _ (bytes_of word))
    (sym (ap (λ ls. labels_kept text r.pieces.items ++ ls) (labels-bytes text (bytes_of word)) ∙ append-nil (labels_kept text r.pieces.items)))
    _ c.requires.spot refl)
