use Rattle.std.proofs.Common.{◌≡◌, ◌∙◌, Some, ap, sym, map, ◌++◌, [], ◌∷◌, None}
use Rattle.std.proofs.lemmas.List.{map-append}
use Rattle.dts_tree.specs.declared.piece.Piece.TheVariants as piece
use Rattle.dts_tree.specs.Look.{strings_of}
use Rattle.dts_tree.specs.Inside.Strings.{with_last_byte}
use Rattle.dts_tree.proofs.CellLemmas.{parts_of_none}
use Rattle.dts_tree.proofs.StringLemmas.{strings_more, strings_other, strings_byte}
use Rattle.dts_tree.proofs.tree.value.strings_of.Goals as goal
use Rattle.dts_tree.proofs.tree.value.strings_of.Goals.{in-Text+in_ok-push-in-Text, in-Byte+in_ok-put_byte-in-Byte+else-not-branch}

pub loop-piece-init : goal.loop-piece-init
loop-piece-init c = ap strings_of parts_of_none ∙ sym (ap (λ ss. Some (map (λ s. s.items) ss)) c.new-strings.ensures.items)

pub returns-in_default : goal.returns-in_default
returns-in_default c = sym (strings_other c.args.pieces.now c.loop-piece.piece-index piece.Cells c.loop-piece-test.true c.in_default.not-Text c.in_default.not-Byte)

pub returns-then-not-branch : goal.returns-then-not-branch
returns-then-not-branch c =
    let none : None ≡ with_last_byte (map (λ s. s.items) c.loop-piece.strings.items) c.in-Byte.byte = rw c.if-not-branch.true at c.in_ok-put_byte-in-Byte.ensures in
    sym (strings_byte c.args.pieces.now c.loop-piece.piece-index piece.Cells c.in-Byte.byte (map (λ s. s.items) c.loop-piece.strings.items) c.loop-piece-test.true c.in-Byte.is c.loop-piece.invariant (sym none))

pub loop-piece-preserved : goal.loop-piece-preserved
loop-piece-preserved c =
    let ps = c.args.pieces.now in
    let i = c.loop-piece.piece-index in
    let ss = map (λ s. s.items) c.loop-piece.strings.items in
    elim c.match-piece.branch [
      | in-Text+in_ok-push-in-Text w ↦ strings_more ps i piece.Cells piece.Text (Some ss) c.loop-piece-test.true w.in-Text.is c.loop-piece.invariant
          ∙ ap (λ bytes. Some (ss ++ bytes ∷ [])) (sym w.new.ensures.items)
          ∙ ap Some (sym (map-append (λ s. s.items) c.loop-piece.strings.items (w.new.result ∷ [])))
          ∙ ap (λ vs. Some (map (λ s. s.items) vs)) (sym w.in_ok-push-in-Text.ensures.items)
          ∙ ap (λ v. Some (map (λ s. s.items) v.items)) (sym w.strings-is)
      | in-Byte+in_ok-put_byte-in-Byte+else-not-branch w ↦
          let more : Some (map (λ s. s.items) w.put_byte.new.strings.items) ≡ with_last_byte ss w.in-Byte.byte = rw w.if-not-branch.false at w.in_ok-put_byte-in-Byte.ensures in
          strings_more ps i piece.Cells (piece.Byte w.in-Byte.byte) (Some ss) c.loop-piece-test.true w.in-Byte.is c.loop-piece.invariant
          ∙ sym more ∙ ap (λ v. Some (map (λ s. s.items) v.items)) (sym w.strings-is)
    ]
