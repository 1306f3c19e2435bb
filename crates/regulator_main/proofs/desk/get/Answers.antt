use Rattle.std.proofs.Common.{◌≡◌, ℕ, ◌∷◌, [], None, length, sym, subst, ap, ◌∙◌}
use Rattle.board.specs.declared.board.Board.{Board}
use Rattle.board.specs.declared.rail.Rail.{Rail}
use Rattle.board.specs.Desc.{ArePlaced}
use Rattle.rows.specs.declared.answer.Answer.TheVariants.{OkUv}
use Rattle.rows.specs.declared.call.Call.TheVariants.{Get}
use Rattle.plain_board.specs.Handles.{open_of}
use Rattle.plain_board.specs.Answer.{answer}
use Rattle.regulator_main.proofs.LoneAnswers.{get-answer}
use Rattle.regulator_main.proofs.LoneEntry.{board-is, entry-first}
use Rattle.regulator_main.proofs.desk.get.Goals as goal

pub uv-requires : goal.uv-requires
uv-requires c =
    let same : c.requires.lone.rail ≡ c.lone_rail.result.now = let both : c.requires.lone.rail ∷ [] ≡ c.lone_rail.result.now ∷ [] = sym c.requires.lone.rails ∙ c.lone_rail.ensures in cc in
    subst (λ (r : Rail). ArePlaced (length c.args.plain.now.regs) r.desc) same
    (subst (λ (n : ℕ). ArePlaced n c.requires.lone.rail.desc) (sym c.requires.inv.kept.regs) c.requires.lone.sound.desc.placed)

pub returns-in-Some-clause-answer : goal.returns-in-Some-clause-answer
returns-in-Some-clause-answer c =
    let board = c.args.board.now in
    let plain = c.args.plain.now in
    let rail = c.lone_rail.result.now in
    let is = entry-first board c.requires.lone plain c.requires.inv c.args.worker c.args.handle.now.bytes c.in-Some.field-0
    (ap (λ hs. open_of hs c.args.worker c.args.handle.now.bytes) (sym c.as_slice.ensures) ∙ sym c.open_of.ensures ∙ c.in-Some.is) in
    subst (λ (b : Board). answer b plain c.args.worker (Get c.args.handle.now) None ≡ (OkUv c.uv.result, plain)) (sym (board-is board c.requires.lone rail c.lone_rail.ensures))
    (get-answer rail board.chips plain c.args.worker c.args.handle.now c.in-Some.field-0.1 is ∙ ap (λ u. (OkUv u, plain)) (sym c.uv.ensures))
