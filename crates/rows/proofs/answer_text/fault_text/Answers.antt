use Rattle.std.proofs.Common.{refl, sym, take}
use Rattle.std.proofs.lemmas.List.{append-nil, take_all, take_more, flat_map_more}
use Rattle.rows.specs.Row.{rail_name}
use Rattle.rows.specs.AnswerText.{now_text}
use Rattle.rows.proofs.answer_text.fault_text.Goals as goal

pub returns : goal.returns
returns c =
    let all = take_all c.loop-id.id-index c.args.now.now c.loop-id-test.false in
    let text = rw c.in_ok-reg.ensures at c.in_ok-text.ensures.ok in
    rw (c.loop-id.invariant, all, text) refl

pub loop-id-init : goal.loop-id-init
loop-id-init c = sym (append-nil _)

pub loop-id-preserved : goal.loop-id-preserved
loop-id-preserved c =
    let before = take c.loop-id.id-index c.args.now.now in
    let one = take_more c.args.now.now c.loop-id.id-index (record { 0 = 0 }, 0) c.loop-id-test.true in
    rw (c.in_ok-push_now.ensures, c.loop-id.invariant, one) (flat_map_more (now_text (rail_name c.args.board.now)) _ before _)
