use Rattle.std.proofs.Common.{refl, arith}
use Rattle.std.proofs.lemmas.Result.{IfOk-weaker, on_ok_weaker}
use Rattle.rows.specs.declared.call.Call.TheVariants.{Open, Set, Get}
use Rattle.rows.specs.declared.call.Call.{Call}
use Rattle.plain_board.specs.Answer.{plan}
use Rattle.regulator_main.specs.Desk.{Performs, tries_for}
use Rattle.regulator_main.specs.Walk.{Tried}
use Rattle.regulator_main.proofs.Options.{both_ok}
use Rattle.regulator_main.proofs.LoneGoal.{lone_untied}
use Rattle.regulator_main.proofs.Performed.{performs-still, performed-inv, performed-lawful, plan-still, tried_calm}
use Rattle.regulator_main.proofs.desk.perform.Goals as goal

pub returns-in-Open : goal.returns-in-Open
returns-in-Open g c =
    let board = c.args.board.now in
    let plain = c.args.plain.now in
    let call = Open c.in-Open.handle c.in-Open.rail c.in-Open.exclusive in
    let told = g.W.Wire.accepted c.args.wire.now in
    let count = g.W.Wire.faults c.args.wire.now in
    let untied = lone_untied board c.requires.lone in
    let names = rw c.in-Open.is at c.requires.rail in
    let performs = both_ok c.open.result _ _ (λ said. Performs board plain c.open.new.plain c.args.worker call said told told count count)
    (λ said is calm. performs-still board plain c.open.new.plain c.args.worker call said told told count count is calm refl)
    c.open.ensures.answer c.open.ensures.calm in
    record {
      performs = rw c.in-Open.is performs;
      tried = rw c.in-Open.is (IfOk-weaker c.open.result _ (λ said. Tried (tries_for (plan board plain c.args.worker call) said) (g.W.Wire.plan c.args.wire.now) (g.W.Wire.plan c.args.wire.now))
          (λ said calm. tried_calm said (plan board plain c.args.worker call) (g.W.Wire.plan c.args.wire.now) calm (plan-still board plain c.args.worker call refl)) c.open.ensures.calm);
      lawful = rw c.in-Open.is (IfOk-weaker c.open.result _ _
          (λ said p. performed-lawful board c.requires.valid untied plain c.open.new.plain c.hold_fields.ensures c.requires.inv c.args.worker call tt said told told count count p) performs);
      inv = IfOk-weaker c.open.result _ _
          (λ said p. performed-inv board c.requires.valid untied plain c.open.new.plain c.hold_fields.ensures c.requires.inv c.args.worker call tt said told told count count p names) performs;
      handles = c.open.ensures.handles;
    }

pub returns-in-Set : goal.returns-in-Set
returns-in-Set g c =
    let board = c.args.board.now in
    let plain = c.args.plain.now in
    let call = Set c.in-Set.handle c.in-Set.lo c.in-Set.hi in
    let told = g.W.Wire.accepted in
    let count = g.W.Wire.faults in
    let untied = lone_untied board c.requires.lone in
    record {
      performs = rw c.in-Set.is c.set.ensures.performs;
      tried = rw c.in-Set.is c.set.ensures.tried;
      lawful = rw c.in-Set.is (IfOk-weaker c.set.result _ _
          (λ said p. performed-lawful board c.requires.valid untied plain c.set.new.plain c.hold_fields.ensures c.requires.inv c.args.worker call tt said (told c.args.wire.now) (told c.set.new.wire) (count c.args.wire.now) (count c.set.new.wire) p) c.set.ensures.performs);
      inv = IfOk-weaker c.set.result _ _
          (λ said p. performed-inv board c.requires.valid untied plain c.set.new.plain c.hold_fields.ensures c.requires.inv c.args.worker call tt said (told c.args.wire.now) (told c.set.new.wire) (count c.args.wire.now) (count c.set.new.wire) p tt) c.set.ensures.performs;
      handles = on_ok_weaker c.set.result (λ same. omega arith) c.set.ensures.handles;
    }

pub returns-in-Get : goal.returns-in-Get
returns-in-Get g c =
    let board = c.args.board.now in
    let plain = c.args.plain.now in
    let call : Call = Get c.in-Get.handle in
    let told = g.W.Wire.accepted c.args.wire.now in
    let count = g.W.Wire.faults c.args.wire.now in
    let untied = lone_untied board c.requires.lone in
    let performs = performs-still board plain plain c.args.worker call c.get.result told told count count c.get.ensures.answer c.get.ensures.calm refl in
    record {
      performs = rw c.in-Get.is performs;
      tried = rw c.in-Get.is (tried_calm c.get.result (plan board plain c.args.worker call) (g.W.Wire.plan c.args.wire.now) c.get.ensures.calm (plan-still board plain c.args.worker call refl));
      lawful = rw c.in-Get.is (performed-lawful board c.requires.valid untied plain plain c.hold_fields.ensures c.requires.inv c.args.worker call tt c.get.result told told count count performs);
      inv = c.requires.inv;
      handles = omega arith;
    }
