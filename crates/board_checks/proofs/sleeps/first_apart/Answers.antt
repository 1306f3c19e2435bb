use Rattle.std.proofs.Common.{◌≡◌, false, arith, sym, length, below_more}
use Rattle.board_checks.specs.Asleep.{are_apart_asleep}
use Rattle.board_checks.proofs.Finds.{none_passes, first_passes}
use Rattle.board_checks.proofs.sleeps.first_apart.Goals as goal

pub returns-then-are_apart_asleep : goal.returns-then-are_apart_asleep
returns-then-are_apart_asleep c =
    sym (first_passes (are_apart_asleep c.args.board.now c.args.a) 0 (length c.args.board.now.rails) c.loop-b.b (omega arith) (omega arith)
    (sym c.if-are_apart_asleep.ensures) (λ j _ near. c.loop-b.invariant j near))

pub loop-b-preserved : goal.loop-b-preserved
loop-b-preserved c =
    below_more (λ k. are_apart_asleep c.args.board.now c.args.a k ≡ false) c.loop-b.b c.loop-b.invariant (sym c.if-are_apart_asleep.ensures)

pub returns : goal.returns
returns c =
    sym (none_passes (are_apart_asleep c.args.board.now c.args.a) 0 (length c.args.board.now.rails) (λ k _ below. c.loop-b.invariant k (omega arith)))
