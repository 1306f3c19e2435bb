use Rattle.std.proofs.Common.{arith, sym, ap, length}
use Rattle.board_checks.specs.declared.fault.CheckFault.TheVariants.{SuspendSpread}
use Rattle.std.specs.Prelude.{option_map}
use Rattle.std.specs.List.{range_with_len}
use Rattle.board_checks.specs.Asleep.{are_apart_asleep}
use Rattle.board_checks.proofs.Finds.{is_first, no_pair, first_pair}
use Rattle.board_checks.proofs.sleeps.check_sleeps.Goals as goal

pub overflow_cast-result-in-Some : goal.overflow_cast-result-in-Some
overflow_cast-result-in-Some c =
    let first = is_first (are_apart_asleep c.args.board.now c.loop-a.a) 0 (length c.args.board.now.rails) c.in-Some.b (sym c.in-Some.ensures) in
    omega (arith, first.below)

pub returns-in-Some : goal.returns-in-Some
returns-in-Some c =
    record {
      exact = ap (option_map (λ pair. SuspendSpread pair.0 pair.1))
          (sym (first_pair (are_apart_asleep c.args.board.now) (range_with_len 0 (length c.args.board.now.rails)) 0 (length c.args.board.now.rails) c.loop-a.a c.in-Some.b
          (omega arith) (omega arith) (sym c.in-Some.ensures) (λ j _ near. c.loop-a.invariant j near)));
    }

pub returns : goal.returns
returns c = record {
  exact = ap (option_map (λ pair. SuspendSpread pair.0 pair.1))
      (sym (no_pair (are_apart_asleep c.args.board.now) (range_with_len 0 (length c.args.board.now.rails)) 0 (length c.args.board.now.rails)
      (λ k _ below. c.loop-a.invariant k (omega arith))));
}
