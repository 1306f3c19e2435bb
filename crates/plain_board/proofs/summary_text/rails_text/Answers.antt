use Rattle.std.proofs.Common.{arith, refl, ap, length}
use Rattle.std.proofs.lemmas.Result.{IfOk-from_err}
use Rattle.std.proofs.lemmas.List.{take_all}
use Rattle.std.proofs.lemmas.Option.{slice_get_read}
use Rattle.plain_board.specs.Text.{rail_text}
use Rattle.plain_board.proofs.Enumerated.{flat_map-enumerated}
use Rattle.plain_board.proofs.summary_text.rails_text.Goals as goal

pub rail_text-requires : goal.rail_text-requires
rail_text-requires c = record {
  valid = c.requires.valid;
  inv = c.requires.inv;
  few = c.requires.few;
  place = rw (c.loop-rail.invariant.number, ← c.as_slice-rail-items.ensures) (slice_get_read _ _ _ _ refl c.loop-rail-test.true c.rail-item.is);
}

pub overflow_add-id : goal.overflow_add-id
overflow_add-id c =
    let all = ap length c.as_slice-rail-items.ensures in
    omega (arith, all, c.requires.valid.sound.few, c.loop-rail.invariant.number, c.loop-rail-test.true)

pub returns : goal.returns
returns c =
    let all = take_all c.loop-rail.rail-index c.as_slice-rail-items.result.now c.loop-rail-test.false in
    cc (c.loop-rail.invariant.lines, all, c.as_slice-rail-items.ensures)

pub returns-in_err-push_str : goal.returns-in_err-push_str
returns-in_err-push_str c = IfOk-from_err _ _ c.from_residual-in_err-push_str.ensures.0

pub returns-in_err-line : goal.returns-in_err-line
returns-in_err-line c = IfOk-from_err _ _ c.from_residual.ensures.0

pub loop-rail-init : goal.loop-rail-init
loop-rail-init c = record { number = refl; lines = c.new-text.ensures.bytes }

pub loop-rail-preserved : goal.loop-rail-preserved
loop-rail-preserved c =
    let grown = flat_map-enumerated (rail_text c.args.board.now c.args.plain.now) c.as_slice-rail-items.result.now c.loop-rail.rail-index c.rail-item.result (omega arith) c.rail-item.is in
    record {
      number = omega arith;
      lines = cc (grown, c.in_ok-line.ensures, c.in_ok-push_str.ensures.bytes, c.as_str.ensures.value);
    }
