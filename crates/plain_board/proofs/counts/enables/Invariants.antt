use Rattle.std.proofs.Common.{◌≡◌, ◌*◌, ◌≤◌, take, sum_by}
use Rattle.plain_board.proofs.Rows.{enables_by}
use Rattle.plain_board.proofs.counts.enables.Given as goal

abbrev pub invariant-loop-on : goal.invariant-loop-on
invariant-loop-on l = record {
  added : l.sum ≡ sum_by (enables_by l.id.0) (take l.on-index l.on-items);
  bound : l.sum ≤ 4294967295 * l.on-index;
}
