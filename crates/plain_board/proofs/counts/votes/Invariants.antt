use Rattle.std.proofs.Common.{◌≡◌, ◌≤◌, ◌&&◌, take, count_by}
use Rattle.board.specs.Rail.{is_on}
use Rattle.plain_board.specs.Counts.{is_supply}
use Rattle.plain_board.proofs.counts.votes.Given as goal

abbrev pub invariant-loop-rail : goal.invariant-loop-rail
invariant-loop-rail l = record {
  counted : l.count ≡ count_by (λ rail. is_supply l.id.0 rail.supply && is_on rail l.plain.regs) (take l.rail-index l.rail-items);
  bound : l.count ≤ l.rail-index;
}
