use Rattle.std.proofs.Common.{◌≡◌, length, remove}
use Rattle.request_set.proofs.request_set.put_last.Given as goal

-- the rows but the one at the next place are those but the one that is taken out
abbrev pub invariant-loop-next : goal.invariant-loop-next
invariant-loop-next l = record { rest : remove l.rows l.next ≡ remove l.fn.rows l.at; same : length l.rows ≡ length l.fn.rows }
