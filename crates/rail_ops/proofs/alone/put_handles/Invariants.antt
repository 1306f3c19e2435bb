use Rattle.std.proofs.Common.{◌≡◌, ◌++◌, map, take}
use Rattle.rail_ops.proofs.alone.put_handles.Given as goal

abbrev pub invariant-loop-row : goal.invariant-loop-row
invariant-loop-row l = l.handles ≡ l.fn.handles ++ map (λ row. (l.id, row)) (take l.row-index l.rows)
