use Rattle.std.proofs.Common.{◌≡◌, map, take}
use Rattle.board_load.specs.Inside.Puts.{write_of_put}
use Rattle.board_load.proofs.puts.writes_of.Given as goal

abbrev pub invariant-loop-put : goal.invariant-loop-put
invariant-loop-put l = l.writes.items ≡ map write_of_put (take l.put-index l.puts)
