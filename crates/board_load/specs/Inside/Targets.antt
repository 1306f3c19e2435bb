-- Where the rails are to stand, where no rail's value binds another's.
use Rattle.std.specs.Prelude.{ℕ, List, unwrap_or}
use Rattle.board.specs.declared.rail.Rail.{Rail}
use Rattle.board.specs.Rail.{least}
use Rattle.board_load.specs.Start.{start_values}

-- where a rail is to stand by itself: at the least of the values that it may be given
abbrev pub start_of : List (List ℕ) → Rail → ℕ
start_of regs rail = unwrap_or (least (start_values rail regs)) 0
