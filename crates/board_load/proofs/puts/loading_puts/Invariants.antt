use Rattle.std.proofs.Common.{◌≡◌, ◌++◌, take}
use Rattle.std.specs.Prelude.{flat_map}
use Rattle.board_load.specs.Inside.Puts.{value_and_mode_puts, on_puts}
use Rattle.board_load.proofs.puts.loading_puts.Given as goal

abbrev pub invariant-loop-r : goal.invariant-loop-r
invariant-loop-r l = l.puts ≡ flat_map (value_and_mode_puts l.board l.regs l.values) (take l.r-index l.board.order)

abbrev pub invariant-loop-r-2 : goal.invariant-loop-r-2
invariant-loop-r-2 l = l.puts ≡ flat_map (value_and_mode_puts l.board l.regs l.values) l.board.order ++ flat_map (on_puts l.board l.regs) (take l.r-index l.board.order)
