use Rattle.std.proofs.Common.{ℕ}
use Rattle.std.specs.Prelude.{slice_index}
use Rattle.board.specs.declared.rail.Rail.{Rail}
use Rattle.board_load.proofs.Walks.{IsWrittenTo}
use Rattle.board_load.proofs.finishing.kept_rails.Given as goal

abbrev pub invariant-loop-r : goal.invariant-loop-r
invariant-loop-r l = IsWrittenTo (λ (rail : ℕ × Rail). record rail.1 { kept_uv = slice_index l.values rail.0 }) l.fn.rails l.r l.rail-items
