-- Where a board's one rail stands after its moves, and what else holds of such a board.
use Rattle.std.proofs.Common.{◌≡◌, ℕ, zero, suc, List, refl, sym, ap, subst, ◌∙◌, length}
use Rattle.board_graph.specs.Graph.{IsIn, AreCoupled}
use Rattle.board_graph.specs.Sets.{IsLinked}
use Rattle.board.specs.declared.board.Board.{Board}
use Rattle.board.specs.declared.rail.Rail.{Rail}
use Rattle.board.specs.Lone.{lone_graph, IsLone}
use Rattle.board.specs.Rail.{uv, allowed, IsAllowed}
use Rattle.board.specs.Valid.{IsValid}
use Rattle.rail_law.specs.Moves.{after_moves}
use Rattle.rail_law.specs.Law.{Law}
use Rattle.plain_board.specs.Untied.{IsUntied, HoldFields}
use Rattle.plain_board.proofs.RailMoves.{path_is, moves_end}
use Rattle.board_graph.proofs.Growth.{from_taken}
use Rattle.regulator_main.specs.Inside.Way.{moves_to}
use Rattle.regulator_main.proofs.LoneBoard.{lone_board, first, lone-path}

only_one : (group r : ℕ) → IsIn lone_graph group r → r ≡ 0
only_one group zero is = refl
only_one group (suc r) is = cc

lone_uncoupled : (a b : ℕ) → ¬ AreCoupled lone_graph a b
lone_uncoupled a b coupled = coupled.apart (only_one coupled.block.group a coupled.block.first ∙ sym (only_one coupled.block.group b coupled.block.second))

lone_unlinked : (i : ℕ) → ¬ IsLinked lone_graph i
lone_unlinked zero is = cc
lone_unlinked (suc i) is = cc

-- on a board of one rail no value binds another
pub lone_untied : (board : Board) → IsLone board → IsUntied board
lone_untied board lone = record {
  uncoupled = subst (λ graph. (a b : ℕ) → ¬ AreCoupled graph a b) (sym lone.graph) lone_uncoupled;
  unlinked = subst (λ graph. (i : ℕ) → ¬ IsLinked graph i) (sym lone.graph) lone_unlinked;
}

-- after all its moves the rail stands at the value that they lead to
pub lone_goal : (rail : Rail) (chips : ℕ) (regs : List (List ℕ)) (goal : ℕ) → IsValid (lone_board rail chips) → IsUntied (lone_board rail chips) → HoldFields (lone_board rail chips) regs
    → length regs ≡ chips → Law (lone_board rail chips) regs → IsAllowed rail goal
    → uv rail (after_moves (lone_board rail chips) regs (moves_to first rail (uv rail regs) goal)) ≡ goal
lone_goal rail chips regs goal valid untied hold whole law allowed_goal =
    let board = lone_board rail chips in
    let has = from_taken (allowed rail) goal allowed_goal in
    ap (λ moves. uv rail (after_moves board regs moves)) (sym (lone-path rail chips (uv rail regs) goal allowed_goal) ∙ path_is board valid.sound untied 0 rail regs goal refl has)
    ∙ (moves_end board valid.sound 0 rail refl regs whole hold goal has law).value
