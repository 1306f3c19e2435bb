-- On a board of one rail no value binds another.
use Rattle.std.proofs.Common.{◌≡◌, ℕ, zero, suc, refl, sym, subst, ◌∙◌}
use Rattle.board_graph.specs.Graph.{IsIn, AreCoupled}
use Rattle.board_graph.specs.Sets.{IsLinked}
use Rattle.board.specs.declared.board.Board.{Board}
use Rattle.board.specs.Lone.{lone_graph, IsLone}
use Rattle.plain_board.specs.Untied.{IsUntied}

only_one : (group r : ℕ) → IsIn lone_graph group r → r ≡ 0
only_one group zero is = refl
only_one group (suc r) is = cc

lone_uncoupled : (a b : ℕ) → ¬ AreCoupled lone_graph a b
lone_uncoupled a b coupled = coupled.apart (only_one coupled.block.group a coupled.block.first ∙ sym (only_one coupled.block.group b coupled.block.second))

lone_unlinked : (i : ℕ) → ¬ IsLinked lone_graph i
lone_unlinked zero is = cc
lone_unlinked (suc i) is = cc

pub lone_untied : (board : Board) → IsLone board → IsUntied board
lone_untied board lone = record {
  uncoupled = subst (λ graph. (a b : ℕ) → ¬ AreCoupled graph a b) (sym lone.graph) lone_uncoupled;
  unlinked = subst (λ graph. (i : ℕ) → ¬ IsLinked graph i) (sym lone.graph) lone_unlinked;
}
