-- What a board of one rail comes to: its one rail, the least value that meets all that is asked, and the way there.
use Rattle.std.proofs.Common.{◌≡◌, ℕ, Bool, true, List, [], ◌∷◌, Option, Some, None, refl, ap, ◌∙◌, arith, map, filter, min}
use Rattle.std.specs.Prelude.{fold, option_map, flat_map}
use Rattle.std.proofs.lemmas.Bool.Decides.{nat_tests}
use Rattle.std.proofs.lemmas.Simd.{map-map}
use Rattle.board_graph.specs.declared.graph.Graph.{Graph}
use Rattle.board.specs.declared.board.Board.{Board}
use Rattle.board.specs.declared.rail.Rail.{Rail}
use Rattle.board.specs.declared.rail_id.RailId.{RailId}
use Rattle.board.specs.Lone.{lone_graph, IsLone}
use Rattle.board.specs.Rail.{allowed, least, lesser}
use Rattle.board.proofs.Picks.{filter-all}
use Rattle.rail_law.specs.Least.{lower, lowest, least_vector, least_of}
use Rattle.rail_law.specs.Ties.{keep_all}
use Rattle.rail_law.specs.Way.{path, move_of}
use Rattle.regulator_main.specs.Inside.Way.{way, moves_to}
use Rattle.regulator_main.proofs.LoneWay.{lone_way}
use Rattle.regulator_main.proofs.Ordered.{has}

-- a board of one rail, written out
abbrev pub lone_board : Rail → ℕ → Board
lone_board rail chips = record { rails = rail ∷ []; spread = 0 ∷ []; chips = chips; graph = lone_graph; order = 0 ∷ [] }

abbrev board_of : List Rail → List ℕ → ℕ → Graph → List ℕ → Board
board_of rails spread chips graph order = record { rails = rails; spread = spread; chips = chips; graph = graph; order = order }

-- a board of one rail is that
pub lone-board : (board : Board) (lone : IsLone board) → board ≡ lone_board lone.rail board.chips
lone-board board lone =
    ap (λ rails. board_of rails board.spread board.chips board.graph board.order) lone.rails
    ∙ ap (λ spread. board_of (lone.rail ∷ []) spread board.chips board.graph board.order) lone.spread
    ∙ ap (λ graph. board_of (lone.rail ∷ []) (0 ∷ []) board.chips graph board.order) lone.graph
    ∙ ap (λ order. board_of (lone.rail ∷ []) (0 ∷ []) board.chips lone_graph order) lone.order

-- the board's one rail
abbrev pub first : RailId
first = record { 0 = 0 }

-- the way to another value, in moves
pub lone-path : (rail : Rail) (chips from to : ℕ) → has to (allowed rail) ≡ true → path (lone_board rail chips) (from ∷ []) (to ∷ []) ≡ moves_to first rail from to
lone-path rail chips from to there =
    ap (map (move_of (lone_board rail chips))) (lone_way (allowed rail) from to there)
    ∙ map-map (move_of (lone_board rail chips)) (λ v. (0, v)) (way (allowed rail) from to)

-- single values, each as a list by rail
abbrev pub alone : ℕ → List ℕ
alone v = v ∷ []

assignments-one : (values : List ℕ) → flat_map (λ v. (v ∷ []) ∷ []) values ≡ map alone values
assignments-one [] = refl
assignments-one (v ∷ vs) = ap (λ rest. (v ∷ []) ∷ rest) (assignments-one vs)

lesser-min : (n m : ℕ) (o : Option ℕ) → lesser (min n m) o ≡ lesser n (Some (lesser m o))
lesser-min n m None = grind (arith, nat_tests)
lesser-min n m (Some k) = grind (arith, nat_tests)

lowest-one : (n : ℕ) (ns : List ℕ) → fold lower (n ∷ []) (map alone ns) ≡ lesser n (least ns) ∷ []
lowest-one n [] = refl
lowest-one n (m ∷ ms) = lowest-one (min n m) ms ∙ ap alone (lesser-min n m (least ms))

lowest-alone : (ns : List ℕ) → lowest (map alone ns) ≡ option_map alone (least ns)
lowest-alone [] = refl
lowest-alone (n ∷ ns) = ap Some (lowest-one n ns)

-- without ties the least values are the least of each rail
pub least-alone : (values : List ℕ) → least_vector (values ∷ []) [] ≡ option_map alone (least values)
least-alone values =
    ap lowest (ap (filter (λ vector. keep_all vector [])) (assignments-one values) ∙ filter-all (map alone values))
    ∙ lowest-alone values

-- the least value of the one rail among those that are asked of it
pub lone-least : (rail : Rail) (chips : ℕ) (now : List ℕ) (ok : ℕ → ℕ → Bool) → least_of (lone_board rail chips) now ok 0 ≡ option_map alone (least (filter (ok 0) (allowed rail)))
lone-least rail chips now ok = least-alone (filter (ok 0) (allowed rail))
