-- The rails that the graph of a board counts, and tests of them.
use Rattle.std.proofs.Common.{◌≡◌, ℕ, ◌<◌, Bool, false, Option, Some, None, refl, ap, ◌∙◌, arith, length}
use Rattle.std.specs.Prelude.{find, option_map, slice_get}
use Rattle.std.specs.Option.{option_map_or}
use Rattle.std.proofs.lemmas.List.{length-map}
use Rattle.std.proofs.lemmas.Option.{slice_get_within}
use Rattle.board_graph.specs.Graph.{count_of, IsRailCount}
use Rattle.board_graph.specs.Sets.{rails_of}
use Rattle.board.specs.declared.board.Board.{Board}
use Rattle.board.specs.declared.rail.Rail.{Rail}
use Rattle.board.specs.Valid.{IsGraphOf}
use Rattle.board_checks.specs.Rails.{tests_rail}
use Rattle.board_checks.proofs.Finds.{fails_below, is_first}

pub rail_count : (board : Board) → IsGraphOf board → count_of board.graph ≡ length board.rails
rail_count board graph = ap length graph.groups ∙ length-map board.rails (λ rail. rail.group)

pub rail_within : (board : Board) (r : ℕ) (rail : Rail) → IsGraphOf board → slice_get board.rails r ≡ Some rail → r < count_of board.graph
rail_within board r rail graph here = omega (arith, rail_count board graph, slice_get_within board.rails r rail here)

-- a rail that was found has a number of 16 bits
pub is_number : (board : Board) (test : ℕ → Bool) (r : ℕ) → IsRailCount (length board.rails) → IsGraphOf board → find test (rails_of board.graph) ≡ Some r → r < 65536
is_number board test r few graph found = let first = is_first test 0 (count_of board.graph) r found in omega (arith, first.below, rail_count board graph)

-- where none was found, the test of each rail fails
pub rail_fails : (board : Board) (test : ℕ → Bool) (r : ℕ) (rail : Rail) → IsGraphOf board → find test (rails_of board.graph) ≡ None → slice_get board.rails r ≡ Some rail → test r ≡ false
rail_fails board test r rail graph none here = let within : r < count_of board.graph = rail_within board r rail graph here in fails_below test 0 (count_of board.graph) none r (omega arith) (omega arith)

pub test_at : (test : Rail → Bool) (board : Board) (r : ℕ) (rail : Rail) → slice_get board.rails r ≡ Some rail → tests_rail test board r ≡ test rail
test_at test board r rail here = ap (λ o. option_map_or test o false) here

pub map_none : {X Y : Type 0} (f : X → Y) (o : Option X) → option_map f o ≡ None → o ≡ None
map_none f None is = refl
map_none f (Some x) is = absurd (cc)
