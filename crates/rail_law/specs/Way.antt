-- The way of a board's rails from where they stand to where they are to stand, one value of one rail a step.
-- A direction is the test `before`: rails rise where it is `<`, and fall where it is `>`.
use Rattle.std.specs.Prelude.{ℕ, zero, suc, Bool, nat_lt, List, [], ◌∷◌, ◌++◌, map, filter, find, fold, reverse, length, sum_by, slice_get, slice_index, slice_index_or, slice_set, Option, Some, None, option_map, option_and_then}
use Rattle.std.specs.List.{best_of}
use Rattle.std.specs.Option.{option_map_or}
use Rattle.board_graph.specs.declared.graph.Graph.{Graph}
use Rattle.board_graph.specs.Graph.{members}
use Rattle.board.specs.declared.board.Board.{Board}
use Rattle.board.specs.declared.part.Part.TheVariants.{Selector}
use Rattle.board.specs.Fields.{allowed_at}
use Rattle.board_graph.specs.Sets.{rails_of}
use Rattle.rail_law.specs.Moves.{Move, selector_for}

-- a step: a rail, and the value that it takes
abbrev pub Step : Type 0
Step = ℕ × ℕ

-- the number whose key comes before those of all others; of those with one key the first in the list
abbrev pub first_by : (ℕ → ℕ → Bool) → (ℕ → ℕ) → List ℕ → Option ℕ
first_by before key [] = None
first_by before key (n ∷ ns) = Some (best_of (λ a b. before (key a) (key b)) n ns)

-- the rails of a rail's block, by rising numbers
abbrev pub block_at : Graph → ℕ → List ℕ
block_at graph r = option_map_or (members graph) (slice_get graph.group r) []

-- a rail has not come to its goal
abbrev pub is_short : (ℕ → ℕ → Bool) → List ℕ → List ℕ → ℕ → Bool
is_short before goal now r = before (slice_index now r) (slice_index goal r)

-- The rail that moves next. Of the blocks with a rail that is short of its goal it is in the one whose
-- turn comes first; among its short rails it is the one that is furthest back, and of several the least.
-- Where rails 0 and 1 are coupled and are to rise from 800000 and 806250 µV, rail 0 moves next.
abbrev pub next_rail : (ℕ → ℕ → Bool) → Graph → List ℕ → List ℕ → List ℕ → Option ℕ
next_rail before graph turns goal now =
    option_and_then (λ r. first_by before (slice_index now) (filter (is_short before goal now) (block_at graph r))) (find (is_short before goal now) turns)

-- the next one of a rail's values behind one that it has
abbrev pub next_value : (ℕ → ℕ → Bool) → List ℕ → ℕ → Option ℕ
next_value before values uv = first_by before (λ v. v) (filter (before uv) values)

-- the next step, where there is one: the next rail takes the next one of its values
abbrev pub next_step : (ℕ → ℕ → Bool) → Graph → List ℕ → List (List ℕ) → List ℕ → List ℕ → Option Step
next_step before graph turns choices goal now =
    option_and_then (λ r. option_map (λ v. (r, v)) (next_value before (slice_index_or choices r []) (slice_index now r))) (next_rail before graph turns goal now)

-- the values after a step
abbrev pub stepped : List ℕ → Step → List ℕ
stepped now step = slice_set now step.0 step.1

-- a step, where there is one, and those that follow it
abbrev pub step_and : (List ℕ → List Step) → List ℕ → Option Step → List Step
step_and rest now None = []
step_and rest now (Some step) = step ∷ rest (stepped now step)

-- the steps in one direction, so many at the most: no rail takes one of its values twice, so the number
-- of all values is enough
abbrev pub steps : (ℕ → ℕ → Bool) → Graph → List ℕ → List (List ℕ) → List ℕ → ℕ → List ℕ → List Step
steps before graph turns choices goal zero now = []
steps before graph turns choices goal (suc most) now =
    step_and (λ later. steps before graph turns choices goal most later) now (next_step before graph turns choices goal now)

-- the values after these steps
abbrev pub after_steps : List ℕ → List Step → List ℕ
after_steps now taken = fold stepped now taken

-- the way: first the rails rise that stand below their goals, in the order in which the board comes
-- up, and then those fall that stand above, the other way round. Each step is to a neighbouring value.
abbrev pub way : Graph → List ℕ → List (List ℕ) → List ℕ → List ℕ → List Step
way graph order choices now goal =
    let most = sum_by length choices in
    let up = steps nat_lt graph order choices goal most now in
    up ++ steps (λ a b. nat_lt b a) graph (reverse order) choices goal most (after_steps now up)

-- the values of each rail of a board, in the order of the rails
abbrev pub allowed_of : Board → List (List ℕ)
allowed_of board = map (allowed_at board) (rails_of board.graph)

-- a step as a move: the first selector that gives the value
abbrev pub move_of : Board → Step → Move
move_of board step = record {
  rail = record { 0 = step.0 };
  part = Selector;
  bits = option_map_or (λ rail. selector_for rail step.1) (slice_get board.rails step.0) 0;
}

-- the moves that take a board's rails from where they stand to where they are to stand; a rail that
-- stays, or at which nobody looks, has the same value in both
abbrev pub path : Board → List ℕ → List ℕ → List Move
path board now goal = map (move_of board) (way board.graph board.order (allowed_of board) now goal)
