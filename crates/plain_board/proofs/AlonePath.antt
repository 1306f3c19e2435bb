-- The way of a rail that moves alone: its own values, one after another, from where it stands to its goal.
use Rattle.std.proofs.Common.{◌≡◌, ℕ, zero, suc, ◌-◌, ◌<◌, ◌≤◌, Bool, true, false, cond, ltb, List, [], ◌∷◌, ◌++◌, Option, Some, None, inl, inr, refl, sym, ap, ◌∙◌, arith, map, length, get_or, filter, fold, find, reverse, sum_by, slice_get, slice_index, slice_index_or, slice_set, All, Contains}
use Rattle.std.specs.Prelude.{option_map, option_and_then}
use Rattle.std.specs.List.{best_of}
use Rattle.std.specs.Option.{option_map_or}
use Rattle.std.proofs.lemmas.Bool.{cases_eq, cases_lt, cases_Bool, both_ways, le-ltb, cond-true, cond-false}
use Rattle.std.proofs.lemmas.List.{set-set, set-get_or, get_or-set_same, get_or-set_other, append-nil, get_or-reverse, length-reverse}
use Rattle.std.proofs.lemmas.List.Elements.{All-head, All-tail, All-filter}
use Rattle.std.proofs.lemmas.List.FromFn.{get_or-map-range_with_len, length-map-range_with_len}
use Rattle.std.proofs.lemmas.List.Sums.{get_or-le-sum_by, count_by-le-length}
use Rattle.std.proofs.lemmas.Option.{slice_get-get_or}
use Rattle.board_graph.specs.Graph.{count_of, members}
use Rattle.board.specs.declared.board.Board.{Board}
use Rattle.board.specs.Fields.{allowed_at}
use Rattle.rail_law.specs.Way.{Step, first_by, block_at, is_short, next_rail, next_value, next_step, stepped, step_and, steps, after_steps, way, allowed_of, move_of, path}
use Rattle.rail_law.proofs.Admissible.{in_filtered}
use Rattle.rail_law.proofs.Members.{is_member}
use Rattle.plain_board.specs.Untied.{IsUntied}
use Rattle.plain_board.proofs.Untied.{members_alone}
use Rattle.plain_board.proofs.Run.{IsOrdering, upward, downward, run, run_on, end_of, run_enough, end_is}
use Rattle.plain_board.proofs.ValuesTo.{above, values_to, run_idle, values_to-rising, values_to-falling}

-- the one element that passes a test is found
find_sole_by : (p : ℕ → Bool) (x : ℕ) (xs : List ℕ) (r : ℕ) (t : Bool) → p x ≡ t → p r ≡ true → ((k : ℕ) → p k ≡ true → k ≡ r) → (Contains xs r → find p xs ≡ Some r)
    → Contains (x ∷ xs) r → cond t (Some x) (find p xs) ≡ Some r
find_sole_by p x xs r true is passes only rest has = ap Some (only x is)
find_sole_by p x xs r false is passes only rest (zero, within, same) = absurd (both_ways _ is (ap p same ∙ passes))
find_sole_by p x xs r false is passes only rest (suc k, within, same) = rest (k, omega arith, same)

find_sole : (p : ℕ → Bool) (xs : List ℕ) (r : ℕ) → p r ≡ true → ((k : ℕ) → p k ≡ true → k ≡ r) → Contains xs r → find p xs ≡ Some r
find_sole p [] r passes only has = absurd (omega (arith, has.1))
find_sole p (x ∷ xs) r passes only has = find_sole_by p x xs r (p x) refl passes only (find_sole p xs r passes only) has

find_nothing : (p : ℕ → Bool) (xs : List ℕ) → ((k : ℕ) → p k ≡ false) → find p xs ≡ None
find_nothing p [] fails = refl
find_nothing p (x ∷ xs) fails = let first = fails x in rw first (find_nothing p xs fails)

-- of a list of one number the first is that number
best_same : (beats : ℕ → ℕ → Bool) (r a : ℕ) (xs : List ℕ) → a ≡ r → All (λ x. x ≡ r) xs → best_of beats a xs ≡ r
best_same beats r a [] is all = is
best_same beats r a (x ∷ xs) is all =
    best_same beats r (cond (beats x a) x a) xs (by (beats x a)) (All-tail (λ y. y ≡ r) x xs all)
  where
    by : (t : Bool) → cond t x a ≡ r
    by true = All-head (λ y. y ≡ r) x xs all
    by false = is

first_sole : (before : ℕ → ℕ → Bool) (key : ℕ → ℕ) (r : ℕ) (xs : List ℕ) → All (λ x. x ≡ r) xs → Contains xs r → first_by before key xs ≡ Some r
first_sole before key r [] all has = absurd (omega (arith, has.1))
first_sole before key r (x ∷ xs) all has =
    ap Some (best_same (λ a b. before (key a) (key b)) r x xs (All-head (λ y. y ≡ r) x xs all) (All-tail (λ y. y ≡ r) x xs all))

-- steps of one rail
abbrev pub steps_of : ℕ → List ℕ → List Step
steps_of r vs = map (λ v. (r, v)) vs

after_steps_of : (r u : ℕ) (base vs : List ℕ) → after_steps (slice_set base r u) (steps_of r vs) ≡ slice_set base r (end_of u vs)
after_steps_of r u base [] = refl
after_steps_of r u base (v ∷ vs) =
    ap (λ now. fold stepped now (steps_of r vs)) (set-set base r u v) ∙ after_steps_of r v base vs

module _ (board : Board) (untied : IsUntied board) (before : ℕ → ℕ → Bool) (order : IsOrdering before) (turns : List ℕ) (choices : List (List ℕ)) (r : ℕ) (below : r < count_of board.graph) (turn : Contains turns r) (base : List ℕ) (within : r < length base) (g : ℕ) where
  abbrev short : ℕ → ℕ → Bool
  short u = is_short before (slice_set base r g) (slice_set base r u)

  short_itself : (u : ℕ) → short u r ≡ before u g
  short_itself u = ap (λ n. before n (slice_index (slice_set base r g) r)) (get_or-set_same base r u 0 within) ∙ ap (before u) (get_or-set_same base r g 0 within)

  short_other : (u k : ℕ) → (k ≡ r → ⊥) → short u k ≡ false
  short_other u k apart =
      ap (λ n. before n (slice_index (slice_set base r g) k)) (get_or-set_other base r k u 0 apart)
      ∙ ap (before (slice_index base k)) (get_or-set_other base r k g 0 apart)
      ∙ order.itself (slice_index base k)

  short_only : (u k : ℕ) → short u k ≡ true → k ≡ r
  short_only u k is = elim (cases_eq k r) [
    | inl same ↦ same
    | inr apart ↦ absurd (both_ways _ (short_other u k apart) is)
  ]

  none_short : (u k : ℕ) → before u g ≡ false → short u k ≡ false
  none_short u k there = elim (cases_eq k r) [
    | inl same ↦ ap (short u) same ∙ short_itself u ∙ there
    | inr apart ↦ short_other u k apart
  ]

  -- the rail moves next, where it is short of its goal
  in_block : (u : ℕ) → before u g ≡ true → first_by before (slice_index (slice_set base r u)) (filter (short u) (block_at board.graph r)) ≡ Some r
  in_block u behind =
      let group = get_or board.graph.group r 0 in
      let is_in : slice_get board.graph.group r ≡ Some group = slice_get-get_or board.graph.group r 0 below in
      let block : block_at board.graph r ≡ members board.graph group = ap (λ there. option_map_or (members board.graph) there []) is_in in
      let there = is_member board.graph group r is_in in
      ap (λ rails. first_by before (slice_index (slice_set base r u)) (filter (short u) rails)) block
      ∙ first_sole before (slice_index (slice_set base r u)) r (filter (short u) (members board.graph group))
      (All-filter (short u) (λ i. i ≡ r) (members board.graph group) (members_alone board untied group r is_in))
      (in_filtered (short u) (members board.graph group) r there.0 there.1 there.2 (short_itself u ∙ behind))

  next_is_r : (u : ℕ) → before u g ≡ true → next_rail before board.graph turns (slice_set base r g) (slice_set base r u) ≡ Some r
  next_is_r u behind =
      ap (option_and_then (λ k. first_by before (slice_index (slice_set base r u)) (filter (short u) (block_at board.graph k))))
      (find_sole (short u) turns r (short_itself u ∙ behind) (short_only u) turn)
      ∙ in_block u behind

  none_next : (u : ℕ) → before u g ≡ false → next_rail before board.graph turns (slice_set base r g) (slice_set base r u) ≡ None
  none_next u there =
      ap (option_and_then (λ k. first_by before (slice_index (slice_set base r u)) (filter (short u) (block_at board.graph k))))
      (find_nothing (short u) turns (λ k. none_short u k there))

  abbrev values : List ℕ
  values = slice_index_or choices r []

  next_step_is : (u : ℕ) → before u g ≡ true → next_step before board.graph turns choices (slice_set base r g) (slice_set base r u) ≡ option_map (λ v. (r, v)) (next_value before values u)
  next_step_is u behind =
      ap (option_and_then (λ k. option_map (λ v. (k, v)) (next_value before (slice_index_or choices k []) (slice_index (slice_set base r u) k)))) (next_is_r u behind)
      ∙ ap (λ n. option_map (λ v. (r, v)) (next_value before values n)) (get_or-set_same base r u 0 within)

  no_step : (u : ℕ) → before u g ≡ false → next_step before board.graph turns choices (slice_set base r g) (slice_set base r u) ≡ None
  no_step u there =
      ap (option_and_then (λ k. option_map (λ v. (k, v)) (next_value before (slice_index_or choices k []) (slice_index (slice_set base r u) k)))) (none_next u there)

  abbrev later : ℕ → List ℕ → List Step
  later most now = steps before board.graph turns choices (slice_set base r g) most now

  step_by : (most u : ℕ) (next : Option ℕ) → ((v : ℕ) → later most (slice_set base r v) ≡ steps_of r (run before values g most v))
      → step_and (later most) (slice_set base r u) (option_map (λ v. (r, v)) next) ≡ steps_of r (run_on (run before values g most) next)
  step_by most u None rest = refl
  step_by most u (Some v) rest = ap (λ now. (r, v) ∷ later most now) (set-set base r u v) ∙ ap (λ vs. (r, v) ∷ vs) (rest v)

  -- the steps in a direction are a run of the rail's values
  pub steps-run : (most u : ℕ) → later most (slice_set base r u) ≡ steps_of r (run before values g most u)
  steps-run zero u = refl
  steps-run (suc most) u = elim (cases_Bool (before u g)) [
    | inl behind ↦
        ap (step_and (later most) (slice_set base r u)) (next_step_is u behind)
        ∙ step_by most u (next_value before values u) (steps-run most)
        ∙ ap (steps_of r) (sym (cond-true (before u g) _ [] behind))
    | inr there ↦
        ap (step_and (later most) (slice_set base r u)) (no_step u there)
        ∙ ap (steps_of r) (sym (cond-false (before u g) (run_on (run before values g most) (next_value before values u)) [] there))
  ]

in_reverse : (xs : List ℕ) (r : ℕ) → Contains xs r → Contains (reverse xs) r
in_reverse xs r (k, within, is) =
    let back : length xs - 1 - (length xs - 1 - k) ≡ k = omega arith in
    (length xs - 1 - k, omega (arith, length-reverse xs), get_or-reverse xs (length xs - 1 - k) r (omega arith) ∙ ap (λ n. get_or xs n r) back ∙ is)

module _ (board : Board) (untied : IsUntied board) (r : ℕ) (below : r < count_of board.graph) (turn : Contains board.order r) (g : ℕ) (has : Contains (allowed_at board r) g) where
  abbrev most : ℕ
  most = sum_by length (allowed_of board)

  own_values : slice_index_or (allowed_of board) r [] ≡ allowed_at board r
  own_values = get_or-map-range_with_len (allowed_at board) 0 (count_of board.graph) r r [] below (omega arith)

  most_enough : length (allowed_at board r) ≤ most
  most_enough =
      let there : r < length (allowed_of board) = omega (arith, length-map-range_with_len (allowed_at board) 0 (count_of board.graph)) in
      let one = get_or-le-sum_by length (allowed_of board) r [] there in
      omega (arith, one, ap length own_values)

  module _ (base : List ℕ) (within : r < length base) where
    abbrev goal : List ℕ
    goal = slice_set base r g

    up_is : (u : ℕ) → steps ltb board.graph board.order (allowed_of board) goal most (slice_set base r u) ≡ steps_of r (run ltb (allowed_at board r) g most u)
    up_is u =
        steps-run board untied ltb upward board.order (allowed_of board) r below turn base within g most u
        ∙ ap (λ vs. steps_of r (run ltb vs g most u)) own_values

    down_is : (u : ℕ) → steps above board.graph (reverse board.order) (allowed_of board) goal most (slice_set base r u) ≡ steps_of r (run above (allowed_at board r) g most u)
    down_is u =
        steps-run board untied above downward (reverse board.order) (allowed_of board) r below (in_reverse board.order r turn) base within g most u
        ∙ ap (λ vs. steps_of r (run above vs g most u)) own_values

    ends_up : (u : ℕ) → u < g → end_of u (run ltb (allowed_at board r) g most u) ≡ g
    ends_up u less =
        end_is ltb upward (allowed_at board r) g has most u (le-ltb g u (omega arith)) (omega (arith, count_by-le-length (ltb u) (allowed_at board r), most_enough))

    way_parts : (u : ℕ) → way board.graph board.order (allowed_of board) (slice_set base r u) goal
        ≡ steps_of r (run ltb (allowed_at board r) g most u) ++ steps_of r (run above (allowed_at board r) g most (end_of u (run ltb (allowed_at board r) g most u)))
    way_parts u =
        ap (λ up. up ++ steps above board.graph (reverse board.order) (allowed_of board) goal most (after_steps (slice_set base r u) up)) (up_is u)
        ∙ ap (λ now. steps_of r (run ltb (allowed_at board r) g most u) ++ steps above board.graph (reverse board.order) (allowed_of board) goal most now)
        (after_steps_of r u base (run ltb (allowed_at board r) g most u))
        ∙ ap (λ down. steps_of r (run ltb (allowed_at board r) g most u) ++ down) (down_is (end_of u (run ltb (allowed_at board r) g most u)))

    way_up : (u : ℕ) → u < g → way board.graph board.order (allowed_of board) (slice_set base r u) goal ≡ steps_of r (values_to (allowed_at board r) g u)
    way_up u less =
        way_parts u
        ∙ ap (λ v. steps_of r (run ltb (allowed_at board r) g most u) ++ steps_of r (run above (allowed_at board r) g most v)) (ends_up u less)
        ∙ ap (λ vs. steps_of r (run ltb (allowed_at board r) g most u) ++ steps_of r vs) (run_idle above (allowed_at board r) g most g (le-ltb g g (omega arith)))
        ∙ append-nil _
        ∙ ap (steps_of r) (run_enough ltb upward (allowed_at board r) g has most (length (allowed_at board r)) u
        (omega (arith, count_by-le-length (ltb u) (allowed_at board r), most_enough)) (count_by-le-length (ltb u) (allowed_at board r))
        ∙ sym (values_to-rising (allowed_at board r) g u less))

    way_down : (u : ℕ) → g ≤ u → way board.graph board.order (allowed_of board) (slice_set base r u) goal ≡ steps_of r (values_to (allowed_at board r) g u)
    way_down u least =
        way_parts u
        ∙ ap (λ up. steps_of r up ++ steps_of r (run above (allowed_at board r) g most (end_of u up))) (run_idle ltb (allowed_at board r) g most u (le-ltb u g least))
        ∙ ap (steps_of r) (run_enough above downward (allowed_at board r) g has most (length (allowed_at board r)) u
        (omega (arith, count_by-le-length (above u) (allowed_at board r), most_enough)) (count_by-le-length (above u) (allowed_at board r))
        ∙ sym (values_to-falling (allowed_at board r) g u least))

    way_alone : (u : ℕ) → way board.graph board.order (allowed_of board) (slice_set base r u) goal ≡ steps_of r (values_to (allowed_at board r) g u)
    way_alone u = elim (cases_lt u g) [ inl less ↦ way_up u less | inr least ↦ way_down u least ]

  moves_of_steps : (vs : List ℕ) → map (move_of board) (steps_of r vs) ≡ map (λ v. move_of board (r, v)) vs
  moves_of_steps [] = refl
  moves_of_steps (v ∷ vs) = ap (λ moves. move_of board (r, v) ∷ moves) (moves_of_steps vs)

  -- the moves that take the rail to its goal: its own values one after another
  pub path-alone : (now : List ℕ) → r < length now
      → path board now (slice_set now r g) ≡ map (λ v. move_of board (r, v)) (values_to (allowed_at board r) g (slice_index now r))
  path-alone now within =
      ap (map (move_of board))
      (ap (λ from. way board.graph board.order (allowed_of board) from (slice_set now r g)) (sym (set-get_or now r 0)) ∙ way_alone now within (slice_index now r))
      ∙ moves_of_steps (values_to (allowed_at board r) g (slice_index now r))
