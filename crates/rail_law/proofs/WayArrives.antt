-- The way arrives: with each step fewer values are ahead, and where none is ahead every rail has come.
use Rattle.std.proofs.Common.{◌≡◌, ◌≢◌, ℕ, zero, suc, ◌+◌, ◌-◌, ◌<◌, ◌≤◌, Bool, true, false, List, [], ◌∷◌, ◌++◌, Option, Some, None, inl, inr, refl, sym, ap, ◌∙◌, subst, arith, length, get_or, ext_get_or, filter, reverse, sum_by, slice_index, slice_index_or, slice_set, All, Contains, ltb}
use Rattle.std.specs.Option.{option_map_or}
use Rattle.std.proofs.lemmas.Bool.{ltb-false, both_ways, cases_lt, cases_eq, false_from_ne_true}
use Rattle.std.proofs.lemmas.List.{get_or_past, get_or-set_same, get_or-set_other, get_or-reverse, length-set, length-reverse}
use Rattle.std.proofs.lemmas.List.Elements.{All-nil, All-cons, All-append}
use Rattle.std.proofs.lemmas.List.Sums.{sum_by-cons}
use Rattle.board_graph.specs.declared.graph.Graph.{Graph}
use Rattle.board_graph.specs.Graph.{count_of, members}
use Rattle.board_graph.specs.Order.{IsOrder}
use Rattle.board_graph.proofs.Growth.{widens, no_longer}
use Rattle.rail_law.specs.Way.{Step, block_at, next_step, stepped, step_and, steps, after_steps, way}
use Rattle.rail_law.proofs.Admissible.{in_filtered}
use Rattle.rail_law.proofs.Members.{there_at, is_member}
use Rattle.rail_law.proofs.NextStep.{IsDirection, rising, falling, kept, step_is, no_step}

-- how many values are ahead of where the rails stand
abbrev ahead : (ℕ → ℕ → Bool) → List (List ℕ) → List ℕ → ℕ
ahead before [] now = 0
ahead before (values ∷ choices) [] = 0
ahead before (values ∷ choices) (uv ∷ now) = length (filter (before uv) values) + ahead before choices now

all_ahead : (before : ℕ → ℕ → Bool) (choices : List (List ℕ)) (now : List ℕ) → ahead before choices now ≤ sum_by length choices
all_ahead before [] now = omega arith
all_ahead before (values ∷ choices) [] = omega arith
all_ahead before (values ∷ choices) (uv ∷ now) = omega (arith, no_longer (before uv) values, all_ahead before choices now, sum_by-cons length values choices)

-- steps one after the other
fold_append : (now : List ℕ) (first second : List Step) → after_steps now (first ++ second) ≡ after_steps (after_steps now first) second
fold_append now [] second = refl
fold_append now (step ∷ first) second = fold_append (stepped now step) first second

-- the same elements the other way round
in_reverse : (xs : List ℕ) (x : ℕ) → Contains xs x → Contains (reverse xs) x
in_reverse xs x has =
    let at = length xs - 1 - has.0 in
    let within : has.0 < length xs = has.1 in
    let there : get_or (reverse xs) at x ≡ get_or xs (length xs - 1 - at) x = get_or-reverse xs at x (omega arith) in
    let back : length xs - 1 - at ≡ has.0 = omega arith in
    (at, omega (arith, length-reverse xs), there ∙ ap (λ k. get_or xs k x) back ∙ has.2)

-- where the steps of one direction lead: no rail is short any more, and none that wasn't past its goal has passed it
record Comes (before : ℕ → ℕ → Bool) (goal now after : List ℕ) : Type 0 where
  as_long : length after ≡ length now
  none_short : (r : ℕ) → before (slice_index after r) (slice_index goal r) ≡ false
  not_past : (r : ℕ) → before (slice_index goal r) (slice_index now r) ≡ false → before (slice_index goal r) (slice_index after r) ≡ false

-- in a direction
module _ (before : ℕ → ℕ → Bool) (direction : IsDirection before) where
  fewer_behind : (values : List ℕ) (uv v : ℕ) → Contains values v → before uv v ≡ true → length (filter (before v) values) < length (filter (before uv) values)
  fewer_behind values uv v has behind = elim (widens (before v) (before uv) (λ w further. direction.through uv v w behind further) values) [
    | inl same ↦
        let here : Contains (filter (before uv) values) v = in_filtered (before uv) values v has.0 has.1 has.2 behind in
        absurd (both_ways (before v v) (direction.itself v) (kept (before v) values v (subst (λ xs. Contains xs v) same here)).1)
    | inr more ↦ more
  ]

  step_drops : (choices : List (List ℕ)) (now : List ℕ) (r v : ℕ) → r < length now → r < length choices → before (slice_index now r) v ≡ true → Contains (slice_index_or choices r []) v
      → ahead before choices (slice_set now r v) < ahead before choices now
  step_drops [] now r v within there behind has = absurd (omega arith)
  step_drops (values ∷ choices) [] r v within there behind has = absurd (omega arith)
  step_drops (values ∷ choices) (uv ∷ now) zero v within there behind has = omega (arith, fewer_behind values uv v has behind)
  step_drops (values ∷ choices) (uv ∷ now) (suc r) v within there behind has = omega (arith, step_drops choices now r v (omega arith) (omega arith) behind has)

  some_ahead : (choices : List (List ℕ)) (now : List ℕ) (r v : ℕ) → r < length now → r < length choices → before (slice_index now r) v ≡ true → Contains (slice_index_or choices r []) v
      → 0 < ahead before choices now
  some_ahead [] now r v within there behind has = absurd (omega arith)
  some_ahead (values ∷ choices) [] r v within there behind has = absurd (omega arith)
  some_ahead (values ∷ choices) (uv ∷ now) zero v within there behind has = omega (arith, (in_filtered (before uv) values v has.0 has.1 has.2 behind).1)
  some_ahead (values ∷ choices) (uv ∷ now) (suc r) v within there behind has = omega (arith, some_ahead choices now r v (omega arith) (omega arith) behind has)

  -- a rail that is short of its goal has it among its values
  abbrev Reaches : List (List ℕ) → List ℕ → List ℕ → Type 0
  Reaches choices goal now = (r : ℕ) → before (slice_index now r) (slice_index goal r) ≡ true → Contains (slice_index_or choices r []) (slice_index goal r)

  -- to goals that short rails can reach, where each rail has its turn and is in its block
  module _ (graph : Graph) (turns : List ℕ) (choices : List (List ℕ)) (goal : List ℕ) (wide : length choices ≡ length goal)
      (covers : (r : ℕ) → r < length goal → Contains turns r) (own : (r : ℕ) → r < length goal → Contains (block_at graph r) r) where
    level_behind : (now : List ℕ) (r : ℕ) → length now ≡ length goal → length goal ≤ r → before (slice_index now r) (slice_index goal r) ≡ false
    level_behind now r long past =
        let first : slice_index now r ≡ 0 = get_or_past now r 0 (omega arith) in
        let second : slice_index goal r ≡ 0 = get_or_past goal r 0 past in
        rw (first, second) (direction.itself 0)

    short_within : (now : List ℕ) (r : ℕ) → length now ≡ length goal → before (slice_index now r) (slice_index goal r) ≡ true → r < length goal
    short_within now r long short = elim (cases_lt r (length goal)) [
      | inl within ↦ within
      | inr past ↦ absurd (both_ways _ (level_behind now r long past) short)
    ]

    -- the steps from where rails stand, when those from later on come
    come_by : (most : ℕ) (now : List ℕ) → length now ≡ length goal → Reaches choices goal now → ahead before choices now ≤ suc most
        → ((later : List ℕ) → length later ≡ length goal → Reaches choices goal later → ahead before choices later ≤ most → Comes before goal later (after_steps later (steps before graph turns choices goal most later)))
        → (step : Option Step) → next_step before graph turns choices goal now ≡ step
        → Comes before goal now (after_steps now (step_and (λ later. steps before graph turns choices goal most later) now step))
    come_by most now long goals few rest None none = record {
      as_long = refl;
      none_short = λ r. elim (cases_lt r (length goal)) [
        | inl within ↦ no_step before direction graph turns goal now choices r none
            (λ x short. (own x (short_within now x long short), goals x short)) (covers r within)
        | inr past ↦ level_behind now r long past
      ];
      not_past = λ r level. level;
    }
    come_by most now long goals few rest (Some step) some_step =
        let is = step_is before direction graph turns goal now choices step some_step in
        let within = short_within now step.0 long is.short_rail in
        let as_before : length (stepped now step) ≡ length now = length-set now step.0 step.1 in
        let drops = step_drops choices now step.0 step.1 (omega arith) (omega arith) is.value.behind is.value.among in
        let standing : slice_index (stepped now step) step.0 ≡ step.1 = get_or-set_same now step.0 step.1 0 (omega arith) in
        let others : (q : ℕ) → (q ≡ step.0 → ⊥) → slice_index (stepped now step) q ≡ slice_index now q = λ q other. get_or-set_other now step.0 q step.1 0 other in
        let level = is.value.nearest (slice_index goal step.0) (goals step.0 is.short_rail) is.short_rail in
        let still : Reaches choices goal (stepped now step) = λ q short. elim (cases_eq q step.0) [
          | inl same ↦ rw same (goals step.0 is.short_rail)
          | inr other ↦ goals q (subst (λ uv. before uv (slice_index goal q) ≡ true) (others q other) short)
        ] in
        let later = rest (stepped now step) (omega arith) still (omega arith) in
        record {
          as_long = later.as_long ∙ as_before;
          none_short = later.none_short;
          not_past = λ q was. later.not_past q (elim (cases_eq q step.0) [
            | inl same ↦ rw (same, standing) level
            | inr other ↦ rw (others q other) was
          ]);
        }

    come : (most : ℕ) (now : List ℕ) → length now ≡ length goal → Reaches choices goal now → ahead before choices now ≤ most → Comes before goal now (after_steps now (steps before graph turns choices goal most now))
    come zero now long goals few = record {
      as_long = refl;
      none_short = λ r. false_from_ne_true _ (λ short.
          let within = short_within now r long short in
          absurd (omega (arith, some_ahead choices now r (slice_index goal r) (omega arith) (omega arith) short (goals r short))));
      not_past = λ r level. level;
    }
    come (suc most) now long goals few =
        come_by most now long goals few (λ later. come most later) (next_step before graph turns choices goal now) refl

-- each step is to one of the rail's values
module _ (before : ℕ → ℕ → Bool) (direction : IsDirection before) (graph : Graph) (turns : List ℕ) (choices : List (List ℕ)) (goal : List ℕ) where
  abbrev IsChoice : Step → Type 0
  IsChoice step = Contains (slice_index_or choices step.0 []) step.1

  among_by : (most : ℕ) (now : List ℕ) → ((later : List ℕ) → All IsChoice (steps before graph turns choices goal most later)) → (step : Option Step) → next_step before graph turns choices goal now ≡ step
      → All IsChoice (step_and (λ later. steps before graph turns choices goal most later) now step)
  among_by most now rest None none = All-nil IsChoice
  among_by most now rest (Some step) is =
      All-cons IsChoice step (steps before graph turns choices goal most (stepped now step)) (step_is before direction graph turns goal now choices step is).value.among (rest (stepped now step))

  among : (most : ℕ) (now : List ℕ) → All IsChoice (steps before graph turns choices goal most now)
  among zero now = All-nil IsChoice
  among (suc most) now = among_by most now (λ later. among most later) (next_step before graph turns choices goal now) refl

pub way_is_of_choices_lem : (graph : Graph) (order : List ℕ) (choices : List (List ℕ)) (now goal : List ℕ) → All (λ step. Contains (slice_index_or choices step.0 []) step.1) (way graph order choices now goal)
way_is_of_choices_lem graph order choices now goal =
    let most = sum_by length choices in
    let up = steps ltb graph order choices goal most now in
    All-append (λ step. Contains (slice_index_or choices step.0 []) step.1) up (steps (λ a b. ltb b a) graph (reverse order) choices goal most (after_steps now up))
    (among ltb rising graph order choices goal most now)
    (among (λ a b. ltb b a) falling graph (reverse order) choices goal most (after_steps now up))

-- a rail of the graph is in its block
own_block : (graph : Graph) (r : ℕ) → r < count_of graph → Contains (block_at graph r) r
own_block graph r below =
    let group = there_at graph.group r below in
    subst (λ there. Contains (option_map_or (members graph) there []) r) (sym group.1) (is_member graph group.0 r group.1)

-- what stands below or above isn't there
apart_by : (before : ℕ → ℕ → Bool) → IsDirection before → (a b : ℕ) → before a b ≡ true → a ≢ b
apart_by before direction a b is same = both_ways (before a b) (subst (λ c. before a c ≡ false) same (direction.itself a)) is

pub way_arrives_lem : (graph : Graph) (order : List ℕ) (choices : List (List ℕ)) (now goal : List ℕ) → IsOrder graph order
    → length choices ≡ count_of graph → length now ≡ count_of graph → length goal ≡ count_of graph
    → ((r : ℕ) → slice_index now r ≢ slice_index goal r → Contains (slice_index_or choices r []) (slice_index goal r))
    → after_steps now (way graph order choices now goal) ≡ goal
way_arrives_lem graph order choices now goal ordered many long_now long_goal goals =
    let most = sum_by length choices in
    let covers : (r : ℕ) → r < length goal → Contains order r = λ r within. ordered.all r (omega arith) in
    let own : (r : ℕ) → r < length goal → Contains (block_at graph r) r = λ r within. own_block graph r (omega arith) in
    let up = steps ltb graph order choices goal most now in
    let risen = come ltb rising graph order choices goal (omega arith) covers own most now (omega arith)
    (λ r short. goals r (apart_by ltb rising (slice_index now r) (slice_index goal r) short)) (all_ahead ltb choices now) in
    let middle = after_steps now up in
    let long_middle : length middle ≡ length goal = omega (arith, risen.as_long) in
    let fall : ℕ → ℕ → Bool = λ a b. ltb b a in
    let down = steps fall graph (reverse order) choices goal most middle in
    let left : Reaches fall falling choices goal middle = λ r short. goals r (λ same.
    let past : ltb (slice_index goal r) (slice_index middle r) ≡ false = risen.not_past r (rw same (rising.itself (slice_index goal r))) in
    both_ways (ltb (slice_index goal r) (slice_index middle r)) past short) in
    let fallen = come fall falling graph (reverse order) choices goal (omega arith) (λ r within. in_reverse order r (covers r within)) own most middle long_middle left (all_ahead fall choices middle) in
    fold_append now up down
    ∙ ext_get_or 0 (after_steps middle down) goal (fallen.as_long ∙ long_middle)
    (λ r within. omega (arith, ltb-false _ _ (fallen.none_short r), ltb-false _ _ (fallen.not_past r (risen.none_short r))))
