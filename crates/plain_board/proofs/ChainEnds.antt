-- The way up from a rail ends at one without a supply: in the order of a board supplies stand before what they feed.
use Rattle.std.proofs.Common.{◌≡◌, ◌≢◌, ℕ, zero, suc, ◌<◌, ◌≤◌, Bool, true, inl, inr, List, [], ◌∷◌, ◌++◌, Option, Some, None, refl, sym, ap, ◌∙◌, subst, arith, length, append_assoc, All, AllPairs, Contains}
use Rattle.std.specs.Prelude.{count_by, flat_map, nat_eq, is_none}
use Rattle.std.specs.Option.{option_map_or}
use Rattle.std.proofs.lemmas.Bool.{cases_lt, and_parts, or_cases, or_left, or_right, not-true}
use Rattle.std.proofs.lemmas.List.{append-nil, length-map, get_or_default}
use Rattle.std.proofs.lemmas.List.Elements.{All-nil, All-cons, All-contains}
use Rattle.std.proofs.lemmas.List.Folds.{list_any-append}
use Rattle.std.proofs.lemmas.List.Kept.{AllPairs-cons}
use Rattle.std.proofs.lemmas.List.FromFn.{length-range_with_len}
use Rattle.std.proofs.lemmas.List.Sums.{count_by-le-length}
use Rattle.std.proofs.lemmas.Option.{slice_get_within}
use Rattle.board_graph.specs.declared.graph.Graph.{Graph}
use Rattle.board_graph.specs.Graph.{count_of, supply_at, members}
use Rattle.board_graph.specs.Order.{is_taken, is_supplied, next_group, ComeInTurn, IsOrder}
use Rattle.board_graph.specs.Sets.{rails_of}
use Rattle.board_graph.proofs.Growth.{is_rail}
use Rattle.board_graph.proofs.Members.{is_member, all_at, at_taken, taken_at, next_is_ready}
use Rattle.board.specs.declared.board.Board.{Board}
use Rattle.board.specs.Valid.{IsSoundBoard}
use Rattle.plain_board.specs.Plan.{upward, chain}
use Rattle.plain_board.proofs.Run.{fewer}

-- so many steps up from there end at a rail without a supply
abbrev pub ends : Graph → ℕ → Option ℕ → Bool
ends graph zero r = is_none r
ends graph (suc most) None = true
ends graph (suc most) (Some r) = ends graph most (supply_at graph r)

ends_none : (graph : Graph) (n : ℕ) → ends graph n None ≡ true
ends_none graph zero = refl
ends_none graph (suc n) = refl

ends_more : (graph : Graph) (n : ℕ) (r : Option ℕ) → ends graph n r ≡ true → ends graph (suc n) r ≡ true
ends_more graph zero None is = refl
ends_more graph zero (Some r) is = absurd (cc)
ends_more graph (suc n) None is = refl
ends_more graph (suc n) (Some r) is = ends_more graph n (supply_at graph r) is

ends_upto : (graph : Graph) (m n : ℕ) (r : Option ℕ) → m ≤ n → ends graph m r ≡ true → ends graph n r ≡ true
ends_upto graph m zero r upto is = let same : m ≡ 0 = omega arith in subst (λ k. ends graph k r ≡ true) same is
ends_upto graph m (suc n) r upto is = elim (cases_lt m (suc n)) [
  | inl less ↦ ends_more graph n r (ends_upto graph m n r (omega arith) is)
  | inr most ↦ let same : m ≡ suc n = omega arith in subst (λ k. ends graph k r ≡ true) same is
]

module _ (graph : Graph) where
  -- how many rails are taken
  abbrev among : List ℕ → ℕ
  among taken = count_by (is_taken taken) (rails_of graph)

  -- the way up from each rail that is taken ends, in as many steps as rails are taken
  abbrev AllEnd : List ℕ → Type 0
  AllEnd taken = (r : ℕ) → is_taken taken r ≡ true → ends graph (among taken) (Some r) ≡ true

  wider : (taken more : List ℕ) (r : ℕ) → is_taken taken r ≡ true → is_taken (taken ++ more) r ≡ true
  wider taken more r is = list_any-append (nat_eq r) taken more ∙ or_left _ _ is

  -- a rail ends one step after its supply
  one_up : (taken : List ℕ) (r : ℕ) (supply : Option ℕ) → AllEnd taken → option_map_or (is_taken taken) supply true ≡ true → ends graph (among taken) supply ≡ true
  one_up taken r None all supplied = ends_none graph (among taken)
  one_up taken r (Some upper) all supplied = all upper supplied

  -- where a group comes next one of its rails isn't taken
  one_more_taken : (taken : List ℕ) (group : ℕ) → next_group graph taken ≡ Some group → among taken < among (taken ++ members graph group)
  one_more_taken taken group next =
      let there = next_is_ready graph taken group next in
      let free = not-true _ (and_parts _ _ there.2).0 in
      let now : is_taken (taken ++ members graph group) there.0 ≡ true =
      list_any-append (nat_eq there.0) taken (members graph group) ∙ or_right _ _ (is_member graph group there.0 there.1) in
      fewer (is_taken (taken ++ members graph group)) (is_taken taken) (wider taken (members graph group)) (rails_of graph) there.0
      (at_taken there.0 (rails_of graph) (is_rail graph there.0 (slice_get_within graph.group there.0 group there.1))) now free

  joined : (taken : List ℕ) (group : ℕ) → next_group graph taken ≡ Some group → AllEnd taken → AllEnd (taken ++ members graph group)
  joined taken group next all r is =
      let more = one_more_taken taken group next in
      let enough : suc (among taken) ≤ among (taken ++ members graph group) = omega (arith, more) in
      let there = next_is_ready graph taken group next in
      elim (or_cases _ _ (sym (list_any-append (nat_eq r) taken (members graph group)) ∙ is)) [
        | inl old ↦ ends_upto graph (among taken) (among (taken ++ members graph group)) (Some r) (omega (arith, enough)) (all r old)
        | inr new ↦
            let supplied : is_supplied graph taken r ≡ true = all_at (is_supplied graph taken) (members graph group) r (and_parts _ _ there.2).1 new in
            let up : ends graph (suc (among taken)) (Some r) ≡ true = one_up taken r (supply_at graph r) all supplied in
            ends_upto graph (suc (among taken)) (among (taken ++ members graph group)) (Some r) enough up
      ]

  all_end : (taken groups : List ℕ) → AllEnd taken → ComeInTurn graph taken groups → AllEnd (taken ++ flat_map (members graph) groups)
  all_end taken [] all turns = subst AllEnd (sym (append-nil taken)) all
  all_end taken (group ∷ groups) all turns =
      subst AllEnd (append_assoc taken (members graph group) (flat_map (members graph) groups))
      (all_end (taken ++ members graph group) groups (joined taken group turns.0 all) turns.1)

  order_ends : (order : List ℕ) → IsOrder graph order → (r : ℕ) → r < count_of graph → ends graph (count_of graph) (Some r) ≡ true
  order_ends order is r below =
      let all : AllEnd order = subst AllEnd (sym is.blocks) (all_end [] is.groups (λ k never. absurd (cc)) is.turns) in
      let few : among order ≤ count_of graph = omega (arith, count_by-le-length (is_taken order) (rails_of graph), length-range_with_len 0 (count_of graph)) in
      ends_upto graph (among order) (count_of graph) (Some r) few (all r (taken_at r order (is.all r below)))

-- the chain of a rail of a board ends
pub chain_ends : (board : Board) → IsSoundBoard board → (r : ℕ) → r < length board.rails → ends board.graph (length board.rails) (Some r) ≡ true
chain_ends board sound r below =
    let count : count_of board.graph ≡ length board.rails = ap length sound.graph.groups ∙ length-map board.rails _ in
    subst (λ n. ends board.graph n (Some r) ≡ true) count (order_ends board.graph board.order sound.order r (omega arith))

-- a chain that ends has each rail once
module _ (graph : Graph) where
  one_less : (n r : ℕ) → ends graph n (Some r) ≡ true → ends graph n (supply_at graph r) ≡ true
  one_less zero r is = absurd (cc)
  one_less (suc n) r is = ends_more graph n (supply_at graph r) is

  each_ends : (n most : ℕ) (r : Option ℕ) → ends graph n r ≡ true → All (λ u. ends graph n (Some u) ≡ true) (upward graph most r)
  each_ends n zero r is = All-nil (λ u. ends graph n (Some u) ≡ true)
  each_ends n (suc most) None is = All-nil (λ u. ends graph n (Some u) ≡ true)
  each_ends n (suc most) (Some r) is =
      All-cons (λ u. ends graph n (Some u) ≡ true) r (upward graph most (supply_at graph r)) is (each_ends n most (supply_at graph r) (one_less n r is))

  not_above : (n most r : ℕ) → ends graph n (Some r) ≡ true → ¬ Contains (upward graph most (supply_at graph r)) r
  not_above zero most r is has = absurd (cc)
  not_above (suc n) most r is has =
      not_above n most r (All-contains (λ u. ends graph n (Some u) ≡ true) (upward graph most (supply_at graph r)) r (each_ends n most (supply_at graph r) is) has) has

  distinct : (n most : ℕ) (r : Option ℕ) → ends graph n r ≡ true → AllPairs (λ i j. i ≢ j) (upward graph most r)
  distinct n zero r is = λ i j d less within. absurd (omega (arith, within))
  distinct n (suc most) None is = λ i j d less within. absurd (omega (arith, within))
  distinct n (suc most) (Some r) is =
      AllPairs-cons (λ i j. i ≢ j) r (upward graph most (supply_at graph r))
      (λ k d within same.
      not_above n most r is (k, within, get_or_default (upward graph most (supply_at graph r)) k r d within ∙ sym same))
      (distinct n most (supply_at graph r) (one_less n r is))

pub chain_distinct : (board : Board) → IsSoundBoard board → (r : ℕ) → r < length board.rails → AllPairs (λ i j. i ≢ j) (chain board r)
chain_distinct board sound r below = distinct board.graph (length board.rails) (length board.rails) (Some r) (chain_ends board sound r below)
