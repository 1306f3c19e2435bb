-- What a rail rests on and what moves with it are the least such sets.
use Rattle.std.proofs.Common.{◌≡◌, ℕ, ◌<◌, true, false, List, Option, Some, None, ◌⊎◌, inl, inr, refl, sym, ap, subst, slice_get, eq-eqb, Contains}
use Rattle.std.specs.Prelude.{nat_eq, IfSome}
use Rattle.std.specs.Option.{option_map_or, option_and_then}
use Rattle.std.proofs.lemmas.Bool.{eqb-true, and_parts, and_from, or_cases, or_left, or_right}
use Rattle.std.proofs.lemmas.Option.{slice_get_within, get_or_from_slice_get}
use Rattle.board_graph.specs.declared.graph.Graph.{Graph}
use Rattle.board_graph.specs.Graph.{count_of, IsGraph, supply_at, Supplies, AreOneBlock}
use Rattle.board_graph.specs.Sets.{is_block_of, is_guard_of, moves_with, closure, movers, HoldsGuards, HoldsMovers, IsLeastWith}
use Rattle.board_graph.proofs.Growth.{least_with}

-- the tests and the facts
pub is_number : (n : ℕ) (there : Option ℕ) → option_map_or (nat_eq n) there false ≡ true → there ≡ Some n
is_number n None is = absurd (cc)
is_number n (Some m) is = ap Some (sym (eqb-true n m is))

pub number_is : (n : ℕ) (there : Option ℕ) → there ≡ Some n → option_map_or (nat_eq n) there false ≡ true
number_is n there is = rw is (eq-eqb n n refl)

both_in : (first second : Option ℕ) → option_map_or (λ group. option_map_or (nat_eq group) first false) second false ≡ true → (group : ℕ) × (first ≡ Some group) × (second ≡ Some group)
both_in first None is = absurd (cc)
both_in first (Some group) is = (group, is_number group first is, refl)

pub one_block : (graph : Graph) (a b : ℕ) → is_block_of graph a b ≡ true → AreOneBlock graph a b
one_block graph a b is = let both = both_in (slice_get graph.group a) (slice_get graph.group b) is in record { group = both.0; first = both.1; second = both.2 }

pub block_is : (graph : Graph) (a b : ℕ) → AreOneBlock graph a b → is_block_of graph a b ≡ true
block_is graph a b one = rw one.second (number_is one.group (slice_get graph.group a) one.first)

-- a rail of a block, and a supply, are rails of the graph
pub block_rail : (graph : Graph) (a b : ℕ) → AreOneBlock graph a b → a < count_of graph
block_rail graph a b one = slice_get_within graph.group a one.group one.first

pub listed : (there : Option (Option ℕ)) (upper : ℕ) → option_and_then (λ supply. supply) there ≡ Some upper → there ≡ Some (Some upper)
listed None upper is = absurd (cc)
listed (Some supply) upper is = ap Some is

pub supply_rail : (graph : Graph) (upper lower : ℕ) → IsGraph graph → Supplies graph upper lower → upper < count_of graph
supply_rail graph upper lower is supplies =
    let there = listed (slice_get graph.supply lower) upper supplies in
    subst (λ supply. IfSome supply (λ s. s < count_of graph)) (get_or_from_slice_get graph.supply lower (Some upper) None there)
    (is.rails lower None (slice_get_within graph.supply lower (Some upper) there))

-- a rail with a supply is a rail of the graph
pub supplied_rail : (graph : Graph) (upper lower : ℕ) → IsGraph graph → Supplies graph upper lower → lower < count_of graph
supplied_rail graph upper lower is supplies =
    subst (λ n. lower < n) is.supplies (slice_get_within graph.supply lower (Some upper) (listed (slice_get graph.supply lower) upper supplies))

-- what guards a rail, and what moves with it, by the tests
pub guard_cases : (graph : Graph) (i j : ℕ) → is_guard_of graph i j ≡ true → Supplies graph i j ⊎ AreOneBlock graph i j
guard_cases graph i j is = elim (or_cases _ _ is) [
  | inl supply ↦ inl (is_number i (supply_at graph j) supply)
  | inr block ↦ inr (one_block graph i j block)
]

guards : (graph : Graph) (set : List ℕ) → HoldsGuards graph set → (i j : ℕ) → is_guard_of graph i j ≡ true → Contains set j → Contains set i
guards graph set such i j is has = elim (guard_cases graph i j is) [
  | inl supplies ↦ such.supplies i j supplies has
  | inr block ↦ such.blocks i j block has
]

moves : (graph : Graph) (set : List ℕ) → HoldsMovers graph set → (i j : ℕ) → moves_with graph i j ≡ true → Contains set j → Contains set i
moves graph set such i j is has = elim (or_cases _ _ is) [
  | inl link ↦ let both = and_parts _ _ link in such.links i j (is_number i (supply_at graph j) both.0) both.1 has
  | inr block ↦ such.blocks i j (one_block graph i j block) has
]

pub closure_is_least_lem : (graph : Graph) (r : ℕ) → IsGraph graph → r < count_of graph → IsLeastWith (HoldsGuards graph) r (closure graph r)
closure_is_least_lem graph r is below =
    least_with graph (is_guard_of graph) r below (HoldsGuards graph)
    (λ closed. record {
      blocks = λ a b one has. closed a b (block_rail graph a b one) (or_right _ _ (block_is graph a b one)) has;
      supplies = λ upper lower supplies has. closed upper lower (supply_rail graph upper lower is supplies) (or_left _ _ (number_is upper (supply_at graph lower) supplies)) has;
    })
    (guards graph)

pub movers_are_least_lem : (graph : Graph) (r : ℕ) → IsGraph graph → r < count_of graph → IsLeastWith (HoldsMovers graph) r (movers graph r)
movers_are_least_lem graph r is below =
    least_with graph (moves_with graph) r below (HoldsMovers graph)
    (λ closed. record {
      blocks = λ a b one has. closed a b (block_rail graph a b one) (or_right _ _ (block_is graph a b one)) has;
      links = λ upper lower supplies linked has. closed upper lower (supply_rail graph upper lower is supplies)
          (or_left _ _ (and_from _ _ (number_is upper (supply_at graph lower) supplies) linked)) has;
    })
    (moves graph)
