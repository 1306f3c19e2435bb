-- What is looked for among rails and pairs of rails.
use Rattle.std.proofs.Common.{◌≡◌, ℕ, ◌+◌, ◌<◌, Bool, not, ◌&&◌, cond, List, [], ◌∷◌, Option, None, Some, refl, sym, ap, ◌∙◌, arith, map, flat_map, find, length, slice_get, get_or, unwrap_or, option_and_then, nat_eq, All}
use Rattle.std.specs.List.{range_with_len}
use Rattle.std.specs.Option.{option_map, option_map_or, option_eq}
use Rattle.std.proofs.lemmas.Option.{slice_get-map}
use Rattle.std.proofs.lemmas.List.Elements.{All-nil, All-head, All-tail, All-append}
use Rattle.std.proofs.lemmas.List.FromFn.{length-range_with_len, get_or-range_with_len}
use Rattle.board_graph.specs.declared.graph.Graph.{Graph}
use Rattle.board_graph.specs.Loops.{is_above}
use Rattle.board_graph.specs.Order.{is_taken}
use Rattle.board_checks.specs.Checks.{pairs_of}
use Rattle.constraints.specs.Coupling.{stated_spread}
use Rattle.dts_tree.specs.Tree.{Node}
use Rattle.dts_nodes.specs.Firsts.{first_of}
use Rattle.board_nodes.specs.Rails.{Found}
use Rattle.board_draft.specs.declared.fault.BoardFault.{BoardFault}
use Rattle.board_draft.specs.declared.fault.BoardFault.TheVariants.{OneWay, NoSpread, SpreadsDiffer, CoupledSupplier}
use Rattle.board_draft.specs.Links.{named_by, lacks_spread, names, group_named, have_same, spread_of, graph_of}
use Rattle.board_draft.specs.Faults.{at_rail, at_pair, group_fault}
use Rattle.board_draft.specs.Inside.Pairs.{names_in, group_in, spread_in}
use Rattle.board_draft.proofs.SoundLists.{all-map}

four_told : {A : Type 0} (a b c d a2 b2 c2 d2 : Option A) → a ≡ a2 → b ≡ b2 → c ≡ c2 → d ≡ d2 → first_of (a ∷ b ∷ c ∷ d ∷ []) ≡ first_of (a2 ∷ b2 ∷ c2 ∷ d2 ∷ [])
four_told a b c d a2 b2 c2 d2 first second third fourth =
    ap (λ x. first_of (x ∷ b ∷ c ∷ d ∷ [])) first ∙ ap (λ x. first_of (a2 ∷ x ∷ c ∷ d ∷ [])) second ∙ ap (λ x. first_of (a2 ∷ b2 ∷ x ∷ d ∷ [])) third ∙ ap (λ x. first_of (a2 ∷ b2 ∷ c2 ∷ x ∷ [])) fourth

-- what is wrong with rails that are coupled, by what each of the tests tells
pub group_told : (nodes : List Node) (rails : List Found) (a b c d told : Option BoardFault)
    → at_pair nodes rails (λ a b. not (have_same (group_named nodes rails a) (group_named nodes rails b))) OneWay ≡ a
    → at_rail rails (λ r rail. lacks_spread nodes rail) NoSpread ≡ b
    → at_pair nodes rails (λ a b. not (option_eq nat_eq (spread_of nodes rails a) (spread_of nodes rails b))) SpreadsDiffer ≡ c
    → at_pair nodes rails (λ a b. is_above (graph_of nodes rails) b a) CoupledSupplier ≡ d
    → first_of (a ∷ b ∷ c ∷ d ∷ []) ≡ told → group_fault nodes rails ≡ told
group_told nodes rails a b c d told first second third fourth is = four_told _ _ _ _ a b c d first second third fourth ∙ is

-- two tests that agree find the same
find-same : {X : Type 0} (test other : X → Bool) (xs : List X) → ((x : X) → test x ≡ other x) → find test xs ≡ find other xs
find-same test other [] same = refl
find-same test other (x ∷ xs) same = ap (λ b. cond b (Some x) (find test xs)) (same x) ∙ ap (λ rest. cond (other x) (Some x) rest) (find-same test other xs same)

mapped_or : {X Y : Type 0} (f : X → Y) (o : Option X) (d : Y) → unwrap_or (option_map f o) d ≡ option_map_or f o d
mapped_or f None d = refl
mapped_or f (Some x) d = refl

mapped_then : {X Y : Type 0} (f : X → Option Y) (o : Option X) → option_and_then (λ y. y) (option_map f o) ≡ option_and_then f o
mapped_then f None = refl
mapped_then f (Some x) = refl

all_flat : {X Y : Type 0} (P : Y → Type 0) (f : X → List Y) (xs : List X) → All (λ x. All P (f x)) xs → All P (flat_map f xs)
all_flat P f [] all = All-nil P
all_flat P f (x ∷ xs) all =
    All-append P (f x) (flat_map f xs) (All-head (λ x. All P (f x)) x xs all) (all_flat P f xs (All-tail (λ x. All P (f x)) x xs all))

-- the first number of a pair is one of the numbers
pub pairs_inside : (count : ℕ) → All (λ (pair : ℕ × ℕ). pair.0 < count) (pairs_of count)
pairs_inside count =
    all_flat (λ (pair : ℕ × ℕ). pair.0 < count) (λ (a : ℕ). map (λ (b : ℕ). (a, b)) (range_with_len 0 count)) (range_with_len 0 count)
    (λ k d within.
    let place : k < count = omega (arith, within, length-range_with_len 0 count) in
    let number : get_or (range_with_len 0 count) k d ≡ 0 + k = get_or-range_with_len 0 count k d place in
    let below : get_or (range_with_len 0 count) k d < count = omega (arith, number, place) in
    all-map (λ (pair : ℕ × ℕ). pair.0 < count) (λ (b : ℕ). (get_or (range_with_len 0 count) k d, b)) (range_with_len 0 count) (λ b. below))

module _ (nodes : List Node) (rails : List Found) (named : List (List ℕ)) (is : named ≡ map (named_by nodes rails) rails) where
  named_at : (r : ℕ) → unwrap_or (slice_get named r) [] ≡ option_map_or (named_by nodes rails) (slice_get rails r) []
  named_at r = ap (λ names. unwrap_or (slice_get names r) []) is ∙ ap (λ o. unwrap_or o []) (slice_get-map (named_by nodes rails) rails r) ∙ mapped_or (named_by nodes rails) (slice_get rails r) []

  names_same : (a b : ℕ) → names_in named a b ≡ names nodes rails a b
  names_same a b = ap (λ list. is_taken list b) (named_at a)

  group_same : (r : ℕ) → group_in named r ≡ group_named nodes rails r
  group_same r = ap (λ list. r ∷ list) (named_at r)

  -- a test of pairs of which the first names the second, by the lists of names
  found_pair : (test other : ℕ → ℕ → Bool) (fault : ℕ → ℕ → BoardFault) (pairs : List (ℕ × ℕ)) (found : Option (ℕ × ℕ)) → ((a b : ℕ) → test a b ≡ other a b) → pairs ≡ pairs_of (length rails)
      → found ≡ find (λ pair. names_in named pair.0 pair.1 && test pair.0 pair.1) pairs → at_pair nodes rails other fault ≡ option_map (λ pair. fault pair.0 pair.1) found
  found_pair test other fault pairs found same all here =
      let tells : Option (ℕ × ℕ) → Option BoardFault = option_map (λ pair. fault pair.0 pair.1) in
      let mine : ℕ × ℕ → Bool = λ pair. names_in named pair.0 pair.1 && test pair.0 pair.1 in
      let told : ℕ × ℕ → Bool = λ pair. names nodes rails pair.0 pair.1 && other pair.0 pair.1 in
      let agree : (pair : ℕ × ℕ) → mine pair ≡ told pair = λ pair. ap (λ b. b && test pair.0 pair.1) (names_same pair.0 pair.1) ∙ ap (λ b. names nodes rails pair.0 pair.1 && b) (same pair.0 pair.1) in
      sym (ap tells (here ∙ ap (find mine) all ∙ find-same mine told (pairs_of (length rails)) agree))

  have_same_groups : (a b : ℕ) → not (have_same (group_in named a) (group_in named b)) ≡ not (have_same (group_named nodes rails a) (group_named nodes rails b))
  have_same_groups a b = ap (λ list. not (have_same list (group_in named b))) (group_same a) ∙ ap (λ list. not (have_same (group_named nodes rails a) list)) (group_same b)

  pub one_way_found : (pairs : List (ℕ × ℕ)) (found : Option (ℕ × ℕ)) → pairs ≡ pairs_of (length rails)
      → found ≡ find (λ pair. names_in named pair.0 pair.1 && not (have_same (group_in named pair.0) (group_in named pair.1))) pairs
      → at_pair nodes rails (λ a b. not (have_same (group_named nodes rails a) (group_named nodes rails b))) OneWay ≡ option_map (λ pair. OneWay pair.0 pair.1) found
  one_way_found pairs found = found_pair (λ a b. not (have_same (group_in named a) (group_in named b))) (λ a b. not (have_same (group_named nodes rails a) (group_named nodes rails b))) OneWay pairs found have_same_groups

  pub supplier_found : (graph : Graph) (pairs : List (ℕ × ℕ)) (found : Option (ℕ × ℕ)) → graph ≡ graph_of nodes rails → pairs ≡ pairs_of (length rails)
      → found ≡ find (λ pair. names_in named pair.0 pair.1 && is_above graph pair.1 pair.0) pairs
      → at_pair nodes rails (λ a b. is_above (graph_of nodes rails) b a) CoupledSupplier ≡ option_map (λ pair. CoupledSupplier pair.0 pair.1) found
  supplier_found graph pairs found same = found_pair (λ a b. is_above graph b a) (λ a b. is_above (graph_of nodes rails) b a) CoupledSupplier pairs found (λ a b. ap (λ g. is_above g b a) same)

  module _ (spreads : List (Option ℕ)) (stated : spreads ≡ map (λ rail. stated_spread nodes rail.node) rails) where
    spread_same : (r : ℕ) → spread_in spreads r ≡ spread_of nodes rails r
    spread_same r =
        let state : Found → Option ℕ = λ rail. stated_spread nodes rail.node in
        ap (λ list. option_and_then (λ (spread : Option ℕ). spread) (slice_get list r)) stated ∙ ap (option_and_then (λ (spread : Option ℕ). spread)) (slice_get-map state rails r) ∙ mapped_then state (slice_get rails r)

    have_same_spreads : (a b : ℕ) → not (option_eq nat_eq (spread_in spreads a) (spread_in spreads b)) ≡ not (option_eq nat_eq (spread_of nodes rails a) (spread_of nodes rails b))
    have_same_spreads a b = ap (λ s. not (option_eq nat_eq s (spread_in spreads b))) (spread_same a) ∙ ap (λ s. not (option_eq nat_eq (spread_of nodes rails a) s)) (spread_same b)

    pub spreads_found : (pairs : List (ℕ × ℕ)) (found : Option (ℕ × ℕ)) → pairs ≡ pairs_of (length rails)
        → found ≡ find (λ pair. names_in named pair.0 pair.1 && not (option_eq nat_eq (spread_in spreads pair.0) (spread_in spreads pair.1))) pairs
        → at_pair nodes rails (λ a b. not (option_eq nat_eq (spread_of nodes rails a) (spread_of nodes rails b))) SpreadsDiffer ≡ option_map (λ pair. SpreadsDiffer pair.0 pair.1) found
    spreads_found pairs found = found_pair (λ a b. not (option_eq nat_eq (spread_in spreads a) (spread_in spreads b))) (λ a b. not (option_eq nat_eq (spread_of nodes rails a) (spread_of nodes rails b))) SpreadsDiffer pairs found have_same_spreads
