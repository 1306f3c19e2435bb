-- Rails of one group name each other, and none of them is above another.
use Rattle.std.proofs.Common.{◌≡◌, ◌≢◌, inl, inr, ℕ, ◌<◌, ◌≤◌, Bool, true, false, not, ◌&&◌, nat_eq, min, fold, List, [], ◌∷◌, None, Some, refl, sym, ap, subst, ◌∙◌, arith, map, find, length, slice_get, All}
use Rattle.std.specs.List.{range_with_len, list_all}
use Rattle.std.specs.Option.{option_map, option_map_or}
use Rattle.std.proofs.lemmas.Bool.{and_parts, not-false, or_cases, or_left, eq-eqb, eqb-true, true≢false}
use Rattle.std.proofs.lemmas.Option.{slice_get_within}
use Rattle.board_graph.specs.Graph.{IsAbove, AreCoupled}
use Rattle.board_graph.specs.Order.{is_taken}
use Rattle.board_graph.specs.Loops.{is_above}
use Rattle.board_graph.proofs.LoopLaws.{above_is_lem}
use Rattle.board_graph.proofs.Members.{all_at as taken_passes}
use Rattle.dts_tree.specs.Tree.{Node}
use Rattle.board_nodes.specs.Rails.{Found}
use Rattle.board_checks.specs.Checks.{pairs_of}
use Rattle.board_draft.specs.declared.fault.BoardFault.{BoardFault}
use Rattle.board_draft.specs.declared.fault.BoardFault.TheVariants.{OneWay, CoupledSupplier}
use Rattle.board_draft.specs.Faults.{at_pair}
use Rattle.board_draft.specs.Links.{named_by, group_named, names, have_same, group_of, graph_of}
use Rattle.board_draft.proofs.SoundGraph.{graph_is_graph}
use Rattle.board_draft.proofs.SoundLists.{none-option_map, none-find, all_from_map, all_from_flat_map, all_from_range, slice_get-numbered, fold-min-le, fold-min-among}

-- what holds of all pairs holds of each two numbers
all_of : (P : ℕ × ℕ → Type 0) (count a b : ℕ) → All P (pairs_of count) → a < count → b < count → P (a, b)
all_of P count a b all first second =
    let of_first = all_from_range (λ a. All P (map (λ b. (a, b)) (range_with_len 0 count))) 0 count a
    (all_from_flat_map P (λ a. map (λ b. (a, b)) (range_with_len 0 count)) (range_with_len 0 count) all) (omega arith) (omega arith) in
    all_from_range (λ b. P (a, b)) 0 count b (all_from_map P (λ b. (a, b)) (range_with_len 0 count) of_first) (omega arith) (omega arith)

module _ (nodes : List Node) (rails : List Found) where
  -- where no pair has a fault, a rail that names another one fails the test with it
  no_pair_fault : (test : ℕ → ℕ → Bool) (fault : ℕ → ℕ → BoardFault) → at_pair nodes rails test fault ≡ None
      → (a b : ℕ) → a < length rails → b < length rails → names nodes rails a b ≡ true → test a b ≡ false
  no_pair_fault test fault none a b first second named =
      let both : ℕ × ℕ → Bool = λ pair. names nodes rails pair.0 pair.1 && test pair.0 pair.1 in
      let fails : (names nodes rails a b && test a b) ≡ false =
      all_of (λ pair. (names nodes rails pair.0 pair.1 && test pair.0 pair.1) ≡ false) (length rails) a b
      (none-find both (pairs_of (length rails)) (none-option_map (λ pair. fault pair.0 pair.1) (find both (pairs_of (length rails))) none)) first second in
      ap (λ (named : Bool). named && test a b) (sym named) ∙ fails

  -- the number is the rail's or that of a rail that it names
  abbrev Reaches : ℕ → ℕ → Type 0
  Reaches a b = is_taken (group_named nodes rails a) b ≡ true

  reaches_itself : (a : ℕ) → Reaches a a
  reaches_itself a = or_left _ _ (eq-eqb a a refl)

  module _ (one_way : at_pair nodes rails (λ a b. not (have_same (group_named nodes rails a) (group_named nodes rails b))) OneWay ≡ None) where
    same_groups : (a b : ℕ) → a < length rails → b < length rails → names nodes rails a b ≡ true
        → have_same (group_named nodes rails a) (group_named nodes rails b) ≡ true
    same_groups a b first second named = not-false _ (no_pair_fault _ OneWay one_way a b first second named)

    -- what a rail reaches, each rail that it reaches reaches too
    reaches_on : (a b c : ℕ) → a < length rails → b < length rails → Reaches a b → Reaches a c → Reaches b c
    reaches_on a b c first second to_b to_c = elim (or_cases (nat_eq b a) (names nodes rails a b) to_b) [
      | inl here ↦ subst (λ r. Reaches r c) (sym (eqb-true b a here)) to_c
      | inr named ↦ taken_passes (is_taken (group_named nodes rails b)) (group_named nodes rails a) c
          (and_parts (list_all (is_taken (group_named nodes rails b)) (group_named nodes rails a)) _ (same_groups a b first second named)).0 to_c
    ]

    -- and what that one reaches, the first rail reaches
    reaches_back : (a b c : ℕ) → a < length rails → b < length rails → Reaches a b → Reaches b c → Reaches a c
    reaches_back a b c first second to_b to_c = elim (or_cases (nat_eq b a) (names nodes rails a b) to_b) [
      | inl here ↦ subst (λ r. Reaches r c) (eqb-true b a here) to_c
      | inr named ↦ taken_passes (is_taken (group_named nodes rails a)) (group_named nodes rails b) c
          (and_parts (list_all (is_taken (group_named nodes rails b)) (group_named nodes rails a)) _ (same_groups a b first second named)).1 to_c
    ]

    -- the rails of one group name each other
    names_other : (a b g : ℕ) → a < length rails → b < length rails → g < length rails → a ≢ b → Reaches a g → Reaches b g → names nodes rails a b ≡ true
    names_other a b g first second within apart a_to_g b_to_g =
        let from_g : Reaches g b = reaches_on b g b second within b_to_g (reaches_itself b) in
        elim (or_cases (nat_eq b a) (names nodes rails a b) (reaches_back a g b first within a_to_g from_g)) [
          | inl here ↦ absurd (apart (sym (eqb-true b a here)))
          | inr named ↦ named
        ]

    -- a rail, and the number of its group
    record HasGroup (r g : ℕ) : Type 0 where
      rail : r < length rails
      group : g < length rails
      reaches : Reaches r g

    has_group : (r g : ℕ) → slice_get (graph_of nodes rails).group r ≡ Some g → HasGroup r g
    has_group r g in_group =
        (elim (slice_get rails r) as (λ o. slice_get rails r ≡ o → option_map (group_of nodes rails r) o ≡ Some g → HasGroup r g) [
          | None ↦ λ _ never. absurd (cc)
          | Some found ↦ λ is least.
              let named : List ℕ = named_by nodes rails found in
              let same : fold min r named ≡ g = cc in
              let within : r < length rails = slice_get_within rails r found is in
              record {
                rail = within;
                group = omega (arith, fold-min-le r named);
                reaches = subst (λ o. is_taken (r ∷ option_map_or (named_by nodes rails) o []) g ≡ true) (sym is)
                    (subst (λ n. is_taken (r ∷ named) n ≡ true) same (fold-min-among r named));
              }
        ]) refl (sym (slice_get-numbered (group_of nodes rails) rails r) ∙ in_group)

    pub groups_are_apart : at_pair nodes rails (λ a b. is_above (graph_of nodes rails) b a) CoupledSupplier ≡ None → length rails ≤ 64
        → (upper lower : ℕ) → IsAbove (graph_of nodes rails) upper lower → ¬ AreCoupled (graph_of nodes rails) upper lower
    groups_are_apart apart few upper lower above coupled =
        let block = coupled.block in
        let first = has_group upper block.group block.first in
        let second = has_group lower block.group block.second in
        let named : names nodes rails lower upper ≡ true =
        names_other lower upper block.group second.rail first.rail first.group (λ same. coupled.apart (sym same)) second.reaches first.reaches in
        let test : is_above (graph_of nodes rails) upper lower ≡ false = no_pair_fault (λ a b. is_above (graph_of nodes rails) b a) CoupledSupplier apart lower upper second.rail first.rail named in
        true≢false (sym ((above_is_lem (graph_of nodes rails) upper lower (graph_is_graph nodes rails few)).0 above) ∙ test)
