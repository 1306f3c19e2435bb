use Rattle.std.proofs.Common.{◌≡◌, ℕ, ◌≤◌, ◌<◌, ◌∙◌, List, None, Some, map, length, refl, sym, ap, subst, arith, get_or}
use Rattle.std.specs.Option.{option_map}
use Rattle.std.specs.List.{enumerate_from}
use Rattle.std.proofs.lemmas.List.{length-map}
use Rattle.std.proofs.lemmas.List.FromFn.{length-enumerate_from}
use Rattle.std.proofs.lemmas.Result.{err_from_is_err_and}
use Rattle.board_graph.specs.Graph.{count_of, IsGraph}
use Rattle.board_checks.specs.Checks.{pairs_of}
use Rattle.board_nodes.specs.Rails.{seen}
use Rattle.board_draft.specs.declared.fault.BoardFault.TheVariants.{OneWay, SpreadsDiffer, CoupledSupplier}
use Rattle.board_draft.specs.Links.{group_of}
use Rattle.board_draft.proofs.SoundGraph.{graph_is_graph}
use Rattle.board_draft.proofs.PartsLists.{group_told, pairs_inside, one_way_found, spreads_found, supplier_found}
use Rattle.board_draft.proofs.parts.spreads_checked.Goals as goal

pub coupled_supplier-requires-clause-graph : goal.coupled_supplier-requires-clause-graph
coupled_supplier-requires-clause-graph c =
    let rails = map seen c.args.rails.now in
    let few : length rails ≤ 64 = omega (arith, length-map c.args.rails.now seen, c.requires.few) in
    subst IsGraph (sym c.requires.graph) (graph_is_graph c.args.tree.now rails few)

pub returns-in-Some-clause-fault : goal.returns-in-Some-clause-fault
returns-in-Some-clause-fault c = λ _.
    let rails = map seen c.args.rails.now in
    let all : c.as_slice.result.now ≡ pairs_of (length rails) = c.as_slice.ensures.value ∙ c.in_ok-pairs.ensures ∙ ap pairs_of (sym (length-map c.args.rails.now seen)) in
    group_told c.args.tree.now (map seen c.args.rails.now) (Some (OneWay c.in-Some.first c.in-Some.second)) _ _ _ _ (one_way_found c.args.tree.now rails c.args.named.now c.requires.named c.as_slice.result.now c.one_way.result all c.one_way.ensures
    ∙ ap (option_map (λ (pair : ℕ × ℕ). OneWay pair.0 pair.1)) c.in-Some.is) refl refl refl refl

pub returns-in_err-spreads-clause-fault : goal.returns-in_err-spreads-clause-fault
returns-in_err-spreads-clause-fault c =
    let p = err_from_is_err_and c.from_residual-in_err-spreads.result c.from_residual-in_err-spreads.ensures.1 in
    let rails = map seen c.args.rails.now in
    let all : c.as_slice.result.now ≡ pairs_of (length rails) = c.as_slice.ensures.value ∙ c.in_ok-pairs.ensures ∙ ap pairs_of (sym (length-map c.args.rails.now seen)) in
    let pair = one_way_found c.args.tree.now rails c.args.named.now c.requires.named c.as_slice.result.now c.one_way.result all c.one_way.ensures
    ∙ ap (option_map (λ (pair : ℕ × ℕ). OneWay pair.0 pair.1)) c.in_default.is in
    rw (p.1, p.2) (λ ne. group_told c.args.tree.now (map seen c.args.rails.now) None (Some c.in_err-spreads.field-0.0) _ _ _ pair (c.in_err-spreads.ensures.fault ne) refl refl refl)

pub returns-in-Some-two_spreads-clause-fault : goal.returns-in-Some-two_spreads-clause-fault
returns-in-Some-two_spreads-clause-fault c = λ _.
    let rails = map seen c.args.rails.now in
    let counted = ap pairs_of (sym (length-map c.args.rails.now seen)) in
    let all : c.as_slice.result.now ≡ pairs_of (length rails) = c.as_slice.ensures.value ∙ c.in_ok-pairs.ensures ∙ counted in
    let all_2 : c.as_slice-2.result.now ≡ pairs_of (length rails) = c.as_slice-2.ensures.value ∙ c.in_ok-pairs.ensures ∙ counted in
    group_told c.args.tree.now (map seen c.args.rails.now) None None (Some (SpreadsDiffer c.in-Some-two_spreads.first c.in-Some-two_spreads.second)) _ _
    (one_way_found c.args.tree.now rails c.args.named.now c.requires.named c.as_slice.result.now c.one_way.result all c.one_way.ensures
    ∙ ap (option_map (λ (pair : ℕ × ℕ). OneWay pair.0 pair.1)) c.in_default.is)
    c.in_ok-spreads.ensures.none
    (spreads_found c.args.tree.now rails c.args.named.now c.requires.named c.in_ok-spreads.spreads c.in_ok-spreads.ensures.spreads c.as_slice-2.result.now c.two_spreads.result all_2 c.two_spreads.ensures
    ∙ ap (option_map (λ (pair : ℕ × ℕ). SpreadsDiffer pair.0 pair.1)) c.in-Some-two_spreads.is) refl refl

pub coupled_supplier-requires-clause-inside : goal.coupled_supplier-requires-clause-inside
coupled_supplier-requires-clause-inside c =
    let rails = map seen c.args.rails.now in
    let count : count_of c.args.graph.now ≡ length c.args.rails.now = ap count_of c.requires.graph
    ∙ length-map (enumerate_from 0 rails) (λ rail. group_of c.args.tree.now rails rail.0 rail.1) ∙ length-enumerate_from 0 rails ∙ length-map c.args.rails.now seen in
    let all : c.as_slice-3.result.now ≡ pairs_of (count_of c.args.graph.now) = c.as_slice-3.ensures.value ∙ c.in_ok-pairs.ensures ∙ ap pairs_of (sym count) in
    λ k within. subst (λ (pairs : List (ℕ × ℕ)). k < length pairs → (get_or pairs k (0, 0)).0 < count_of c.args.graph.now) (sym all) (pairs_inside (count_of c.args.graph.now) k (0, 0)) within

pub returns-in-Some-2-clause-fault : goal.returns-in-Some-2-clause-fault
returns-in-Some-2-clause-fault c = λ _.
    let rails = map seen c.args.rails.now in
    let counted = ap pairs_of (sym (length-map c.args.rails.now seen)) in
    let all : c.as_slice.result.now ≡ pairs_of (length rails) = c.as_slice.ensures.value ∙ c.in_ok-pairs.ensures ∙ counted in
    let all_2 : c.as_slice-2.result.now ≡ pairs_of (length rails) = c.as_slice-2.ensures.value ∙ c.in_ok-pairs.ensures ∙ counted in
    let all_3 : c.as_slice-3.result.now ≡ pairs_of (length rails) = c.as_slice-3.ensures.value ∙ c.in_ok-pairs.ensures ∙ counted in
    group_told c.args.tree.now (map seen c.args.rails.now) None None None (Some (CoupledSupplier c.in-Some-2.lower c.in-Some-2.upper)) _
    (one_way_found c.args.tree.now rails c.args.named.now c.requires.named c.as_slice.result.now c.one_way.result all c.one_way.ensures
    ∙ ap (option_map (λ (pair : ℕ × ℕ). OneWay pair.0 pair.1)) c.in_default.is)
    c.in_ok-spreads.ensures.none
    (spreads_found c.args.tree.now rails c.args.named.now c.requires.named c.in_ok-spreads.spreads c.in_ok-spreads.ensures.spreads c.as_slice-2.result.now c.two_spreads.result all_2 c.two_spreads.ensures
    ∙ ap (option_map (λ (pair : ℕ × ℕ). SpreadsDiffer pair.0 pair.1)) c.in_default-two_spreads.is)
    (supplier_found c.args.tree.now rails c.args.named.now c.requires.named c.args.graph.now c.as_slice-3.result.now c.in_ok-lower.field-0 c.requires.graph all_3 c.in_ok-lower.ensures
    ∙ ap (option_map (λ (pair : ℕ × ℕ). CoupledSupplier pair.0 pair.1)) c.in-Some-2.is) refl

pub returns-clause-none : goal.returns-clause-none
returns-clause-none c =
    let rails = map seen c.args.rails.now in
    let counted = ap pairs_of (sym (length-map c.args.rails.now seen)) in
    let all : c.as_slice.result.now ≡ pairs_of (length rails) = c.as_slice.ensures.value ∙ c.in_ok-pairs.ensures ∙ counted in
    let all_2 : c.as_slice-2.result.now ≡ pairs_of (length rails) = c.as_slice-2.ensures.value ∙ c.in_ok-pairs.ensures ∙ counted in
    let all_3 : c.as_slice-3.result.now ≡ pairs_of (length rails) = c.as_slice-3.ensures.value ∙ c.in_ok-pairs.ensures ∙ counted in
    group_told c.args.tree.now (map seen c.args.rails.now) None None None None None
    (one_way_found c.args.tree.now rails c.args.named.now c.requires.named c.as_slice.result.now c.one_way.result all c.one_way.ensures
    ∙ ap (option_map (λ (pair : ℕ × ℕ). OneWay pair.0 pair.1)) c.in_default.is)
    c.in_ok-spreads.ensures.none
    (spreads_found c.args.tree.now rails c.args.named.now c.requires.named c.in_ok-spreads.spreads c.in_ok-spreads.ensures.spreads c.as_slice-2.result.now c.two_spreads.result all_2 c.two_spreads.ensures
    ∙ ap (option_map (λ (pair : ℕ × ℕ). SpreadsDiffer pair.0 pair.1)) c.in_default-two_spreads.is)
    (supplier_found c.args.tree.now rails c.args.named.now c.requires.named c.args.graph.now c.as_slice-3.result.now c.in_ok-lower.field-0 c.requires.graph all_3 c.in_ok-lower.ensures
    ∙ ap (option_map (λ (pair : ℕ × ℕ). CoupledSupplier pair.0 pair.1)) c.in_default-2.is) refl
