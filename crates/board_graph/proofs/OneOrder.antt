-- A graph has one order at most.
use Rattle.std.proofs.Common.{◌≡◌, ℕ, ◌<◌, true, not, List, [], ◌∷◌, ◌++◌, Some, refl, sym, ap, ◌∙◌, subst, append_assoc}
use Rattle.std.specs.Prelude.{Contains, flat_map}
use Rattle.std.proofs.lemmas.Bool.{and_parts}
use Rattle.std.proofs.lemmas.List.{append-nil}
use Rattle.std.proofs.lemmas.Option.{slice_get_within}
use Rattle.board_graph.specs.declared.graph.Graph.{Graph}
use Rattle.board_graph.specs.Graph.{count_of, members}
use Rattle.board_graph.specs.Order.{is_taken, next_group, ComeInTurn, IsOrder}
use Rattle.board_graph.proofs.Members.{next_is_ready, taken_at}

-- every rail is taken
abbrev AllTaken : Graph → List ℕ → Type 0
AllTaken graph taken = (r : ℕ) → r < count_of graph → Contains taken r

-- then no group comes next
none_next : (graph : Graph) (taken : List ℕ) (group : ℕ) → AllTaken graph taken → next_group graph taken ≡ Some group → ⊥
none_next graph taken group all is =
    let there = next_is_ready graph taken group is in
    let left : not (is_taken taken there.0) ≡ true = (and_parts _ _ there.2).0 in
    let was : is_taken taken there.0 ≡ true = taken_at there.0 taken (all there.0 (slice_get_within graph.group there.0 group there.1)) in
    cc

same_turns : (graph : Graph) (taken gs hs : List ℕ) → ComeInTurn graph taken gs → ComeInTurn graph taken hs
    → AllTaken graph (taken ++ flat_map (members graph) gs) → AllTaken graph (taken ++ flat_map (members graph) hs) → gs ≡ hs
same_turns graph taken [] [] first second all every = refl
same_turns graph taken [] (h ∷ hs) first second all every = absurd (none_next graph taken h (subst (AllTaken graph) (append-nil taken) all) second.0)
same_turns graph taken (g ∷ gs) [] first second all every = absurd (none_next graph taken g (subst (AllTaken graph) (append-nil taken) every) first.0)
same_turns graph taken (g ∷ gs) (h ∷ hs) first second all every =
    let same : h ≡ g = cc (first.0, second.0) in
    let P : ℕ → Type 0 = λ x. ComeInTurn graph (taken ++ members graph x) hs in
    let Q : ℕ → Type 0 = λ x. AllTaken graph (taken ++ (members graph x ++ flat_map (members graph) hs)) in
    let rest : gs ≡ hs =
    same_turns graph (taken ++ members graph g) gs hs first.1 (subst P same second.1)
    (rw append_assoc all) (rw append_assoc (subst Q same every)) in
    cc

pub one_order_lem : (graph : Graph) (order other : List ℕ) → IsOrder graph order → IsOrder graph other → order ≡ other
one_order_lem graph order other first second =
    let same : first.groups ≡ second.groups =
    same_turns graph [] first.groups second.groups first.turns second.turns
    (subst (AllTaken graph) first.blocks first.all) (subst (AllTaken graph) second.blocks second.all) in
    first.blocks ∙ ap (flat_map (members graph)) same ∙ sym second.blocks
