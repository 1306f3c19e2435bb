-- A graph with an order has no loop of blocks.
use Rattle.std.proofs.Common.{◌≡◌, ℕ, true, inl, inr, List, [], ◌∷◌, ◌++◌, Some, ◌∙◌, sym, subst, append_assoc}
use Rattle.std.specs.Prelude.{flat_map, nat_eq}
use Rattle.std.proofs.lemmas.Bool.{and_parts, or_cases}
use Rattle.std.proofs.lemmas.List.Folds.{list_any-append}
use Rattle.std.proofs.lemmas.List.{append-nil}
use Rattle.std.proofs.lemmas.Option.{slice_get_within}
use Rattle.board_graph.specs.declared.graph.Graph.{Graph}
use Rattle.board_graph.specs.Ways.{Leads}
use Rattle.board_graph.specs.Graph.{members, IsIn, Feeds, IsOnBlockLoop}
use Rattle.board_graph.specs.Order.{is_taken, is_supplied, next_group, ComeInTurn, IsOrder}
use Rattle.board_graph.proofs.Ways.{last_step}
use Rattle.board_graph.proofs.Members.{is_member, member_is, all_at, next_is_ready, taken_at}

-- what is on a loop has a step to it from what is on the loop
before_on_loop : {Step : ℕ → ℕ → Type 0} (a : ℕ) → Leads Step a a → (via : ℕ) × Step via a × Leads Step via via
before_on_loop {Step} a loop =
    let there = last_step a a loop.between loop.way in (
      there.0,
      there.1,
      elim there.2 [
        | inl same ↦ subst (λ x. Leads Step x x) (sym same) loop
        | inr leads ↦ record { between = a ∷ leads.between; way = (there.1, leads.way) }
      ],
    )

-- no rail that is taken is on a loop of blocks
abbrev NoneOnLoop : Graph → List ℕ → Type 0
NoneOnLoop graph taken = (r : ℕ) → is_taken taken r ≡ true → ¬ IsOnBlockLoop graph r

-- a block on a loop has a supply on the loop, which would be taken before it
none_joins : (graph : Graph) (taken : List ℕ) (group : ℕ) → NoneOnLoop graph taken → next_group graph taken ≡ Some group → NoneOnLoop graph (members graph group)
none_joins graph taken group before next r is on =
    let there = next_is_ready graph taken group next in
    let in_group : IsIn graph group r = member_is graph group r is in
    let same : on.group ≡ group = cc (in_group, on.in_group) in
    let loop : Leads (Feeds graph) group group = subst (λ x. Leads (Feeds graph) x x) same on.loop in
    let above = before_on_loop group loop in
    let feeds : Feeds graph above.0 group = above.1 in
    let supplied : is_supplied graph taken feeds.lower ≡ true =
    all_at (is_supplied graph taken) (members graph group) feeds.lower (and_parts _ _ there.2).1 (is_member graph group feeds.lower feeds.in_below) in
    let upper_taken : is_taken taken feeds.upper ≡ true = rw feeds.supplies at supplied in
    before feeds.upper upper_taken (record { group = above.0; in_group = feeds.in_above; loop = above.2 })

none_ever : (graph : Graph) (taken groups : List ℕ) → NoneOnLoop graph taken → ComeInTurn graph taken groups → NoneOnLoop graph (taken ++ flat_map (members graph) groups)
none_ever graph taken [] before turns = subst (NoneOnLoop graph) (sym (append-nil taken)) before
none_ever graph taken (group ∷ groups) before turns =
    let after : NoneOnLoop graph (taken ++ members graph group) = λ r is.
    elim (or_cases _ _ (sym (list_any-append (nat_eq r) taken (members graph group)) ∙ is)) [
      | inl old ↦ before r old
      | inr new ↦ none_joins graph taken group before turns.0 r new
    ] in
    subst (NoneOnLoop graph) (append_assoc taken (members graph group) (flat_map (members graph) groups)) (none_ever graph (taken ++ members graph group) groups after turns.1)

pub loops_have_no_order : (graph : Graph) (order : List ℕ) → IsOrder graph order → (r : ℕ) → ¬ IsOnBlockLoop graph r
loops_have_no_order graph order is r on =
    let none : NoneOnLoop graph order = subst (NoneOnLoop graph) (sym is.blocks) (none_ever graph [] is.groups (λ _ never. absurd (cc)) is.turns) in
    none r (taken_at r order (is.all r (slice_get_within graph.group r on.group on.in_group))) on
