-- The rails of a group, and what holds of each element of joined lists.
use Rattle.std.proofs.Common.{◌≡◌, ℕ, zero, suc, ◌<◌, List, [], ◌∷◌, Some, refl, sym, ap, ◌∙◌, subst, arith, map, length, get_or, filter, flat_map, slice_get, slice_index, All, Contains, eq-eqb, zero-add}
use Rattle.std.specs.Prelude.{◌==◌}
use Rattle.std.specs.List.{enumerate_from}
use Rattle.std.proofs.lemmas.Bool.{eqb-true}
use Rattle.std.proofs.lemmas.Option.{slice_get-map, slice_get-get_or, slice_get_within, get_or_from_slice_get}
use Rattle.std.proofs.lemmas.List.Elements.{All-nil, All-append, All-map, All-filter, All-head, All-tail, filter_passes}
use Rattle.std.proofs.lemmas.List.FromFn.{length-range_with_len, get_or-range_with_len, length-enumerate_from, get_or-enumerate_from}
use Rattle.board_graph.specs.declared.graph.Graph.{Graph}
use Rattle.board_graph.specs.Graph.{count_of, IsIn, members}
use Rattle.board_graph.specs.Sets.{rails_of}
use Rattle.rail_law.proofs.Admissible.{in_mapped, in_filtered}

-- an element of a list by its place
pub there_at : {A : Type 0} (xs : List A) (i : ℕ) → i < length xs → (a : A) × (slice_get xs i ≡ Some a)
there_at [] i within = absurd (omega arith)
there_at (x ∷ xs) zero within = (x, refl)
there_at (x ∷ xs) (suc i) within = there_at xs i (omega arith)

pub mapped_at : {A : Type 0} (f : A → ℕ) (xs : List A) (i : ℕ) (a : A) → slice_get xs i ≡ Some a → slice_index (map f xs) i ≡ f a
mapped_at f xs i a is =
    let there : slice_get (map f xs) i ≡ Some (f a) = rw (slice_get-map f xs i, is) refl in
    get_or_from_slice_get (map f xs) i (f a) 0 there

-- what holds of each element of each of several lists holds of each of them joined
pub All-flat_map : {A B : Type 0} (P : B → Type 0) (f : A → List B) (xs : List A) → All (λ x. All P (f x)) xs → All P (flat_map f xs)
All-flat_map P f [] all = All-nil P
All-flat_map P f (x ∷ xs) all = All-append P (f x) (flat_map f xs) (All-head (λ y. All P (f y)) x xs all) (All-flat_map P f xs (All-tail (λ y. All P (f y)) x xs all))

-- what holds of each number below their count holds of all rails
pub All-rails : (P : ℕ → Type 0) (graph : Graph) → ((i : ℕ) → i < count_of graph → P i) → All P (rails_of graph)
All-rails P graph each k d within =
    let below : k < count_of graph = omega (arith, length-range_with_len 0 (count_of graph)) in
    let same : get_or (rails_of graph) k d ≡ k = get_or-range_with_len 0 (count_of graph) k d below ∙ zero-add k in
    subst P (sym same) (each k below)

-- the members of a group are the rails that are in it
numbered : (xs : List ℕ) → All (λ p. slice_get xs p.0 ≡ Some p.1) (enumerate_from 0 xs)
numbered xs k d within =
    let below : k < length xs = omega (arith, length-enumerate_from 0 xs) in
    let same : get_or (enumerate_from 0 xs) k d ≡ (k, get_or xs k d.1) = get_or-enumerate_from 0 xs k d below ∙ ap (λ n. (n, get_or xs k d.1)) (zero-add k) in
    subst (λ p. slice_get xs p.0 ≡ Some p.1) (sym same) (slice_get-get_or xs k d.1 below)

pub members_are_in : (graph : Graph) (group : ℕ) → All (IsIn graph group) (members graph group)
members_are_in graph group =
    All-map (IsIn graph group) (λ p. p.0) (filter (λ p. p.1 == group) (enumerate_from 0 graph.group))
    (λ k d within.
    All-filter (λ p. p.1 == group) (λ p. slice_get graph.group p.0 ≡ Some p.1) (enumerate_from 0 graph.group) (numbered graph.group) k d within
    ∙ ap Some (eqb-true _ group (filter_passes (λ p. p.1 == group) (enumerate_from 0 graph.group) k d within)))

pub is_member : (graph : Graph) (group r : ℕ) → IsIn graph group r → Contains (members graph group) r
is_member graph group r is =
    let below : r < length graph.group = slice_get_within graph.group r group is in
    let same : get_or (enumerate_from 0 graph.group) r (r, group) ≡ (r, group) =
    get_or-enumerate_from 0 graph.group r (r, group) below
    ∙ ap (λ n. (n, get_or graph.group r group)) (zero-add r)
    ∙ ap (λ g. (r, g)) (get_or_from_slice_get graph.group r group group is) in
    let there : Contains (filter (λ p. p.1 == group) (enumerate_from 0 graph.group)) (r, group) =
    in_filtered (λ p. p.1 == group) (enumerate_from 0 graph.group) (r, group) r (omega (arith, length-enumerate_from 0 graph.group)) same (eq-eqb group group refl) in
    in_mapped (λ p. p.0) (filter (λ p. p.1 == group) (enumerate_from 0 graph.group)) (r, group) there.0 there.1 there.2
