-- What moves with a rail of a board on which no value binds another: the rail alone, and no tie binds it.
use Rattle.std.proofs.Common.{◌≡◌, ℕ, ◌<◌, Bool, false, not, List, [], ◌∷◌, ◌++◌, Option, Some, None, inl, inr, refl, sym, ap, ◌∙◌, arith, map, filter, flat_map, slice_get, All, AllPairs, Contains, eq-eqb}
use Rattle.std.specs.Prelude.{◌==◌}
use Rattle.std.specs.Option.{option_map_or}
use Rattle.std.proofs.lemmas.Bool.{cases_eq, false_from_ne_true}
use Rattle.std.proofs.lemmas.List.Elements.{All-nil, All-cons, All-head, All-tail, All-weaker, All-contains}
use Rattle.board_graph.specs.Graph.{count_of, IsGraph, IsIn, AreOneBlock, members}
use Rattle.board_graph.specs.Sets.{rails_of, is_linked_at, movers, HoldsMovers}
use Rattle.board_graph.proofs.SetLaws.{movers_are_least_lem}
use Rattle.board.specs.declared.board.Board.{Board}
use Rattle.rail_law.specs.BoardTies.{spread_ties_in, spread_ties, dropout_ties, ties_of, ties_among, ties_at}
use Rattle.rail_law.proofs.Members.{members_are_in}
use Rattle.plain_board.specs.Untied.{IsUntied}

-- the one element of a list of one
sole_is : (r i : ℕ) → Contains (r ∷ []) i → i ≡ r
sole_is r i has = All-contains (λ k. k ≡ r) (r ∷ []) i (All-cons (λ k. k ≡ r) r [] refl (All-nil (λ k. k ≡ r))) has

-- a rising list with r and nothing else
sole : (set : List ℕ) (r : ℕ) → AllPairs (λ i j. i < j) set → Contains set r → ((i : ℕ) → Contains set i → i ≡ r) → set ≡ r ∷ []
sole [] r rising has each = absurd (omega (arith, has.1))
sole (x ∷ []) r rising has each = ap (λ y. y ∷ []) (each x (0, omega arith, refl))
sole (x ∷ y ∷ rest) r rising has each =
    let less : x < y = rising 0 1 0 (omega arith) (omega arith) in
    absurd (omega (arith, less, each x (0, omega arith, refl), each y (1, omega arith, refl)))

filter_none : (p : ℕ → Bool) (xs : List ℕ) → All (λ x. p x ≡ false) xs → filter p xs ≡ []
filter_none p [] all = refl
filter_none p (x ∷ xs) all =
    let head = All-head (λ y. p y ≡ false) x xs all in
    rw head (filter_none p xs (All-tail (λ y. p y ≡ false) x xs all))

flat_map_none : {A : Type 0} (f : ℕ → List A) (xs : List ℕ) → ((x : ℕ) → f x ≡ []) → flat_map f xs ≡ []
flat_map_none f [] each = refl
flat_map_none f (x ∷ xs) each = let head = each x in rw head (flat_map_none f xs each)

not_other : (i j : ℕ) → j ≡ i → not (j == i) ≡ false
not_other i j same = ap not (eq-eqb j i same)

module _ (board : Board) (untied : IsUntied board) where
  -- a rail is alone in its block
  pub alone_in_block : (i r : ℕ) → AreOneBlock board.graph i r → i ≡ r
  alone_in_block i r one = elim (cases_eq i r) [
    | inl same ↦ same
    | inr apart ↦ absurd (untied.uncoupled i r (record { apart = apart; block = one }))
  ]

  -- the members of its group are itself
  pub members_alone : (group r : ℕ) → IsIn board.graph group r → All (λ i. i ≡ r) (members board.graph group)
  members_alone group r is_in =
      All-weaker (IsIn board.graph group) (λ i. i ≡ r) (λ i other. alone_in_block i r (record { group = group; first = other; second = is_in }))
      (members board.graph group) (members_are_in board.graph group)

  -- it moves alone
  pub movers_alone : (r : ℕ) → IsGraph board.graph → r < count_of board.graph → movers board.graph r ≡ r ∷ []
  movers_alone r is below =
      let least = movers_are_least_lem board.graph r is below in
      let such : HoldsMovers board.graph (r ∷ []) = record {
        blocks = λ a b one has. (0, omega arith, sym (alone_in_block a b one ∙ sole_is r b has));
        links = λ upper lower supplies linked has. absurd (untied.unlinked lower linked);
      } in
      sole (movers board.graph r) r least.rising least.has (λ i has. sole_is r i (least.least (r ∷ []) such (0, omega arith, refl) i has))

  no_spread_ties : (i : ℕ) (there : Option ℕ) → slice_get board.graph.group i ≡ there → option_map_or (spread_ties_in board i) there [] ≡ []
  no_spread_ties i None is = refl
  no_spread_ties i (Some group) is =
      ap (map _) (filter_none (λ j. not (j == i)) (members board.graph group) (All-weaker (λ j. j ≡ i) (λ j. not (j == i) ≡ false) (not_other i) (members board.graph group) (members_alone group i is)))

  no_ties_of : (i : ℕ) → spread_ties board i ++ dropout_ties board i ≡ []
  no_ties_of i =
      let unlinked : is_linked_at board.graph i ≡ false = false_from_ne_true _ (untied.unlinked i) in
      rw (no_spread_ties i (slice_get board.graph.group i) refl, unlinked) refl

  -- the board has no ties
  pub ties_none : ties_of board ≡ []
  ties_none = flat_map_none (λ i. spread_ties board i ++ dropout_ties board i) (rails_of board.graph) no_ties_of

  pub ties_at_none : (r : ℕ) → ties_at board r ≡ []
  ties_at_none r = ap (ties_among (movers board.graph r)) ties_none
