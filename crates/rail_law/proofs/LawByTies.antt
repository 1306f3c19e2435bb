-- A board's spreads and dropouts are kept exactly where its ties are.
use Rattle.std.proofs.Common.{◌≡◌, ◌≢◌, ℕ, ◌<◌, ◌↔◌, Bool, true, false, not, cond, List, [], ◌++◌, Option, Some, None, refl, sym, ap, ◌∙◌, subst, arith, map, length, filter, slice_get, slice_index, All, Contains, le-leb, ne_eqb}
use Rattle.std.proofs.lemmas.List.{length-map}
use Rattle.std.specs.Prelude.{◌==◌, IfSome, option_map, option_and_then, option_to_list}
use Rattle.std.specs.Option.{option_map_or}
use Rattle.std.proofs.lemmas.Bool.{leb-true, not-true, not_from_false, eqb-false}
use Rattle.std.proofs.lemmas.Option.{slice_get-map, slice_get-get_or, slice_get_within, get_or_from_slice_get, same_Some}
use Rattle.std.proofs.lemmas.List.Elements.{All-nil, All-cons, All-append, All-map, All-filter, All-contains, filter_passes, Contains-append_left, Contains-append_right}
use Rattle.std.proofs.lemmas.List.Sums.{AllPass-from_list_all, list_all-from_AllPass}
use Rattle.board_graph.specs.Graph.{count_of, supply_at, Supplies, IsIn, AreCoupled, members}
use Rattle.board_graph.specs.Sets.{rails_of, is_linked_at, IsLinked}
use Rattle.board_graph.proofs.Growth.{from_taken, is_rail}
use Rattle.board.specs.declared.board.Board.{Board}
use Rattle.board.specs.declared.rail.Rail.{Rail}
use Rattle.board.specs.declared.rail_id.RailId.{RailId}
use Rattle.board.specs.Rail.{uv}
use Rattle.board.specs.Valid.{supply_of, IsGraphOf}
use Rattle.rail_law.specs.Ties.{Tie, is_kept, KeepsAll}
use Rattle.rail_law.specs.BoardTies.{standing_values, dropout_at, spread_ties_in, spread_ties, dropout_ties, ties_of}
use Rattle.rail_law.specs.Law.{KeepSpreads, KeepDropouts}
use Rattle.rail_law.proofs.Admissible.{in_mapped, in_filtered, in_joined}
use Rattle.rail_law.proofs.Members.{there_at, mapped_at, All-flat_map, All-rails, members_are_in, is_member}

-- the ties of a rail to others of its group, and to its supply
abbrev spread_tie : Board → ℕ → ℕ → ℕ → Tie
spread_tie board group i j = record { low = i; rise = 0; high = j; fall = slice_index board.spread group }

abbrev dropout_tie : Board → ℕ → ℕ → Tie
dropout_tie board i s = record { low = i; rise = dropout_at board i; high = s; fall = 0 }

abbrev differs : ℕ → ℕ → Bool
differs i j = not (j == i)

-- what holds of the ties that a rail may have holds of those that it has
all_spread_ties : (P : Tie → Type 0) (board : Board) (i : ℕ) (there : Option ℕ) → slice_get board.graph.group i ≡ there
    → ((group j : ℕ) → IsIn board.graph group i → IsIn board.graph group j → j ≢ i → P (spread_tie board group i j))
    → All P (option_map_or (spread_ties_in board i) there [])
all_spread_ties P board i None is each = All-nil P
all_spread_ties P board i (Some group) is each =
    All-map P (spread_tie board group i) (filter (differs i) (members board.graph group))
    (λ k d within. each group _ is
    (All-filter (differs i) (IsIn board.graph group) (members board.graph group) (members_are_in board.graph group) k d within)
    (eqb-false _ i (not-true _ (filter_passes (differs i) (members board.graph group) k d within))))

all_dropout_ties : (P : Tie → Type 0) (board : Board) (i : ℕ) (linked : Bool) (there : Option ℕ) → (linked ≡ true → (s : ℕ) → there ≡ Some s → P (dropout_tie board i s))
    → All P (cond linked (map (dropout_tie board i) (option_to_list there)) [])
all_dropout_ties P board i false there each = All-nil P
all_dropout_ties P board i true None each = All-nil P
all_dropout_ties P board i true (Some s) each = All-cons P (dropout_tie board i s) [] (each refl s refl) (All-nil P)

-- a board has its ties
has_tie : (board : Board) (i : ℕ) (tie : Tie) → i < count_of board.graph → Contains (spread_ties board i ++ dropout_ties board i) tie → Contains (ties_of board) tie
has_tie board i tie below has =
    let there = from_taken (rails_of board.graph) i (is_rail board.graph i below) in
    in_joined (λ r. spread_ties board r ++ dropout_ties board r) (rails_of board.graph) i tie there.0 there.1 there.2 has

has_spread_tie : (board : Board) (group i j : ℕ) → IsIn board.graph group i → IsIn board.graph group j → j ≢ i → Contains (ties_of board) (spread_tie board group i j)
has_spread_tie board group i j first second apart =
    let member = is_member board.graph group j second in
    let other = in_filtered (differs i) (members board.graph group) j member.0 member.1 member.2 (not_from_false _ (ne_eqb j i apart)) in
    let here = in_mapped (spread_tie board group i) (filter (differs i) (members board.graph group)) j other.0 other.1 other.2 in
    has_tie board i (spread_tie board group i j) (slice_get_within board.graph.group i group first)
    (Contains-append_left (spread_ties board i) (dropout_ties board i) (spread_tie board group i j)
    (subst (λ there. Contains (option_map_or (spread_ties_in board i) there []) (spread_tie board group i j)) (sym first) here))

has_dropout_tie : (board : Board) (i s : ℕ) → i < count_of board.graph → IsLinked board.graph i → Supplies board.graph s i → Contains (ties_of board) (dropout_tie board i s)
has_dropout_tie board i s below linked supplies =
    let here : Contains (map (dropout_tie board i) (option_to_list (Some s))) (dropout_tie board i s) = (0, omega arith, refl) in
    let there = subst (λ supply. Contains (map (dropout_tie board i) (option_to_list supply)) (dropout_tie board i s)) (sym supplies) here in
    has_tie board i (dropout_tie board i s) below
    (Contains-append_right (spread_ties board i) (dropout_ties board i) (dropout_tie board i s)
    (subst (λ t. Contains (cond t (map (dropout_tie board i) (option_to_list (supply_at board.graph i))) []) (dropout_tie board i s)) (sym linked) there))

kept_of : (values : List ℕ) (ties : List Tie) (tie : Tie) → KeepsAll values ties → Contains ties tie → is_kept values tie ≡ true
kept_of values ties tie keeps has = All-contains (λ t. is_kept values t ≡ true) ties tie (AllPass-from_list_all (is_kept values) ties keeps) has

supply_within : (n s : ℕ) (supply : Option RailId) → option_map (λ r. r.0) supply ≡ Some s → IfSome supply (λ r. r.0 < n) → s < n
supply_within n s None is below = absurd (cc)
supply_within n s (Some rail) is below = subst (λ k. k < n) (same_Some rail.0 s is) below

-- a board whose graph is that of its rails, and whose groups have spreads
module _ (board : Board) (regs : List (List ℕ)) (graph : IsGraphOf board) (spreads : All (λ rail. rail.group < length board.spread) board.rails) where
  pub as_many : count_of board.graph ≡ length board.rails
  as_many = ap length graph.groups ∙ length-map board.rails (λ rail. rail.group)

  rail_at : (i : ℕ) → i < count_of board.graph → (a : Rail) × (slice_get board.rails i ≡ Some a)
  rail_at i below = there_at board.rails i (omega (arith, as_many))

  value_at : (i : ℕ) (a : Rail) → slice_get board.rails i ≡ Some a → slice_index (standing_values board regs) i ≡ uv a regs
  value_at i a is = mapped_at (λ rail. uv rail regs) board.rails i a is

  pub spread_is_there : (i group : ℕ) → IsIn board.graph group i → slice_get board.spread group ≡ Some (slice_index board.spread group)
  spread_is_there i group is =
      let rail = rail_at i (slice_get_within board.graph.group i group is) in
      let told : slice_get board.graph.group i ≡ Some rail.0.group =
      ap (λ groups. slice_get groups i) graph.groups ∙ slice_get-map (λ (r : Rail). r.group) board.rails i ∙ ap (option_map (λ (r : Rail). r.group)) rail.1 in
      let same : rail.0.group ≡ group = same_Some _ _ (sym told ∙ is) in
      let within : rail.0.group < length board.spread =
      subst (λ r. r.group < length board.spread) (get_or_from_slice_get board.rails i rail.0 rail.0 rail.1) (spreads i rail.0 (slice_get_within board.rails i rail.0 rail.1)) in
      slice_get-get_or board.spread group 0 (omega arith)

  spread_kept : KeepSpreads board regs → (i group j : ℕ) → IsIn board.graph group i → IsIn board.graph group j → j ≢ i → is_kept (standing_values board regs) (spread_tie board group i j) ≡ true
  spread_kept keep i group j first second apart =
      let a = rail_at i (slice_get_within board.graph.group i group first) in
      let b = rail_at j (slice_get_within board.graph.group j group second) in
      let coupled : AreCoupled board.graph i j = record { apart = λ same. apart (sym same); block = record { group = group; first = first; second = second } } in
      le-leb _ _ (omega (arith, keep i j group (slice_index board.spread group) a.0 b.0 coupled first (spread_is_there i group first) a.1 b.1, value_at i a.0 a.1, value_at j b.0 b.1))

  pub supply_rail : (i s : ℕ) (a : Rail) → slice_get board.rails i ≡ Some a → Supplies board.graph s i → s < count_of board.graph
  supply_rail i s a is supplies =
      let told : slice_get board.graph.supply i ≡ Some (supply_of a) =
      ap (λ supplies. slice_get supplies i) graph.supplies ∙ slice_get-map supply_of board.rails i ∙ ap (option_map supply_of) is in
      let same : supply_of a ≡ Some s = ap (option_and_then (λ supply. supply)) (sym told) ∙ supplies in
      let below : s < length board.rails =
      supply_within (length board.rails) s a.supply same
      (subst (λ r. IfSome r.supply (λ n. n.0 < length board.rails)) (get_or_from_slice_get board.rails i a a is) (graph.rails i a (slice_get_within board.rails i a is))) in
      omega (arith, as_many)

  dropout_is : (i : ℕ) (a : Rail) → slice_get board.rails i ≡ Some a → dropout_at board i ≡ a.desc.dropout
  dropout_is i a is = ap (λ there. option_map_or (λ (rail : Rail). rail.desc.dropout) there 0) is

  dropout_kept : KeepDropouts board regs → (i s : ℕ) → i < count_of board.graph → IsLinked board.graph i → Supplies board.graph s i → is_kept (standing_values board regs) (dropout_tie board i s) ≡ true
  dropout_kept keep i s below linked supplies =
      let b = rail_at i below in
      let a = rail_at s (supply_rail i s b.0 b.1 supplies) in
      le-leb _ _ (omega (arith, keep s i a.0 b.0 supplies linked a.1 b.1, value_at i b.0 b.1, value_at s a.0 a.1, dropout_is i b.0 b.1))

  ties_kept : KeepSpreads board regs → KeepDropouts board regs → KeepsAll (standing_values board regs) (ties_of board)
  ties_kept keep hold =
      let Kept : Tie → Type 0 = λ tie. is_kept (standing_values board regs) tie ≡ true in
      list_all-from_AllPass (is_kept (standing_values board regs)) (ties_of board)
      (All-flat_map Kept (λ i. spread_ties board i ++ dropout_ties board i) (rails_of board.graph)
      (All-rails (λ i. All Kept (spread_ties board i ++ dropout_ties board i)) board.graph
      (λ i below. All-append Kept (spread_ties board i) (dropout_ties board i)
      (all_spread_ties Kept board i (slice_get board.graph.group i) refl (λ group j. spread_kept keep i group j))
      (all_dropout_ties Kept board i (is_linked_at board.graph i) (supply_at board.graph i) (λ linked s. dropout_kept hold i s below linked)))))

  spreads_kept : KeepsAll (standing_values board regs) (ties_of board) → KeepSpreads board regs
  spreads_kept keeps i j group spread a b coupled is_in spread_is a_is b_is =
      let same : coupled.block.group ≡ group = same_Some _ _ (sym coupled.block.first ∙ is_in) in
      let other : IsIn board.graph group j = subst (λ g. IsIn board.graph g j) same coupled.block.second in
      let kept = leb-true _ _ (kept_of (standing_values board regs) (ties_of board) (spread_tie board group i j) keeps (has_spread_tie board group i j is_in other (λ equal. coupled.apart (sym equal)))) in
      omega (arith, kept, get_or_from_slice_get board.spread group spread 0 spread_is, value_at i a a_is, value_at j b b_is)

  dropouts_kept : KeepsAll (standing_values board regs) (ties_of board) → KeepDropouts board regs
  dropouts_kept keeps upper lower a b supplies linked a_is b_is =
      let below : lower < count_of board.graph = omega (arith, as_many, slice_get_within board.rails lower b b_is) in
      let kept = leb-true _ _ (kept_of (standing_values board regs) (ties_of board) (dropout_tie board lower upper) keeps (has_dropout_tie board lower upper below linked supplies)) in
      omega (arith, kept, dropout_is lower b b_is, value_at upper a a_is, value_at lower b b_is)

  pub law_by_ties_lem : (KeepSpreads board regs × KeepDropouts board regs) ↔ KeepsAll (standing_values board regs) (ties_of board)
  law_by_ties_lem = ((λ both. ties_kept both.0 both.1), λ keeps. (spreads_kept keeps, dropouts_kept keeps))
