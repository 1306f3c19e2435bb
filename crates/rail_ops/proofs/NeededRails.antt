-- The rails that a call needs are rails of the board.
use Rattle.std.proofs.Common.{◌≡◌, ℕ, zero, suc, ◌<◌, ◌||◌, Bool, true, false, cond, List, [], ◌∷◌, Option, Some, None, refl, sym, subst, arith, length, Contains}
use Rattle.std.specs.Prelude.{is_some, nat_le}
use Rattle.std.specs.Option.{option_map_or}
use Rattle.std.proofs.lemmas.List.Elements.{All-cons, All-contains, All-nil}
use Rattle.board_graph.specs.Graph.{count_of}
use Rattle.board_graph.specs.Sets.{closure, grown_times, is_guard_of, rails_of}
use Rattle.board.specs.declared.board.Board.{Board}
use Rattle.board.specs.Valid.{IsValid}
use Rattle.rail_state.proofs.Members.{Contains-from_filter}
use Rattle.rows.specs.declared.call.Call.{Call}
use Rattle.rows.specs.declared.call.Call.TheVariants.{Open, Close, Enable, Disable, Set, Load, Get, IsOn, ModeOf, ListSel, Supported, Listen, Events, Suspend, Resume, ReleaseBoot}
use Rattle.rows.specs.Row.{NamesRail}
use Rattle.plain_board.specs.declared.plain.Plain.{Plain}
use Rattle.plain_board.specs.Handles.{Entry, count_own, is_own, open_of, own}
use Rattle.plain_board.specs.Inv.{Inv, IsSoundEntry}
use Rattle.plain_board.specs.Refusals.{most_handles}
use Rattle.plain_board.specs.Seen.{alone, needs, needs_of_open}
use Rattle.rail_ops.proofs.Found.{found_has, some_of}
use Rattle.rail_ops.proofs.Ready.{of_graph}

-- the one element of a list
sole : (r i : ℕ) → Contains (r ∷ []) i → i ≡ r
sole r i has = All-contains (λ k. k ≡ r) (r ∷ []) i (All-cons (λ k. k ≡ r) r [] refl (All-nil (λ k. k ≡ r))) has

module _ (board : Board) (valid : IsValid board) where
  sole_within : (r i : ℕ) → r < length board.rails → Contains (r ∷ []) i → Contains (rails_of board.graph) i
  sole_within r i inside has = subst (Contains (rails_of board.graph)) (sym (sole r i has)) (of_graph board valid r inside)

  grown_within : (takes : ℕ → ℕ → Bool) (r : ℕ) → r < length board.rails → (n i : ℕ) → Contains (grown_times board.graph takes (r ∷ []) n) i → Contains (rails_of board.graph) i
  grown_within takes r inside zero i has = sole_within r i inside has
  grown_within takes r inside (suc n) i has = (Contains-from_filter _ (rails_of board.graph) i has).0

  module _ (plain : Plain) (inv : Inv board plain) (worker i : ℕ) where
    own_inside : (name : List ℕ) (r : ℕ) → own plain worker name ≡ Some r → r < length board.rails
    own_inside name r is =
        let some = some_of (λ (entry : Entry). entry.0.0) (open_of plain.handles worker name) r is in
        let sound = found_has (IsSoundEntry board plain) (is_own worker name) plain.handles some.0 inv.kept.opens some.1 in
        subst (λ (k : ℕ). k < length board.rails) some.2 sound.rail

    of_open : (rails : ℕ → List ℕ) → ((r : ℕ) → r < length board.rails → Contains (rails r) i → Contains (rails_of board.graph) i) → (name : List ℕ) → Contains (needs_of_open rails plain worker name) i → Contains (rails_of board.graph) i
    of_open rails each name has = by (own plain worker name) refl has where
      by : (o : Option ℕ) → own plain worker name ≡ o → Contains (option_map_or rails o []) i → Contains (rails_of board.graph) i
      by None none has = absurd (omega (arith, has.1))
      by (Some r) is has = each r (own_inside name r is) has

    alone_within : (name : List ℕ) → Contains (needs_of_open alone plain worker name) i → Contains (rails_of board.graph) i
    alone_within name has = of_open alone (λ r inside has. sole_within r i inside has) name has

    closure_within : (name : List ℕ) → Contains (needs_of_open (closure board.graph) plain worker name) i → Contains (rails_of board.graph) i
    closure_within name has = of_open (closure board.graph) (λ r inside has. grown_within (is_guard_of board.graph) r inside (count_of board.graph) i has) name has

    open_within : (r : ℕ) → r < length board.rails → (t : Bool) → Contains (cond t [] (r ∷ [])) i → Contains (rails_of board.graph) i
    open_within r inside true has = absurd (omega (arith, has.1))
    open_within r inside false has = sole_within r i inside has

    pub needs_within : (call : Call) → NamesRail board call → Contains (needs board plain worker call) i → Contains (rails_of board.graph) i
    needs_within (Open handle rail exclusive) there has = open_within rail.0 there (is_some (own plain worker handle.bytes) || nat_le most_handles (count_own plain.handles worker)) has
    needs_within (Close handle) there has = alone_within handle.bytes has
    needs_within (Enable handle) there has = closure_within handle.bytes has
    needs_within (Disable handle) there has = closure_within handle.bytes has
    needs_within (Set handle lo hi) there has = closure_within handle.bytes has
    needs_within (Load handle ua) there has = closure_within handle.bytes has
    needs_within (Get handle) there has = alone_within handle.bytes has
    needs_within (IsOn handle) there has = alone_within handle.bytes has
    needs_within (ModeOf handle) there has = alone_within handle.bytes has
    needs_within (ListSel handle sel) there has = alone_within handle.bytes has
    needs_within (Supported handle lo hi) there has = alone_within handle.bytes has
    needs_within (Listen handle) there has = alone_within handle.bytes has
    needs_within (Events handle) there has = alone_within handle.bytes has
    needs_within (Suspend state) there has = has
    needs_within Resume there has = has
    needs_within ReleaseBoot there has = has
