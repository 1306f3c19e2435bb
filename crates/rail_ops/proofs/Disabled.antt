-- What a worker that is ready for a disable holds, and what it sees before and after the enable is given up.
use Rattle.std.proofs.Common.{◌≡◌, ℕ, ◌<◌, Bool, List, [], Option, Some, None, refl, sym, ◌∙◌, subst, length, slice_get, slice_set, All}
use Rattle.std.specs.Prelude.{Contains, position}
use Rattle.std.proofs.lemmas.Option.{slice_get_within}
use Rattle.arrayvec.specs.ArrayString.{ArrayString}
use Rattle.reg_outside.specs.Bus.{Bus}
use Rattle.board_graph.specs.Sets.{closure}
use Rattle.board.specs.declared.board.Board.{Board}
use Rattle.board.specs.declared.write.Write.{Write}
use Rattle.board.specs.Valid.{IsValid}
use Rattle.rail_state.specs.Sight.{IsOwned}
use Rattle.rows.specs.declared.answer.Answer.{Answer}
use Rattle.rows.specs.declared.call.Call.TheVariants.{Disable}
use Rattle.use_counts.specs.Uses.{is_row_of, rail_named}
use Rattle.use_counts.specs.declared.handle_row.HandleRow.{HandleRow}
use Rattle.plain_board.specs.declared.plain.Plain.{Plain}
use Rattle.plain_board.specs.Plan.{chain, chain_off, one_less}
use Rattle.plain_board.specs.Refusals.{refusal}
use Rattle.plain_board.specs.Untied.{CountsNoLoads, IsUntied}
use Rattle.plain_board.proofs.KeptDisable.{given_up}
use Rattle.rail_ops.specs.Exact.{IsExact, IsLeft}
use Rattle.rail_ops.specs.Sight.{Hands, IsReady, MayBe, placed}
use Rattle.rail_ops.specs.Inside.Disabling.{disable_refusal}
use Rattle.rail_ops.specs.Inside.Falling.{Fell, IsSighted, WentDown}
use Rattle.rail_ops.specs.Inside.Raised.{ChangesBook}
use Rattle.rail_ops.specs.Inside.Supplied.{HavePlaces}
use Rattle.rail_ops.proofs.Chains.{chain_held, chain_owned, rail_held}
use Rattle.rail_ops.proofs.Exactly.{exact_refused}
use Rattle.rail_ops.proofs.GivenUp.{fell_exact, left, mine, refusal_calm, seen_refusal, sighted_less, some_enable}
use Rattle.rail_ops.proofs.OneMore.{seen_place, seen_row}
use Rattle.rail_ops.proofs.Ready.{named_inside, needs_are}

module _ (first : Hands) (board : Board) (here : first.board ≡ board) (valid : IsValid board) (untied : IsUntied board) (no_loads : CountsNoLoads board) (names : List (List ℕ × ℕ)) (worker : ℕ) (handle : ArrayString)
    (ready : IsReady (placed first names worker) (Disable handle)) (r : ℕ) (named : rail_named names handle.bytes ≡ Some r) where
  valid_first : IsValid first.board
  valid_first = subst IsValid (sym here) valid

  untied_first : IsUntied first.board
  untied_first = subst IsUntied (sym here) untied

  no_loads_first : CountsNoLoads first.board
  no_loads_first = subst CountsNoLoads (sym here) no_loads

  inside : r < length first.board.rails
  inside = named_inside (placed first names worker) ready.plain ready.may_be first.board refl handle.bytes r named

  pub inside_board : r < length board.rails
  inside_board = subst (λ (b : Board). r < length b.rails) here inside

  holds : (i : ℕ) → Contains (closure first.board.graph r) i → Contains first.rails i
  holds i within = ready.held i (subst (λ (rs : List ℕ). Contains rs i) (sym (needs_are (placed first names worker) ready.plain ready.may_be first.board refl handle.bytes r named (closure first.board.graph))) within)

  -- the rail of the name is held
  pub holds_rail : Contains first.rails r
  holds_rail = rail_held first.board valid_first r inside first.rails holds

  -- so is its chain, and all that guards it
  pub holds_chain : All (λ k. Contains first.rails k) (chain board r)
  holds_chain = subst (λ (b : Board). All (λ k. Contains first.rails k) (chain b r)) here (chain_held first.board valid_first r inside first.rails holds)

  pub owns_chain : All (IsOwned board first.rails) (chain board r)
  owns_chain = subst (λ (b : Board). All (IsOwned b first.rails) (chain b r)) here (chain_owned first.board valid_first r inside first.rails holds)

  pub all_placed : HavePlaces board
  all_placed = subst HavePlaces here ready.may_be.hold.places

  -- the handle is among the rows of the rail
  pub row_seen : (at : ℕ) × (position (is_row_of worker handle.bytes) (first.books r).rows ≡ Some at)
  row_seen = (_, seen_place first names worker handle valid_first untied_first no_loads_first ready.plain ready.may_be r named holds_rail)

  module _ (place : ℕ) (is_place : position (is_row_of worker handle.bytes) (first.books r).rows ≡ Some place) where
    abbrev its_row : (plain : Plain) → MayBe (placed first names worker) plain → HandleRow
    its_row plain may_be = (mine first names worker handle valid_first untied_first no_loads_first plain may_be r named).entry.1

    row_is : (plain : Plain) (may_be : MayBe (placed first names worker) plain) → slice_get (first.books r).rows place ≡ Some (its_row plain may_be)
    row_is plain may_be = seen_row first names worker handle valid_first untied_first no_loads_first plain may_be r named holds_rail place is_place

    pub place_within : place < length (first.books r).rows
    place_within = slice_get_within (first.books r).rows place (its_row ready.plain ready.may_be) (row_is ready.plain ready.may_be)

    module _ (judged : Option Answer) (judges : (row : HandleRow) → slice_get (first.books r).rows place ≡ Some row → judged ≡ disable_refusal (first.books r).suspended row.enables) where
      refusal_is : (plain : Plain) → MayBe (placed first names worker) plain → refusal first.board plain worker (Disable handle) ≡ judged
      refusal_is plain may_be =
          seen_refusal first names worker handle valid_first untied_first no_loads_first plain may_be r named holds_rail ∙ sym (judges (its_row plain may_be) (row_is plain may_be))

      -- a refused disable is exact
      pub refused_so : (said : Answer) → judged ≡ Some said → (bus : Bus) (keep : Bool) (plain : Plain) → MayBe (placed first names worker) plain → IsExact (Disable handle) (placed first names worker) (placed first names worker) bus bus keep said [] plain
      refused_so said is bus keep plain may_be =
          exact_refused (placed first names worker) (Disable handle) bus keep said
          (refusal_calm (first.books r).suspended (its_row plain may_be).enables said (sym (judges (its_row plain may_be) (row_is plain may_be)) ∙ is))
          plain may_be (refusal_is plain may_be ∙ is) (placed first names worker) may_be

      module _ (free : judged ≡ None) where
        pub has_enable : (row : HandleRow) → slice_get (first.books r).rows place ≡ Some row → 0 < row.enables
        has_enable row is = some_enable (first.books r).suspended row.enables (sym (judges row is) ∙ free)

        module _ (mid : Hands) (gives : (row : HandleRow) → slice_get (first.books r).rows place ≡ Some row → ChangesBook r (record (first.books r) { rows = slice_set (first.books r).rows place (one_less row) }) first mid) where
          -- the plain board without the enable is seen
          pub sighted_so : (plain : Plain) → MayBe (placed first names worker) plain → IsSighted mid (given_up plain worker handle)
          sighted_so plain may_be =
              sighted_less first names worker handle valid_first untied_first no_loads_first plain may_be r named holds_rail place is_place mid (gives (its_row plain may_be) (row_is plain may_be))

          mid_board : mid.board ≡ first.board
          mid_board = (gives (its_row ready.plain ready.may_be) (row_is ready.plain ready.may_be)).board

          module _ (after : Hands) (same : after.board ≡ mid.board) (bus bus' : Bus) (plain : Plain) (may_be : MayBe (placed first names worker) plain) where
            abbrev less : Plain
            less = given_up plain worker handle

            at_board : mid.board ≡ board
            at_board = mid_board ∙ here

            -- a disable whose chain went down is exact
            pub exact_so : (keep : Bool) (said : Answer) (writes : List Write) → Fell mid after bus bus' keep said writes less (chain_off mid.board less (chain board r))
                → IsExact (Disable handle) (placed first names worker) (placed after names worker) bus bus' keep said writes plain
            exact_so keep said writes fell =
                fell_exact first names worker handle valid_first untied_first no_loads_first plain may_be r named (refusal_is plain may_be ∙ free) mid after mid_board (same ∙ mid_board) bus bus' keep said writes
                (subst (λ (b : Board). Fell mid after bus bus' keep said writes less (chain_off mid.board less (chain b r))) (sym at_board) fell)

            -- and one is left so where the memory was out on the way
            pub left_so : (made : ℕ) → WentDown mid after bus bus' made None less (chain_off mid.board less (chain board r)) → IsLeft (Disable handle) (placed first names worker) (placed after names worker) bus bus' plain
            left_so made went =
                left first names worker handle valid_first untied_first no_loads_first plain may_be r named (refusal_is plain may_be ∙ free) mid after mid_board (same ∙ mid_board) bus bus' made
                (subst (λ (b : Board). WentDown mid after bus bus' made None less (chain_off mid.board less (chain b r))) (sym at_board) went)
