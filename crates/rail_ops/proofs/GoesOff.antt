-- A rail of which none that it supplies is seen to be on may be switched off, and what that changes before the worker.
use Rattle.std.proofs.Common.{◌≡◌, ℕ, ◌-◌, ◌<◌, false, List, [], ◌∷◌, ◌++◌, Some, refl, sym, ap, ◌∙◌, subst, arith, length, append_assoc, eqb, slice_get}
use Rattle.std.specs.Prelude.{Contains, IfSome, option_map, option_and_then}
use Rattle.std.specs.Option.{option_map_or}
use Rattle.std.proofs.lemmas.Bool.{eq-eqb, eqb-true, false_from_ne_true, or_left}
use Rattle.std.proofs.lemmas.Option.{slice_get_within}
use Rattle.chip_regs.specs.declared.field.Field.{Field}
use Rattle.chip_regs.specs.Field.{FitsField}
use Rattle.board_graph.specs.Graph.{supply_at}
use Rattle.board_graph.specs.Sets.{is_guard_of, rails_of}
use Rattle.board.specs.declared.board.Board.{Board}
use Rattle.board.specs.declared.event.Event.{Event}
use Rattle.board.specs.declared.event.Event.TheVariants.{AbortDisable, Disable, PreDisable}
use Rattle.board.specs.declared.part.Part.TheVariants.{Enable as EnableBit}
use Rattle.board.specs.declared.rail.Rail.{Rail}
use Rattle.board.specs.declared.rail_id.RailId.{RailId}
use Rattle.board.specs.Fields.{field_at}
use Rattle.board.specs.Rail.{part_field}
use Rattle.board.specs.Valid.{IsValid}
use Rattle.rail_law.specs.Law.{Law}
use Rattle.rail_law.specs.Moves.{written}
use Rattle.rail_state.specs.Sight.{IsGuarded, KeepsLaw}
use Rattle.rail_state.proofs.Members.{Contains-filter}
use Rattle.use_counts.specs.Book.{Book}
use Rattle.plain_board.specs.Untied.{IsUntied, HoldFields}
use Rattle.plain_board.proofs.Switches.{nothing_switched, IsSwitching, after_switch, switch_off, law_switched}
use Rattle.rail_ops.specs.Sight.{Hands}
use Rattle.rail_ops.specs.Inside.Falling.{MayGoOff}
use Rattle.rail_ops.specs.Inside.Raised.{ChangesBook, ChangesVotes, PutsBit, SwitchesOff}
use Rattle.rail_ops.specs.Inside.Supplied.{HavePlaces}
use Rattle.rail_ops.proofs.Ready.{of_graph}
use Rattle.rail_ops.proofs.Stepped.{supply_apart, supply_read}
use Rattle.rail_ops.proofs.Upheld.{enable_has_room, for_supply}

-- a rail that is held guards those that it supplies
pub guards_supplied : (board : Board) → IsValid board → (rails : List ℕ) (r lower : ℕ) → r < length board.rails → Contains rails r → supply_at board.graph lower ≡ Some r → IsGuarded board rails lower
guards_supplied board valid rails r lower inside held supplied = (
  r,
  held,
  Contains-filter (λ i. is_guard_of board.graph i lower) (rails_of board.graph) r (of_graph board valid r inside)
      (or_left _ _ (ap (λ o. option_map_or (eqb r) o false) supplied ∙ eq-eqb r r refl)),
)

-- whatever stands in the fields that can't be seen, the law holds once the rail is off
module _ (hands : Hands) (valid : IsValid hands.board) (untied : IsUntied hands.board) (places : HavePlaces hands.board) (r : ℕ) (rail : Rail) (at : slice_get hands.board.rails r ≡ Some rail) (held : Contains hands.rails r) (free : MayGoOff hands r) where
  keeps_law : KeepsLaw hands.board hands.rails hands.bits rail.desc.enable 0
  keeps_law regs image chips look law =
      let hold : HoldFields hands.board regs = record { image = image; places = places } in
      let state : IsSwitching hands.board regs (λ i. ⊥) regs = record {
        only = nothing_switched hands.board valid.sound regs chips hold;
        supplies = law.supplies;
        needed = λ i a a_at none. absurd none;
      } in
      let next = switch_off hands.board valid.sound regs chips hold (λ i. ⊥) r regs state (λ lower b supplies b_at.
      let seen = look lower EnableBit b.desc.enable (guards_supplied hands.board valid hands.rails r lower (slice_get_within hands.board.rails r rail at) held supplies) (ap (option_and_then (part_field EnableBit)) b_at) in
      false_from_ne_true _ (λ on. free.below lower (slice_get_within hands.board.rails lower b b_at) supplies (sym seen ∙ eqb-true _ 1 on))) (λ none. none) in
      subst (Law hands.board) (ap (λ o. written (option_and_then (part_field EnableBit) o) regs 0) at)
      (law_switched hands.board regs (after_switch hands.board 0 r regs) next.only untied law next.supplies)

  pub may_lower : (field : Field) × (field_at hands.board r EnableBit ≡ Some field) × FitsField field 0 × KeepsLaw hands.board hands.rails hands.bits field 0
  may_lower = let room = enable_has_room hands.board valid r rail at in (rail.desc.enable, ap (option_and_then (part_field EnableBit)) at, omega (arith, room), keeps_law)

-- it may as well once its own book has changed
pub free_still : (before after : Hands) (r : ℕ) (book : Book) → IsValid before.board → r < length before.board.rails → ChangesBook r book before after → MayGoOff before r → MayGoOff after r
free_still before after r book valid inside changes free = record {
  below = λ lower within supplied on.
      free.below lower (subst (λ (b : Board). lower < length b.rails) changes.board within) (ap (λ (b : Board). supply_at b.graph lower) (sym changes.board) ∙ supplied)
      (sym (changes.bits lower EnableBit) ∙ on);
  supply = λ s is.
      let was : supply_at before.board.graph r ≡ Some s = ap (λ (b : Board). supply_at b.graph r) (sym changes.board) ∙ is in
      let voted = free.supply s was in
      record {
        held = subst (λ (rs : List ℕ). Contains rs s) (sym changes.rails) voted.held;
        some = subst (λ (b : Book). 0 < b.votes) (sym (changes.others s (supply_apart before.board valid r s inside was))) voted.some;
      };
}

-- a rail whose on bit was cleared, that told of it and whose supply lost its vote, was switched off
module _ (first told down : Hands) (valid : IsValid first.board) (r : ℕ) (rail : Rail) (at : slice_get first.board.rails r ≡ Some rail)
    (tells : ChangesBook r (record (first.books r) { events = (first.books r).events ++ PreDisable ∷ AbortDisable ∷ [] }) first told) (lowers : PutsBit 0 r told down) where
  inside : r < length first.board.rails
  inside = slice_get_within first.board.rails r rail at

  read : supply_at first.board.graph r ≡ option_map (λ (id : RailId). id.0) rail.supply
  read = supply_read first.board valid r rail at

  pub told_last : (down.books r).events ≡ ((first.books r).events ++ PreDisable ∷ []) ++ AbortDisable ∷ []
  told_last = ap (λ (b : Book). b.events) (lowers.books r ∙ tells.own) ∙ sym (append_assoc (first.books r).events (PreDisable ∷ []) (AbortDisable ∷ []))

  module _ (again : Hands) (retells : ChangesBook r (record (down.books r) { events = ((first.books r).events ++ PreDisable ∷ []) ++ Disable ∷ [] }) down again) where
    other : (s : ℕ) → option_map (λ (id : RailId). id.0) rail.supply ≡ Some s → again.books s ≡ first.books s
    other s is = let apart = supply_apart first.board valid r s inside (read ∙ is) in retells.others s apart ∙ lowers.books s ∙ tells.others s apart

    pub unvotes_held : MayGoOff first r → IfSome rail.supply (λ s. Contains again.rails s.0)
    unvotes_held free =
        for_supply (λ s. Contains again.rails s) rail.supply (λ s is. subst (λ (rs : List ℕ). Contains rs s) (sym (retells.rails ∙ lowers.rails ∙ tells.rails)) (free.supply s (read ∙ is)).held)

    pub unvotes_some : MayGoOff first r → IfSome rail.supply (λ s. 0 < (again.books s.0).votes)
    unvotes_some free =
        for_supply (λ s. 0 < (again.books s).votes) rail.supply (λ s is. subst (λ (b : Book). 0 < b.votes) (sym (other s is)) (free.supply s (read ∙ is)).some)

    pub switched_off : (last : Hands) → ChangesVotes (λ votes. votes - 1) rail.supply again last → SwitchesOff r first last
    switched_off last drops = record {
      board = drops.board ∙ retells.board ∙ lowers.board ∙ tells.board;
      rails = drops.rails ∙ retells.rails ∙ lowers.rails ∙ tells.rails;
      own = drops.bits r EnableBit ∙ retells.bits r EnableBit ∙ lowers.own;
      others = λ i part apart. drops.bits i part ∙ retells.bits i part ∙ lowers.others i part apart ∙ tells.bits i part;
      told =
          drops.others r (λ own. supply_apart first.board valid r r inside (read ∙ own) refl) ∙ retells.own
          ∙ ap (λ (b : Book). record b { events = ((first.books r).events ++ PreDisable ∷ []) ++ Disable ∷ [] }) (lowers.books r ∙ tells.own)
          ∙ ap (λ (events : List Event). record (first.books r) { events = events }) (append_assoc (first.books r).events (PreDisable ∷ []) (Disable ∷ []));
      supply = λ s is.
          drops.own s (sym read ∙ is) ∙ ap (λ (b : Book). record b { votes = b.votes - 1 }) (other s (sym read ∙ is));
      rest = λ i apart not_it. drops.others i (λ it. not_it (read ∙ it)) ∙ retells.others i apart ∙ lowers.books i ∙ tells.others i apart;
    }
