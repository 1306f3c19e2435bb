-- A rail whose supply is held and on may be switched on, and what that changes before the worker.
use Rattle.std.proofs.Common.{◌≡◌, ℕ, ◌+◌, ◌<◌, ◌^◌, List, [], ◌∷◌, ◌++◌, Option, Some, None, refl, sym, ap, ◌∙◌, subst, arith, length, eqb, slice_get}
use Rattle.std.specs.Prelude.{Contains, IfSome, option_map, option_and_then}
use Rattle.std.proofs.lemmas.Option.{slice_get_within}
use Rattle.chip_regs.specs.declared.field.Field.{Field}
use Rattle.chip_regs.specs.Field.{IsField, FitsField}
use Rattle.board_graph.specs.Graph.{supply_at}
use Rattle.board_graph.proofs.SetLaws.{supply_rail}
use Rattle.board.proofs.BoardGraph.{sound_graph}
use Rattle.board.specs.declared.board.Board.{Board}
use Rattle.board.specs.declared.event.Event.TheVariants.{Enable as TellsEnable}
use Rattle.board.specs.declared.part.Part.TheVariants.{Enable as EnableBit}
use Rattle.board.specs.declared.rail.Rail.{Rail}
use Rattle.board.specs.declared.rail_id.RailId.{RailId}
use Rattle.board.specs.Desc.{IsPlaced}
use Rattle.board.specs.Fields.{field_at}
use Rattle.board.specs.Rail.{part_field}
use Rattle.board.specs.Valid.{IsValid, IsSoundRail}
use Rattle.rail_law.specs.Law.{Law}
use Rattle.rail_law.specs.Moves.{written}
use Rattle.rail_state.specs.Sight.{KeepsLaw}
use Rattle.use_counts.specs.Book.{Book}
use Rattle.plain_board.specs.Untied.{IsUntied, HoldFields}
use Rattle.plain_board.proofs.MovedAlone.{all_at}
use Rattle.plain_board.proofs.Switches.{nothing_switched, IsSwitching, after_switch, switch_on, law_switched}
use Rattle.rail_ops.specs.Sight.{Hands}
use Rattle.rail_ops.specs.Inside.Raised.{SwitchesOn, ChangesBook, RaisesBit, AddsVote}
use Rattle.rail_ops.specs.Inside.Supplied.{HavePlaces, HasUpheldSupply}
use Rattle.rail_ops.proofs.Ready.{count_is, guarded}
use Rattle.rail_ops.proofs.Stepped.{supply_apart, supply_read}

-- the supply of a rail is a rail of the board
pub supply_inside : (board : Board) → IsValid board → (r s : ℕ) → supply_at board.graph r ≡ Some s → s < length board.rails
supply_inside board valid r s supplied = subst (λ n. s < n) (count_is board valid) (supply_rail board.graph s r (sound_graph board valid.sound) supplied)

-- the enable field of a rail is a field, with room for 1
module _ (board : Board) (valid : IsValid board) (r : ℕ) (rail : Rail) (at : slice_get board.rails r ≡ Some rail) where
  own_sound : IsSoundRail board.chips rail
  own_sound = all_at (IsSoundRail board.chips) board.rails r rail valid.sound.rails at

  pub enable_is_field : IsField rail.desc.enable
  enable_is_field = let placed : IsPlaced board.chips rail.desc.enable = own_sound.desc.placed EnableBit in placed.shape

  pub enable_has_room : FitsField rail.desc.enable 1
  enable_has_room = let own = own_sound in omega (arith, own.desc.enable)

-- whatever stands in the fields that can't be seen, the law holds once the rail is on
module _ (hands : Hands) (valid : IsValid hands.board) (untied : IsUntied hands.board) (places : HavePlaces hands.board) (r : ℕ) (rail : Rail) (at : slice_get hands.board.rails r ≡ Some rail) (supplied : HasUpheldSupply hands r) where
  keeps_law : KeepsLaw hands.board hands.rails hands.bits rail.desc.enable 1
  keeps_law regs image chips look law =
      let hold : HoldFields hands.board regs = record { image = image; places = places } in
      let state : IsSwitching hands.board regs (λ i. ⊥) regs = record {
        only = nothing_switched hands.board valid.sound regs chips hold;
        supplies = law.supplies;
        needed = λ i a a_at none. absurd none;
      } in
      let next = switch_on hands.board valid.sound regs chips hold (λ i. ⊥) r regs state (λ upper a supplies a_at.
      let upheld = supplied upper supplies in
      let seen = look upper EnableBit a.desc.enable (guarded hands.board valid hands.rails upper (supply_inside hands.board valid r upper supplies) upheld.held) (ap (option_and_then (part_field EnableBit)) a_at) in
      ap (λ n. eqb n 1) (seen ∙ upheld.on)) in
      subst (Law hands.board) (ap (λ o. written (option_and_then (part_field EnableBit) o) regs 1) at)
      (law_switched hands.board regs (after_switch hands.board 1 r regs) next.only untied law next.supplies)

  pub may_raise : (field : Field) × (field_at hands.board r EnableBit ≡ Some field) × FitsField field 1 × KeepsLaw hands.board hands.rails hands.bits field 1
  may_raise = (rail.desc.enable, ap (option_and_then (part_field EnableBit)) at, enable_has_room hands.board valid r rail at, keeps_law)

-- the supply is as able to uphold the rail once the rail's own book has changed
pub upheld_still : (before after : Hands) (r : ℕ) (book : Book) → IsValid before.board → r < length before.board.rails → ChangesBook r book before after → HasUpheldSupply before r → HasUpheldSupply after r
upheld_still before after r book valid inside changes supplied s is =
    let was : supply_at before.board.graph r ≡ Some s = ap (λ (b : Board). supply_at b.graph r) (sym changes.board) ∙ is in
    let upheld = supplied s was in
    record {
      held = subst (λ (rs : List ℕ). Contains rs s) (sym changes.rails) upheld.held;
      on = changes.bits s EnableBit ∙ upheld.on;
      room = subst (λ (b : Book). b.votes + 1 < 2 ^ 32) (sym (changes.others s (supply_apart before.board valid r s inside was))) upheld.room;
    }

-- what is asked of a supply, where there is one
pub for_supply : (P : ℕ → Type 0) (supply : Option RailId) → ((s : ℕ) → option_map (λ (id : RailId). id.0) supply ≡ Some s → P s) → IfSome supply (λ s. P s.0)
for_supply P None all = tt
for_supply P (Some s) all = all s.0 refl

-- a rail that told of it, whose on bit was set and whose supply has its vote, was switched on
module _ (first told up : Hands) (valid : IsValid first.board) (r : ℕ) (rail : Rail) (at : slice_get first.board.rails r ≡ Some rail)
    (tells : ChangesBook r (record (first.books r) { events = (first.books r).events ++ TellsEnable ∷ [] }) first told) (raises : RaisesBit r told up) where
  inside : r < length first.board.rails
  inside = slice_get_within first.board.rails r rail at

  read : supply_at first.board.graph r ≡ option_map (λ (id : RailId). id.0) rail.supply
  read = supply_read first.board valid r rail at

  other : (s : ℕ) → option_map (λ (id : RailId). id.0) rail.supply ≡ Some s → up.books s ≡ first.books s
  other s is = raises.books s ∙ tells.others s (supply_apart first.board valid r s inside (read ∙ is))

  pub votes_held : HasUpheldSupply first r → IfSome rail.supply (λ s. Contains up.rails s.0)
  votes_held supplied =
      for_supply (λ s. Contains up.rails s) rail.supply (λ s is. subst (λ (rs : List ℕ). Contains rs s) (sym (raises.rails ∙ tells.rails)) (supplied s (read ∙ is)).held)

  pub votes_room : HasUpheldSupply first r → IfSome rail.supply (λ s. (up.books s.0).votes + 1 < 2 ^ 32)
  votes_room supplied =
      for_supply (λ s. (up.books s).votes + 1 < 2 ^ 32) rail.supply (λ s is. subst (λ (b : Book). b.votes + 1 < 2 ^ 32) (sym (other s is)) (supplied s (read ∙ is)).room)

  pub switched_on : (last : Hands) → AddsVote rail.supply up last → SwitchesOn r first last
  switched_on last adds = record {
    board = adds.board ∙ raises.board ∙ tells.board;
    rails = adds.rails ∙ raises.rails ∙ tells.rails;
    own = adds.bits r EnableBit ∙ raises.own;
    others = λ i part apart. adds.bits i part ∙ raises.others i part apart ∙ tells.bits i part;
    told = adds.others r (λ own. supply_apart first.board valid r r inside (read ∙ own) refl) ∙ raises.books r ∙ tells.own;
    supply = λ s is.
        adds.own s (sym read ∙ is) ∙ ap (λ (b : Book). record b { votes = b.votes + 1 }) (other s (sym read ∙ is));
    rest = λ i apart not_it. adds.others i (λ it. not_it (read ∙ it)) ∙ raises.books i ∙ tells.others i apart;
  }
