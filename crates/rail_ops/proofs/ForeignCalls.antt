-- No call on a handle changes what is in no field of the board.
use Rattle.std.proofs.Common.{◌≡◌, ℕ, ◌≤◌, List, [], ◌∷◌, Option, Some, None, refl, sym, ap, ◌∙◌, subst, arith, map, length, reverse, take, slice_get, All, Contains}
use Rattle.std.specs.Prelude.{IfSome, option_and_then}
use Rattle.std.specs.Option.{option_map_or}
use Rattle.std.proofs.lemmas.List.Elements.{All-cons, All-head, All-nil, All-tail, All-take}
use Rattle.std.proofs.lemmas.Option.{same_Some}
use Rattle.chip_regs.specs.declared.field.Field.{Field}
use Rattle.chip_regs.specs.Field.{FitsField}
use Rattle.chip_regs.proofs.Fields.{IsImage-with_field, length-with_field}
use Rattle.board.specs.declared.board.Board.{Board}
use Rattle.board.specs.declared.part.Part.TheVariants.{Enable as EnableBit, Selector}
use Rattle.board.specs.declared.rail.Rail.{Rail}
use Rattle.board.specs.Desc.{HoldsSelectors}
use Rattle.board.specs.Rail.{allowed, part_field, uv}
use Rattle.board.specs.Valid.{IsSoundRail, IsValid}
use Rattle.rail_law.specs.Moves.{Move, after_moves, field_of_move, selector_for, written}
use Rattle.rail_law.specs.Way.{move_of}
use Rattle.rows.specs.declared.answer.Answer.{Answer}
use Rattle.rows.specs.declared.call.Call.{Call}
use Rattle.rows.specs.declared.call.Call.TheVariants.{Close, Disable, Enable, Get, IsOn, Open, ReleaseBoot, Set}
use Rattle.plain_board.specs.declared.plain.Plain.{Plain}
use Rattle.plain_board.specs.Answer.{answer, answered, done, kept_request, settled, stopped, with_changed, with_request}
use Rattle.plain_board.specs.Handles.{open_of}
use Rattle.plain_board.specs.Moved.{after_first}
use Rattle.plain_board.specs.Plan.{always_holds, chain, chain_off, changed, moves_of_call, one_less, sweep_off, switch}
use Rattle.plain_board.specs.Refusals.{refusal}
use Rattle.plain_board.specs.Switched.{off_rails}
use Rattle.plain_board.specs.Untied.{CountsNoLoads, HoldFields, IsHandleCall, IsUntied}
use Rattle.plain_board.proofs.Grown.{after_first-grown}
use Rattle.plain_board.proofs.KeptDisable.{disable_moves_are, disable_not_refused}
use Rattle.plain_board.proofs.KeptEnable.{enable_moves_are, enable_not_refused}
use Rattle.plain_board.proofs.MovedAlone.{all_at}
use Rattle.plain_board.proofs.RailMoves.{moves_to}
use Rattle.plain_board.proofs.SetMoves.{set_not_refused}
use Rattle.plain_board.proofs.SwitchMoves.{chain_switches, rails_of_moves, sweep_switches}
use Rattle.plain_board.proofs.ValuesTo.{values_to, values_to-stops}
use Rattle.rail_ops.specs.Foreign.{foreign}
use Rattle.rail_ops.proofs.AloneFields.{can_put}
use Rattle.rail_ops.proofs.Answered.{for_each}
use Rattle.rail_ops.proofs.ForeignLaws.{foreign_put}
use Rattle.rail_ops.proofs.Selectors.{selector_fits}

-- the number of a move has room in its field
abbrev HasRoom : Board → Move → Type 0
HasRoom board move = (field : Field) → field_of_move board move ≡ Some field → FitsField field move.bits

module _ (board : Board) (valid : IsValid board) where
  record StaysForeign (first after : List (List ℕ)) : Type 0 where
    hold : HoldFields board after
    chips : length after ≡ board.chips
    foreign_same : foreign board after ≡ foreign board first

  one_move : (move : Move) (regs : List (List ℕ)) → HasRoom board move → HoldFields board regs → length regs ≡ board.chips → StaysForeign regs (written (field_of_move board move) regs move.bits)
  one_move move regs room hold chips = by (field_of_move board move) refl where
    by : (o : Option Field) → field_of_move board move ≡ o → StaysForeign regs (written o regs move.bits)
    by None none = record { hold = hold; chips = chips; foreign_same = refl }
    by (Some field) is =
        let can = can_put board valid regs hold chips move.rail.0 move.part field move.bits is (room field is) in
        record {
          hold = record { image = IsImage-with_field regs field move.bits can; places = hold.places };
          chips = length-with_field regs field move.bits ∙ chips;
          foreign_same = foreign_put board valid regs hold chips move.rail.0 move.part field move.bits is (room field is);
        }

  some_moves : (moves : List Move) (regs : List (List ℕ)) → All (HasRoom board) moves → HoldFields board regs → length regs ≡ board.chips → foreign board (after_moves board regs moves) ≡ foreign board regs
  some_moves [] regs room hold chips = refl
  some_moves (move ∷ moves) regs room hold chips =
      let first = one_move move regs (All-head (HasRoom board) move moves room) hold chips in
      some_moves moves (written (field_of_move board move) regs move.bits) (All-tail (HasRoom board) move moves room) first.hold first.chips ∙ first.foreign_same

  -- an on bit has room
  on_bit_fits : (bits : ℕ) → bits ≤ 1 → (r : ℕ) → HasRoom board (switch bits r)
  on_bit_fits bits one_bit r field is = by (slice_get board.rails r) refl is where
    by : (o : Option Rail) → slice_get board.rails r ≡ o → option_and_then (part_field EnableBit) o ≡ Some field → FitsField field bits
    by None none is = absurd (cc)
    by (Some rail) at is =
        let own : IsSoundRail board.chips rail = all_at (IsSoundRail board.chips) board.rails r rail valid.sound.rails at in
        subst (λ (f : Field). FitsField f bits) (same_Some rail.desc.enable field is) (omega (arith, own.desc.enable, one_bit))

  switches_fit : (bits : ℕ) → bits ≤ 1 → (rails : List ℕ) → All (HasRoom board) (map (switch bits) rails)
  switches_fit bits one_bit [] = All-nil (HasRoom board)
  switches_fit bits one_bit (r ∷ rest) = All-cons (HasRoom board) (switch bits r) (map (switch bits) rest) (on_bit_fits bits one_bit r) (switches_fit bits one_bit rest)

  -- and so has the selector of a value that the rail may stand at
  step_fits : (r : ℕ) (rail : Rail) → slice_get board.rails r ≡ Some rail → (v : ℕ) → Contains (allowed rail) v → HasRoom board (move_of board (r, v))
  step_fits r rail at v has field is =
      let own : IsSoundRail board.chips rail = all_at (IsSoundRail board.chips) board.rails r rail valid.sound.rails at in
      let there : rail.desc.selector ≡ Some field = sym (ap (option_and_then (part_field Selector)) at) ∙ is in
      let holds : HoldsSelectors rail.desc.table field = subst (λ o. IfSome o (HoldsSelectors rail.desc.table)) there own.desc.selector in
      subst (FitsField field) (sym (ap (λ (o : Option Rail). option_map_or (λ a. selector_for a v) o 0) at)) (selector_fits rail field holds v has)

  steps_fit : (r : ℕ) (rail : Rail) → slice_get board.rails r ≡ Some rail → (vs : List ℕ) → All (Contains (allowed rail)) vs → All (HasRoom board) (moves_to board r vs)
  steps_fit r rail at [] all = All-nil (HasRoom board)
  steps_fit r rail at (v ∷ vs) all =
      All-cons (HasRoom board) (move_of board (r, v)) (moves_to board r vs) (step_fits r rail at v (All-head (Contains (allowed rail)) v vs all))
      (steps_fit r rail at vs (All-tail (Contains (allowed rail)) v vs all))

  module _ (untied : IsUntied board) (no_loads : CountsNoLoads board) (plain : Plain) (hold : HoldFields board plain.regs) (chips : length plain.regs ≡ board.chips) (worker : ℕ) where
    all_fit : (call : Call) → IsHandleCall call → refusal board plain worker call ≡ None → All (HasRoom board) (moves_of_call board plain worker call)
    all_fit (Open handle rail exclusive) is free = All-nil (HasRoom board)
    all_fit (Close handle) is free = All-nil (HasRoom board)
    all_fit (Get handle) is free = All-nil (HasRoom board)
    all_fit (IsOn handle) is free = All-nil (HasRoom board)
    all_fit (Enable handle) is free =
        let enable = enable_not_refused board plain worker handle free in
        subst (All (HasRoom board)) (sym (enable_moves_are board no_loads plain worker handle enable.on))
        (switches_fit 1 (omega arith) (off_rails board plain.regs (reverse (chain board enable.on.entry.0.0))))
    all_fit (Disable handle) is free =
        let on = disable_not_refused board plain worker handle free in
        let given_up : Plain = record plain { handles = changed plain worker handle.bytes one_less } in
        subst (All (HasRoom board)) (sym (disable_moves_are board no_loads plain worker handle on ∙ chain_switches board given_up (chain board on.entry.0.0)))
        (switches_fit 0 (omega arith) (rails_of_moves (chain_off board given_up (chain board on.entry.0.0))))
    all_fit ReleaseBoot is free =
        let released : Plain = record plain { holds = always_holds board plain.holds } in
        subst (All (HasRoom board)) (sym (sweep_switches board released (reverse board.order)))
        (switches_fit 0 (omega arith) (rails_of_moves (sweep_off board released (reverse board.order))))
    all_fit (Set handle lo hi) is free =
        let set = set_not_refused board valid.sound untied plain worker handle lo hi free in
        subst (All (HasRoom board)) (sym set.moves)
        (steps_fit set.on.entry.0.0 set.on.rail set.on.there (values_to (allowed set.on.rail) set.goal (uv set.on.rail plain.regs))
        (λ k d within. let stop = values_to-stops (allowed set.on.rail) set.goal set.among (uv set.on.rail plain.regs) k d within in stop.among))
    all_fit call is free = absurd is

    -- the registers that a call leaves are those after its moves
    done_regs : (call : Call) → IsHandleCall call → (now : Plain) → (done board now worker call).regs ≡ now.regs
    done_regs (Open handle rail exclusive) is now = refl
    done_regs (Close handle) is now = refl
    done_regs (Enable handle) is now = refl
    done_regs (Disable handle) is now = refl
    done_regs (Set handle lo hi) is now = refl
    done_regs (Get handle) is now = refl
    done_regs (IsOn handle) is now = refl
    done_regs ReleaseBoot is now = refl
    done_regs call is now = absurd is

    stopped_regs : (call : Call) → IsHandleCall call → (now : Plain) → (stopped board now worker call).regs ≡ now.regs
    stopped_regs (Open handle rail exclusive) is now = refl
    stopped_regs (Close handle) is now = refl
    stopped_regs (Enable handle) is now = refl
    stopped_regs (Disable handle) is now = refl
    stopped_regs (Set handle lo hi) is now =
        for_each board (λ (p : Plain). p.regs ≡ now.regs) now (λ id rail row. with_changed now worker handle (with_request (kept_request (uv rail now.regs) row.request))) refl (λ id rail row. refl)
        (open_of now.handles worker handle.bytes)
    stopped_regs (Get handle) is now = refl
    stopped_regs (IsOn handle) is now = refl
    stopped_regs ReleaseBoot is now = refl
    stopped_regs call is now = absurd is

    first_moves : (call : Call) → IsHandleCall call → refusal board plain worker call ≡ None → (made : ℕ) → foreign board (after_first board plain made (moves_of_call board plain worker call)).regs ≡ foreign board plain.regs
    first_moves call is free made =
        ap (foreign board) (after_first-grown board plain made (moves_of_call board plain worker call)).regs_are
        ∙ some_moves (take made (moves_of_call board plain worker call)) plain.regs (All-take (HasRoom board) made (moves_of_call board plain worker call) (all_fit call is free)) hold chips

    settled_foreign : (call : Call) → IsHandleCall call → refusal board plain worker call ≡ None → (stop : Option ℕ)
        → foreign board (settled board plain worker call (moves_of_call board plain worker call) stop).1.regs ≡ foreign board plain.regs
    settled_foreign call is free None =
        let moves = moves_of_call board plain worker call in
        ap (foreign board) (done_regs call is (after_first board plain (length moves) moves)) ∙ first_moves call is free (length moves)
    settled_foreign call is free (Some made) =
        ap (foreign board) (stopped_regs call is (after_first board plain made (moves_of_call board plain worker call))) ∙ first_moves call is free made

    pub foreign_stays : (call : Call) → IsHandleCall call → (stop : Option ℕ) → foreign board (answer board plain worker call stop).1.regs ≡ foreign board plain.regs
    foreign_stays call is stop = by (refusal board plain worker call) refl where
      by : (o : Option Answer) → refusal board plain worker call ≡ o → foreign board (answered board plain worker call stop o).1.regs ≡ foreign board plain.regs
      by None free = settled_foreign call is free stop
      by (Some said) refused = refl
