-- An enable keeps what holds of a plain board, whether it is done or stopped on its way.
use Rattle.std.proofs.Common.{◌≡◌, ℕ, ◌+◌, ◌≤◌, Bool, true, false, not, cond, List, [], ◌∷◌, ◌++◌, Option, Some, None, inl, inr, refl, sym, ap, ◌∙◌, subst, arith, length, get_or, map, filter, take, reverse, slice_get, All}
use Rattle.std.specs.Prelude.{◌==◌, option_and_then}
use Rattle.std.specs.Option.{option_map_or}
use Rattle.std.proofs.lemmas.Bool.{cases_eq, eq-eqb, both_ways}
use Rattle.std.proofs.lemmas.List.{map-append, reverse-append}
use Rattle.std.proofs.lemmas.List.Elements.{filter_agree}
use Rattle.arrayvec.specs.ArrayString.{ArrayString}
use Rattle.board.specs.declared.board.Board.{Board}
use Rattle.board.specs.declared.part.Part.TheVariants.{Enable as EnableBit}
use Rattle.board.specs.declared.rail.Rail.{Rail}
use Rattle.board.specs.declared.rail_id.RailId.{RailId}
use Rattle.board.specs.Rail.{is_on, part_field}
use Rattle.board.specs.Valid.{IsValid}
use Rattle.rail_law.specs.Moves.{Move, field_of_move, after_moves}
use Rattle.rows.specs.declared.answer.Answer.TheVariants.{CountFull, Suspended}
use Rattle.rows.specs.declared.call.Call.TheVariants.{Enable}
use Rattle.use_counts.specs.declared.handle_row.HandleRow.{HandleRow}
use Rattle.plain_board.specs.declared.plain.Plain.{Plain}
use Rattle.plain_board.specs.Handles.{Entry, is_own, rows_on, with_row, on_rail, for_open}
use Rattle.plain_board.specs.Counts.{load_sum}
use Rattle.plain_board.specs.Plan.{switch, chain, changed, one_more, is_other, changing, mode_moves, enable_moves, moves_of_call}
use Rattle.plain_board.specs.Answer.{with_changed, settled}
use Rattle.plain_board.specs.Inv.{Inv}
use Rattle.plain_board.specs.Moved.{after_first}
use Rattle.plain_board.specs.Refusals.{Reason, most_enables, overloads, refusal}
use Rattle.plain_board.specs.Switched.{is_off}
use Rattle.plain_board.specs.Untied.{IsUntied, HoldFields, CountsNoLoads}
use Rattle.plain_board.proofs.CallKeeps.{KeepsAll, all_taken, after_first_moves, switching_lawful, switching_fields}
use Rattle.plain_board.proofs.ChangedRow.{KeepsName, IsOwn, rows_no_more}
use Rattle.plain_board.proofs.Grown.{HasGrown, after_first-grown}
use Rattle.plain_board.proofs.GrownLists.{lists_grown, lists_changed}
use Rattle.plain_board.proofs.KeptSwitched.{kept_on_same, inv_switched}
use Rattle.plain_board.proofs.OwnHandle.{own_is_only}
use Rattle.plain_board.proofs.SetMoves.{first_fails, IsOpenOn, open_not_refused}
use Rattle.plain_board.proofs.SwitchedOff.{is_kept_on, KeptOn}
use Rattle.plain_board.proofs.SwitchedOn.{WasOn, IsComingUp, on_moves, ComesUp, chain_comes_up}

reverse-map : {A B : Type 0} (f : A → B) (xs : List A) → reverse (map f xs) ≡ map f (reverse xs)
reverse-map f [] = refl
reverse-map f (x ∷ xs) =
    reverse-append (f x ∷ []) (map f xs) ∙ ap (λ ys. ys ++ f x ∷ []) (reverse-map f xs)
    ∙ sym (map-append f (reverse xs) (x ∷ [])) ∙ ap (map f) (sym (reverse-append (x ∷ []) xs))

filter-map : {A B : Type 0} (p : B → Bool) (f : A → B) (xs : List A) → filter p (map f xs) ≡ map f (filter (λ x. p (f x)) xs)
filter-map p f [] = refl
filter-map p f (x ∷ xs) = by (p (f x)) (filter-map p f xs) where
  by : (t : Bool) → filter p (map f xs) ≡ map f (filter (λ y. p (f y)) xs) → cond t (f x ∷ filter p (map f xs)) (filter p (map f xs)) ≡ map f (cond t (x ∷ filter (λ y. p (f y)) xs) (filter (λ y. p (f y)) xs))
  by true rest = ap (λ ys. f x ∷ ys) rest
  by false rest = rest

-- where loads choose no mode an enable writes no mode
pub no_mode_moves : (board : Board) → CountsNoLoads board → (id : RailId) (r : ℕ) (rail : Rail) (sum : ℕ) → slice_get board.rails r ≡ Some rail → mode_moves id rail sum ≡ []
no_mode_moves board no_loads id r rail sum at = rw (no_loads r rail at) refl

-- a rail is switched on exactly if it is off
changes_off : (board : Board) (regs : List (List ℕ)) (r : ℕ) → is_other regs 1 (field_of_move board (switch 1 r)) ≡ is_off board regs r
changes_off board regs r = by (slice_get board.rails r) where
  by : (o : Option Rail) → is_other regs 1 (option_and_then (part_field EnableBit) o) ≡ option_map_or (λ rail. not (is_on rail regs)) o false
  by None = refl
  by (Some rail) = refl

changing_chain : (board : Board) (regs : List (List ℕ)) (rails : List ℕ) → changing board regs (reverse (map (switch 1) rails)) ≡ on_moves board regs rails
changing_chain board regs rails =
    ap (changing board regs) (reverse-map (switch 1) rails)
    ∙ filter-map (λ move. is_other regs move.bits (field_of_move board move)) (switch 1) (reverse rails)
    ∙ ap (map (switch 1)) (filter_agree (λ r. is_other regs 1 (field_of_move board (switch 1 r))) (is_off board regs) (changes_off board regs) (reverse rails))

-- the moves of an enable of an open handle: the off rails of its chain come up, from above
pub enable_moves_are : (board : Board) → CountsNoLoads board → (plain : Plain) (worker : ℕ) (handle : ArrayString) (on : IsOpenOn board plain.handles worker handle.bytes)
    → moves_of_call board plain worker (Enable handle) ≡ on_moves board plain.regs (chain board on.entry.0.0)
enable_moves_are board no_loads plain worker handle on =
    let counted : List Entry = changed plain worker handle.bytes one_more in
    ap (for_open [] (enable_moves board plain counted) board) on.is_open
    ∙ ap (on_rail [] (enable_moves board plain counted) on.entry) on.there
    ∙ ap (λ moves. changing board plain.regs (moves ++ reverse (map (switch 1) (chain board on.entry.0.0))))
    (no_mode_moves board no_loads on.entry.0 on.entry.0.0 on.rail (load_sum on.rail (rows_on counted on.entry.0.0)) on.there)
    ∙ changing_chain board plain.regs (chain board on.entry.0.0)

module _ (board : Board) (plain : Plain) (worker : ℕ) (handle : ArrayString) where
  abbrev enable_reasons : RailId → Rail → HandleRow → List Reason
  enable_reasons id rail row =
      (plain.suspended, Suspended)
      ∷ (row.enables == most_enables, CountFull most_enables)
      ∷ overloads rail (load_sum rail (rows_on (changed plain worker handle.bytes one_more) id.0)) ∷ []

  -- an enable that isn't refused is of an open handle that can have one enable more
  pub record IsEnable : Type 0 where
    pub on : IsOpenOn board plain.handles worker handle.bytes
    pub not_full : (on.entry.1.enables == most_enables) ≡ false

  pub enable_not_refused : refusal board plain worker (Enable handle) ≡ None → IsEnable
  enable_not_refused none =
      let opened = open_not_refused enable_reasons board plain worker handle.bytes none in
      let row = opened.0.entry.1 in
      let last : Reason = overloads opened.0.rail (load_sum opened.0.rail (rows_on (changed plain worker handle.bytes one_more) opened.0.entry.0.0)) in
      let awake = first_fails plain.suspended Suspended ((row.enables == most_enables, CountFull most_enables) ∷ last ∷ []) opened.1 in
      record { on = opened.0; not_full = (first_fails (row.enables == most_enables) (CountFull most_enables) (last ∷ []) awake.1).0 }

one_more_keeps : KeepsName one_more
one_more_keeps = record { worker = λ row. refl; handle = λ row. refl; request = λ row. refl; cursor = λ row. refl; exclusive = λ row. refl }

module _ (board : Board) (valid : IsValid board) (untied : IsUntied board) (no_loads : CountsNoLoads board) (plain : Plain) (hold : HoldFields board plain.regs) (inv : Inv board plain) (worker : ℕ) (handle : ArrayString) (enable : IsEnable board plain worker handle) where
  abbrev entry : Entry
  entry = enable.on.entry

  abbrev moves : List Move
  moves = moves_of_call board plain worker (Enable handle)

  moves_are : moves ≡ on_moves board plain.regs (chain board entry.0.0)
  moves_are = enable_moves_are board no_loads plain worker handle enable.on

  comes_up : ComesUp board plain.regs (Some entry.0.0) moves
  comes_up =
      subst (ComesUp board plain.regs (Some entry.0.0)) (sym moves_are)
      (chain_comes_up board valid.sound plain.regs inv.kept.regs hold inv.law entry.0.0 enable.on.rail enable.on.there)

  module _ (made : ℕ) where
    abbrev now : Plain
    now = after_first board plain made moves

    grown : HasGrown plain now (after_moves board plain.regs (take made moves)) plain.handles
    grown = after_first-grown board plain made moves

    state : IsComingUp board plain.regs now.regs
    state =
        subst (IsComingUp board plain.regs) (sym grown.regs_are)
        (after_first_moves (IsComingUp board plain.regs) board plain.regs moves made comes_up.throughout)

    -- what was used before is on
    used_before : (i : ℕ) (rail : Rail) → slice_get board.rails i ≡ Some rail → KeptOn plain i → is_on rail now.regs ≡ true
    used_before i rail at some = state.needed i rail at (λ a a_at. inv.used i a a_at (omega (arith, some)))

    inv_stopped : Inv board now
    inv_stopped =
        inv_switched board valid.sound untied no_loads plain inv now state.only state.supplies
        (λ i rail at some. used_before i rail at (omega (arith, some, kept_on_same now plain grown.handles_are grown.holds i)))
        (lists_grown board plain inv.kept now _ grown)

  abbrev last : Plain
  last = now (length moves)

  abbrev new : Plain
  new = with_changed last worker handle one_more

  only_own : All (λ other. is_own worker handle.bytes other ≡ true → other ≡ entry) plain.handles
  only_own = own_is_only worker handle.bytes plain.handles entry inv.kept.apart enable.on.is_open

  -- the rail is on, and elsewhere no more is enabled
  rail_on : (rail : Rail) → slice_get board.rails entry.0.0 ≡ Some rail → is_on rail new.regs ≡ true
  rail_on rail at =
      subst (λ regs. is_on rail regs ≡ true) (sym ((grown (length moves)).regs_are ∙ all_taken board plain.regs moves))
      (comes_up.at_end entry.0.0 rail refl at)

  no_more_elsewhere : (i : ℕ) → (entry.0.0 ≡ i → ⊥) → is_kept_on new i ≤ is_kept_on plain i
  no_more_elsewhere i apart =
      let anew : Plain = record plain { handles = with_row plain.handles worker handle.bytes one_more } in
      let same = kept_on_same new anew (ap (λ handles. with_row handles worker handle.bytes one_more) (grown (length moves)).handles_are) (grown (length moves)).holds i in
      let less = rows_no_more worker handle.bytes one_more (λ row. row.enables) i plain.handles
      (λ k d within own here. absurd (apart (ap (λ (e : Entry). e.0.0) (sym (only_own k d within own)) ∙ here))) in
      omega (arith, same, less)

  few : All (λ other. IsOwn worker handle.bytes one_more other → other.1.enables + 1 ≤ most_enables) plain.handles
  few k d within own =
      let room = (inv.kept.opens k d within).enables in
      let same : (get_or plain.handles k d).1.enables ≡ entry.1.enables = ap (λ (e : Entry). e.1.enables) (only_own k d within own) in
      elim (cases_eq entry.1.enables most_enables) [
        | inl full ↦ absurd (both_ways _ enable.not_full (eq-eqb entry.1.enables most_enables full))
        | inr free ↦ omega (arith, room, same, free)
      ]

  inv_done : Inv board new
  inv_done =
      inv_switched board valid.sound untied no_loads plain inv new (state (length moves)).only (state (length moves)).supplies
      (λ i rail at some. elim (cases_eq entry.0.0 i) [
        | inl same ↦ rail_on rail (ap (slice_get board.rails) same ∙ at)
        | inr apart ↦ used_before (length moves) i rail at (omega (arith, some, no_more_elsewhere i apart))
      ])
      (lists_changed board plain inv.kept last _ (grown (length moves)) worker handle one_more one_more_keeps few)

  inv_settled : (stop : Option ℕ) → Inv board (settled board plain worker (Enable handle) moves stop).1
  inv_settled None = inv_done
  inv_settled (Some made) = inv_stopped made

  fields_settled : (stop : Option ℕ) → HoldFields board (settled board plain worker (Enable handle) moves stop).1.regs
  fields_settled None = switching_fields board plain.regs hold (WasOn board plain.regs) _ (state (length moves))
  fields_settled (Some made) = switching_fields board plain.regs hold (WasOn board plain.regs) _ (state made)

  pub enable_keeps : KeepsAll board plain worker (Enable handle)
  enable_keeps = record {
    law = switching_lawful board untied plain.regs inv.law (WasOn board plain.regs) moves comes_up.throughout;
    inv = inv_settled;
    fields = fields_settled;
  }
