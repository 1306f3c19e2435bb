-- What the moves of a board's one rail leave, and what is answered of them.
use Rattle.std.proofs.Common.{◌≡◌, ℕ, ◌<◌, zero, suc, Bool, true, false, cond, eqb, eq-eqb, List, [], ◌∷◌, ◌++◌, Option, Some, None, refl, sym, ap, ◌∙◌, arith, map, length, take, flat_map}
use Rattle.std.specs.Prelude.{All, option_to_list, slice_get, unwrap_or}
use Rattle.std.proofs.lemmas.List.Elements.{All-nil, All-cons}
use Rattle.std.specs.List.{take-map}
use Rattle.std.proofs.lemmas.List.{append-nil}
use Rattle.std.proofs.lemmas.List.Sums.{sum_by-cons}
use Rattle.ramp_delay.specs.Times.{time_of}
use Rattle.arrayvec.specs.ArrayString.{ArrayString}
use Rattle.board.specs.declared.event.Event.{Event}
use Rattle.board.specs.declared.part.Part.TheVariants.{Selector}
use Rattle.board.specs.declared.rail.Rail.{Rail}
use Rattle.board.specs.declared.rail_id.RailId.{RailId}
use Rattle.board.specs.declared.write.Write.{Write}
use Rattle.board.specs.Rail.{uv}
use Rattle.rail_law.specs.Moves.{Move, after_moves, selector_for, writes_of}
use Rattle.rows.specs.declared.answer.Answer.TheVariants.{OkSet, Fault}
use Rattle.rows.specs.declared.call.Call.TheVariants.{Set}
use Rattle.use_counts.specs.declared.handle_row.HandleRow.{HandleRow}
use Rattle.plain_board.specs.declared.plain.Plain.{Plain}
use Rattle.plain_board.specs.Handles.{open_of, with_row}
use Rattle.plain_board.specs.Events.{voltage_events, events_of_move}
use Rattle.plain_board.specs.Moved.{after_first}
use Rattle.plain_board.specs.Answer.{says, done, stopped, fault, settled, with_request, kept_request, set_delay, changed_rails, no_write}
use Rattle.regulator_main.proofs.LoneBoard.{lone_board, first}

-- the rail with its value, where that isn't the one before
abbrev pub changed : ℕ → ℕ → List (RailId × ℕ)
changed before now = cond (eqb before now) [] ((first, now) ∷ [])

module _ (rail : Rail) (chips : ℕ) where
  abbrev pub move_to : ℕ → Move
  move_to v = record { rail = first; part = Selector; bits = selector_for rail v }

  -- no move of a selector tells of a switch
  none_told : (made : Bool) (vs : List ℕ) → flat_map (events_of_move 0 made) (map move_to vs) ≡ []
  none_told made [] = refl
  none_told made (v ∷ vs) = none_told made vs

  listed : (vs : List ℕ) (k : ℕ) → option_to_list (slice_get (map move_to vs) k) ≡ map move_to (option_to_list (slice_get vs k))
  listed [] k = refl
  listed (v ∷ vs) zero = refl
  listed (v ∷ vs) (suc k) = listed vs k

  -- the plain board once the first so many of these moves were made
  abbrev came : Plain → List Event → List ℕ → ℕ → Plain
  came plain told vs made =
      let moves = map move_to vs in
      let now = after_moves (lone_board rail chips) plain.regs (take made moves) in
      record plain {
        regs = now;
        events = (told ++ voltage_events (uv rail plain.regs) (uv rail (after_moves (lone_board rail chips) plain.regs moves)) (uv rail now)) ∷ [];
      }

  unmoved : (u n : ℕ) → voltage_events u u n ≡ []
  unmoved u n = rw (eq-eqb u u refl) refl

  silent : (told : List Event) (vs : List ℕ) (made : ℕ) (events : List Event)
      → told ++ (events ++ flat_map (events_of_move 0 true) (take made (map move_to vs)) ++ flat_map (events_of_move 0 false) (option_to_list (slice_get (map move_to vs) made))) ≡ told ++ events
  silent told vs made events =
      let of_made : flat_map (events_of_move 0 true) (take made (map move_to vs)) ≡ [] = ap (flat_map (events_of_move 0 true)) (take-map move_to made vs) ∙ none_told true (take made vs) in
      let of_refused : flat_map (events_of_move 0 false) (option_to_list (slice_get (map move_to vs) made)) ≡ [] =
      ap (flat_map (events_of_move 0 false)) (listed vs made) ∙ none_told false (option_to_list (slice_get vs made)) in
      ap (λ es. told ++ (events ++ es ++ flat_map (events_of_move 0 false) (option_to_list (slice_get (map move_to vs) made)))) of_made
      ∙ ap (λ es. told ++ (events ++ [] ++ es)) of_refused
      ∙ ap (λ es. told ++ es) (append-nil (events ++ []) ∙ append-nil events)

  still : (plain : Plain) (told : List Event) → plain.events ≡ told ∷ [] → plain ≡ record plain { events = (told ++ voltage_events (uv rail plain.regs) (uv rail plain.regs) (uv rail plain.regs)) ∷ [] }
  still plain told here =
      ap (λ es. record plain { events = es }) here
      ∙ ap (λ es. record plain { events = es ∷ [] }) (sym (append-nil told) ∙ ap (λ es. told ++ es) (sym (unmoved (uv rail plain.regs) (uv rail plain.regs))))

  after-lone : (plain : Plain) (told : List Event) (vs : List ℕ) (made : ℕ) → plain.events ≡ told ∷ []
      → after_first (lone_board rail chips) plain made (map move_to vs) ≡ came plain told vs made
  after-lone plain told [] zero here = still plain told here
  after-lone plain told [] (suc k) here = still plain told here
  after-lone plain told (v ∷ vs) made here = rw here (ap (λ es. record plain {
    regs = after_moves (lone_board rail chips) plain.regs (take made (map move_to (v ∷ vs)));
    events = es ∷ [];
  }) (silent told (v ∷ vs) made _))

  -- the delay is that of the one rail
  delay-lone : (before now : List (List ℕ)) → set_delay (lone_board rail chips) before now ≡ time_of rail.limits.times rail.desc.ramp (uv rail before) (uv rail now)
  delay-lone before now = sum_by-cons (λ r. time_of r.limits.times r.desc.ramp (uv r before) (uv r now)) rail [] ∙ omega arith

  changed-lone : (before now : List (List ℕ)) → changed_rails (lone_board rail chips) before now ≡ changed (uv rail before) (uv rail now)
  changed-lone before now = elim (eqb (uv rail before) (uv rail now)) as (λ t. eqb (uv rail before) (uv rail now) ≡ t → changed_rails (lone_board rail chips) before now ≡ cond t [] ((first, uv rail now) ∷ [])) [
    | true ↦ λ t. rw t refl
    | false ↦ λ t. rw t refl
  ] refl

  module _ (plain : Plain) (worker : ℕ) (handle : ArrayString) (row : HandleRow) (is : open_of plain.handles worker handle.bytes ≡ Some (first, row)) (told : List Event) (here : plain.events ≡ told ∷ []) (lo hi : ℕ) (vs : List ℕ) where
    abbrev asking : Option (ℕ × ℕ) → ℕ → Plain
    asking request made = record (came plain told vs made) { handles = with_row plain.handles worker handle.bytes (with_request request) }

    -- no move was needed
    pub settled-none : settled (lone_board rail chips) plain worker (Set handle lo hi) [] None
        ≡ (OkSet (uv rail plain.regs) (time_of rail.limits.times rail.desc.ramp (uv rail plain.regs) (uv rail plain.regs)), record plain { handles = with_row plain.handles worker handle.bytes (with_request (Some (lo, hi))) })
    settled-none = rw is (ap (λ d. (OkSet (uv rail plain.regs) d, record plain { handles = with_row plain.handles worker handle.bytes (with_request (Some (lo, hi))) })) (delay-lone plain.regs plain.regs))

    -- all moves were made
    pub arrived-lone : settled (lone_board rail chips) plain worker (Set handle lo hi) (map move_to vs) None
        ≡ (OkSet (uv rail (came plain told vs (length (map move_to vs))).regs) (time_of rail.limits.times rail.desc.ramp (uv rail plain.regs) (uv rail (came plain told vs (length (map move_to vs))).regs)), asking (Some (lo, hi)) (length (map move_to vs)))
    arrived-lone =
        ap (λ now. (says (lone_board rail chips) plain now worker (Set handle lo hi), done (lone_board rail chips) now worker (Set handle lo hi))) (after-lone plain told vs (length (map move_to vs)) here)
        ∙ rw is (ap (λ d. (OkSet (uv rail (came plain told vs (length (map move_to vs))).regs) d, asking (Some (lo, hi)) (length (map move_to vs)))) (delay-lone plain.regs (came plain told vs (length (map move_to vs))).regs))

    -- the bus refused a move
    pub stopped-lone : (made : ℕ) (write : Write) → unwrap_or (slice_get (writes_of (lone_board rail chips) (map move_to vs)) made) no_write ≡ write
        → settled (lone_board rail chips) plain worker (Set handle lo hi) (map move_to vs) (Some made)
        ≡ (Fault write.chip write.reg made (changed (uv rail plain.regs) (uv rail (came plain told vs made).regs)), asking (kept_request (uv rail (came plain told vs made).regs) row.request) made)
    stopped-lone made write refused =
        ap (λ now. (fault (lone_board rail chips) plain now (unwrap_or (slice_get (writes_of (lone_board rail chips) (map move_to vs)) made) no_write) made, stopped (lone_board rail chips) now worker (Set handle lo hi))) (after-lone plain told vs made here)
        ∙ rw (is, refused) (ap (λ rails. (Fault write.chip write.reg made rails, asking (kept_request (uv rail (came plain told vs made).regs) row.request) made)) (changed-lone plain.regs (came plain told vs made).regs))

-- the rail that changed is the board's
pub changed_within : (before now : ℕ) → All (λ rail. rail.0.0 < 1) (changed before now)
changed_within before now = elim (eqb before now) as (λ t. All (λ rail. rail.0.0 < 1) (cond {A = List (RailId × ℕ)} t [] ((first, now) ∷ []))) [
  | true ↦ All-nil (λ rail. rail.0.0 < 1)
  | false ↦ All-cons (λ rail. rail.0.0 < 1) (first, now) [] (omega arith) (All-nil (λ rail. rail.0.0 < 1))
]
