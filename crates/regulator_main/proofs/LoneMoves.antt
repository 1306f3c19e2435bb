-- What a set does once its target is known, on a board of one rail.
use Rattle.std.proofs.Common.{◌≡◌, ℕ, ◌<◌, false, cond, eqb, List, [], ◌∷◌, ◌++◌, Option, Some, None, refl, sym, ap, ◌∙◌, map, length, take, append_assoc}
use Rattle.std.specs.Prelude.{◌==◌, if◌then◌else◌}
use Rattle.std.proofs.Math.Seq.{take-length}
use Rattle.ramp_delay.specs.Times.{time_of}
use Rattle.reg_outside.specs.Count.{Rose}
use Rattle.reg_outside.proofs.ToldFacts.{with_more-nil}
use Rattle.arrayvec.specs.ArrayString.{ArrayString}
use Rattle.chip_regs.specs.declared.field.Field.{Field}
use Rattle.board.specs.declared.event.Event.{Event}
use Rattle.board.specs.declared.event.Event.TheVariants.{PreVoltageChange, VoltageChange, AbortVoltageChange}
use Rattle.board.specs.declared.rail.Rail.{Rail}
use Rattle.board.specs.declared.rail_id.RailId.{RailId}
use Rattle.board.specs.Rail.{uv, allowed}
use Rattle.rail_law.specs.Moves.{Move, after_moves, update_of_field}
use Rattle.rows.specs.declared.answer.Answer.TheVariants.{OkSet, Fault}
use Rattle.rows.specs.declared.call.Call.TheVariants.{Set}
use Rattle.use_counts.specs.declared.handle_row.HandleRow.{HandleRow}
use Rattle.plain_board.specs.declared.plain.Plain.{Plain}
use Rattle.plain_board.specs.Events.{voltage_events}
use Rattle.plain_board.specs.Handles.{Entry, open_of, with_row}
use Rattle.plain_board.specs.Answer.{settled, with_request, kept_request}
use Rattle.regulator_main.specs.Desk.{Moves}
use Rattle.regulator_main.specs.Inside.Way.{way, moves_to}
use Rattle.reg_outside.specs.Bus.{Updates}
use Rattle.regulator_main.specs.Walk.{Makes}
use Rattle.regulator_main.proofs.LoneBoard.{lone_board, first}
use Rattle.regulator_main.proofs.LoneSet.{move_to, settled-none, arrived-lone, stopped-lone, changed, changed_within}
use Rattle.regulator_main.proofs.Steps.{way-same}
use Rattle.regulator_main.proofs.Stopped.{refused_write}

-- listeners are told that a change begins, and where it ends
abbrev pub told_of : ℕ → ℕ → ℕ → List (List Event) → List (List Event)
told_of before goal now events =
    map (λ told. told ++ (if now == goal then VoltageChange now else AbortVoltageChange now) ∷ []) (map (λ told. told ++ PreVoltageChange before goal ∷ []) events)

told_by : (told : List Event) (before goal now : ℕ) (events : List (List Event)) → events ≡ told ∷ [] → eqb before goal ≡ false
    → told_of before goal now events ≡ (told ++ voltage_events before goal now) ∷ []
told_by told before goal now events here apart = rw (here, apart) (ap (λ es. es ∷ []) (append_assoc told (PreVoltageChange before goal ∷ []) (cond (eqb now goal) (VoltageChange now) (AbortVoltageChange now) ∷ [])))

module _ (rail : Rail) (chips : ℕ) (plain : Plain) (worker : ℕ) (handle : ArrayString) (row : HandleRow) (is : open_of plain.handles worker handle.bytes ≡ Some (first, row)) (told : List Event) (here : plain.events ≡ told ∷ []) (request : ℕ × ℕ) (target : ℕ) where
  abbrev moves : List Move
  moves = moves_to first rail (uv rail plain.regs) target

  -- the rail stands there already
  pub moves-still : (delay : ℕ) (handles : List Entry) (updates : Option Updates) (count : ℕ) → uv rail plain.regs ≡ target → delay ≡ time_of rail.limits.times rail.desc.ramp (uv rail plain.regs) target
      → handles ≡ with_row plain.handles worker handle.bytes (with_request (Some request))
      → Moves (lone_board rail chips) plain (record plain { handles = handles }) worker handle request rail target (OkSet target delay) updates updates count count
  moves-still delay handles updates count there takes now =
      let none : moves ≡ [] = ap (λ u. moves_to first rail u target) there ∙ ap (map (move_to rail chips)) (way-same (allowed rail) target) in
      record {
        answered = ap (λ ms. settled (lone_board rail chips) plain worker (Set handle request.0 request.1) ms None) none
            ∙ settled-none rail chips plain worker handle row is told here request.0 request.1 []
            ∙ rw (there, now) (ap (λ d. (OkSet target d, record plain { handles = with_row plain.handles worker handle.bytes (with_request (Some request)) })) (sym (takes ∙ ap (λ u. time_of rail.limits.times rail.desc.ramp u target) there)));
        took = record { within = tt; rails = tt; updates = rw none (sym (with_more-nil updates)); faults = refl };
      }

  -- all moves were made
  pub moves-arrived : (regs : List (List ℕ)) (events : List (List Event)) (handles : List Entry) (now delay : ℕ) (updates updates' : Option Updates) (count count' : ℕ)
      → Makes (lone_board rail chips) moves plain.regs regs updates updates' → uv rail (after_moves (lone_board rail chips) plain.regs moves) ≡ target
      → eqb (uv rail plain.regs) target ≡ false → now ≡ uv rail regs → delay ≡ time_of rail.limits.times rail.desc.ramp (uv rail plain.regs) target
      → events ≡ told_of (uv rail plain.regs) target now plain.events → handles ≡ with_row plain.handles worker handle.bytes (with_request (Some request)) → count' ≡ count
      → Moves (lone_board rail chips) plain (record plain { regs = regs; handles = handles; events = events }) worker handle request rail target (OkSet now delay) updates updates' count count'
  moves-arrived regs events handles now delay updates updates' count count' made goal apart stands takes tells asks counted =
      let all : regs ≡ after_moves (lone_board rail chips) plain.regs (take (length moves) moves) = made.registers ∙ ap (after_moves (lone_board rail chips) plain.regs) (sym (take-length moves)) in
      let there : uv rail regs ≡ target = ap (uv rail) made.registers ∙ goal in
      let voltages : events ≡ (told ++ voltage_events (uv rail plain.regs) (uv rail (after_moves (lone_board rail chips) plain.regs moves)) (uv rail regs)) ∷ [] =
      tells ∙ told_by told (uv rail plain.regs) target now plain.events here apart
      ∙ ap (λ n. (told ++ voltage_events (uv rail plain.regs) target n) ∷ []) stands ∙ ap (λ g. (told ++ voltage_events (uv rail plain.regs) g (uv rail regs)) ∷ []) (sym goal) in
      record {
        answered = arrived-lone rail chips plain worker handle row is told here request.0 request.1 (way (allowed rail) (uv rail plain.regs) target)
            ∙ rw (← all, stands, takes, voltages, asks, there) refl;
        took = record { within = tt; rails = tt; updates = made.updates; faults = counted };
      }

  -- the bus refused a move
  pub moves-stopped : (regs : List (List ℕ)) (events : List (List Event)) (handles : List Entry) (now made : ℕ) (field : Field) (rails : List (RailId × ℕ)) (updates updates' : Option Updates) (count count' : ℕ)
      → made < length moves → Makes (lone_board rail chips) (take made moves) plain.regs regs updates updates' → uv rail (after_moves (lone_board rail chips) plain.regs moves) ≡ target
      → rail.desc.selector ≡ Some field → eqb (uv rail plain.regs) target ≡ false → now ≡ uv rail regs → rails ≡ changed (uv rail plain.regs) now
      → events ≡ told_of (uv rail plain.regs) target now plain.events → handles ≡ with_row plain.handles worker handle.bytes (with_request (kept_request now row.request)) → Rose count count'
      → Moves (lone_board rail chips) plain (record plain { regs = regs; handles = handles; events = events }) worker handle request rail target (Fault field.chip field.reg made rails) updates updates' count count'
  moves-stopped regs events handles now made field rails updates updates' count count' within makes goal selector apart stands change tells asks rose =
      let write = refused_write (lone_board rail chips) first rail field (uv rail plain.regs) target made refl selector within in
      let voltages : events ≡ (told ++ voltage_events (uv rail plain.regs) (uv rail (after_moves (lone_board rail chips) plain.regs moves)) (uv rail regs)) ∷ [] =
      tells ∙ told_by told (uv rail plain.regs) target now plain.events here apart
      ∙ ap (λ n. (told ++ voltage_events (uv rail plain.regs) target n) ∷ []) stands ∙ ap (λ g. (told ++ voltage_events (uv rail plain.regs) g (uv rail regs)) ∷ []) (sym goal) in
      record {
        answered = stopped-lone rail chips plain worker handle row is told here request.0 request.1 (way (allowed rail) (uv rail plain.regs) target) made (update_of_field (Some field) write.0) write.1
            ∙ rw (← makes.registers, change, voltages, asks, stands) refl;
        took = record { within = within; rails = rw change (changed_within (uv rail plain.regs) now); updates = makes.updates; faults = rose };
      }
