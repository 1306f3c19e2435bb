-- The moves of the calls on handles, on boards on which loads choose no mode: which they are, and which rails are on after the first so many.
use Rattle.std.proofs.Common.{◌≡◌, ◌≢◌, ℕ, ◌<◌, ◌≤◌, List, [], Option, Some, None, refl, sym, ap, ◌∙◌, arith, length, map, take, reverse, AllPairs}
use Rattle.std.proofs.lemmas.Option.{same_Some}
use Rattle.arrayvec.specs.ArrayString.{ArrayString}
use Rattle.board.specs.declared.board.Board.{Board}
use Rattle.board.specs.Valid.{IsValid, IsSoundBoard}
use Rattle.rail_law.specs.Moves.{Move}
use Rattle.rows.specs.declared.answer.Answer.{Answer}
use Rattle.rows.specs.declared.call.Call.{Call}
use Rattle.rows.specs.declared.call.Call.TheVariants.{Enable, Disable, ReleaseBoot}
use Rattle.plain_board.specs.declared.plain.Plain.{Plain}
use Rattle.plain_board.specs.Answer.{planned, plan}
use Rattle.plain_board.specs.Handles.{Entry, open_of}
use Rattle.plain_board.specs.Plan.{chain, changed, one_less, switch, chain_off, sweep_off, always_holds, moves_of_call}
use Rattle.plain_board.specs.Refusals.{refusal}
use Rattle.plain_board.specs.Switched.{off_rails, AreSwitched}
use Rattle.plain_board.specs.Untied.{HoldFields, CountsNoLoads}
use Rattle.plain_board.proofs.ChainEnds.{chain_distinct}
use Rattle.plain_board.proofs.KeptDisable.{disable_not_refused, disable_moves_are}
use Rattle.plain_board.proofs.KeptEnable.{enable_moves_are, enable_not_refused}
use Rattle.plain_board.proofs.SetMoves.{IsOpenOn}
use Rattle.plain_board.proofs.SwitchMoves.{rails_of_moves, chain_switches, sweep_switches, switched_after}

-- a call that isn't refused has the moves of its plan
plan_is : (board : Board) (plain : Plain) (worker : ℕ) (call : Call) → refusal board plain worker call ≡ None → plan board plain worker call ≡ moves_of_call board plain worker call
plan_is board plain worker call free = ap (planned board plain worker call) free

-- an open handle is the one that is found
same_entry : (board : Board) (handles : List Entry) (worker : ℕ) (name : List ℕ) (on : IsOpenOn board handles worker name) (entry : Entry) → open_of handles worker name ≡ Some entry → on.entry ≡ entry
same_entry board handles worker name on entry is = same_Some on.entry entry (sym on.is_open ∙ is)

-- an enable switches on the rails of its chain that are off, from above
pub enable_plan : (board : Board) (plain : Plain) (worker : ℕ) (handle : ArrayString) (entry : Entry) → CountsNoLoads board → open_of plain.handles worker handle.bytes ≡ Some entry
    → refusal board plain worker (Enable handle) ≡ None
    → plan board plain worker (Enable handle) ≡ map (switch 1) (off_rails board plain.regs (reverse (chain board entry.0.0)))
enable_plan board plain worker handle entry no_loads is free =
    let enable = enable_not_refused board plain worker handle free in
    plan_is board plain worker (Enable handle) free
    ∙ enable_moves_are board no_loads plain worker handle enable.on
    ∙ ap (λ (e : Entry). map (switch 1) (off_rails board plain.regs (reverse (chain board e.0.0)))) (same_entry board plain.handles worker handle.bytes enable.on entry is)

-- a disable switches off the rails of its chain that are idle once the enable is given up, from below
pub disable_plan : (board : Board) (plain : Plain) (worker : ℕ) (handle : ArrayString) (entry : Entry) → CountsNoLoads board → open_of plain.handles worker handle.bytes ≡ Some entry
    → refusal board plain worker (Disable handle) ≡ None
    → plan board plain worker (Disable handle) ≡ chain_off board (record plain { handles = changed plain worker handle.bytes one_less }) (chain board entry.0.0)
disable_plan board plain worker handle entry no_loads is free =
    let on = disable_not_refused board plain worker handle free in
    let given_up : Plain = record plain { handles = changed plain worker handle.bytes one_less } in
    plan_is board plain worker (Disable handle) free
    ∙ disable_moves_are board no_loads plain worker handle on
    ∙ ap (λ (e : Entry). chain_off board given_up (chain board e.0.0)) (same_entry board plain.handles worker handle.bytes on entry is)

-- the end of the holds of the start switches off the rails that are idle then, each before its supply
pub release_plan : (board : Board) (plain : Plain) (worker : ℕ) → refusal board plain worker ReleaseBoot ≡ None
    → plan board plain worker ReleaseBoot ≡ sweep_off board (record plain { holds = always_holds board plain.holds }) (reverse board.order)
release_plan board plain worker free = plan_is board plain worker ReleaseBoot free

-- a plan that switches rails
abbrev Switches : ℕ → List Move → Type 0
Switches bits moves = (rails : List ℕ) × (moves ≡ map (switch bits) rails)

planned_switches : (board : Board) (plain : Plain) (worker : ℕ) (call : Call) (bits : ℕ) (o : Option Answer) → refusal board plain worker call ≡ o
    → (refusal board plain worker call ≡ None → Switches bits (moves_of_call board plain worker call)) → Switches bits (planned board plain worker call o)
planned_switches board plain worker call bits None is switches = switches is
planned_switches board plain worker call bits (Some why) is switches = ([], refl)

module _ (board : Board) (sound : IsSoundBoard board) (plain : Plain) (chips : length plain.regs ≡ board.chips) (hold : HoldFields board plain.regs) (worker : ℕ) where
  switched_plan : (call : Call) (bits : ℕ) → bits ≤ 1 → (refusal board plain worker call ≡ None → Switches bits (moves_of_call board plain worker call)) → (made : ℕ)
      → AreSwitched board bits plain.regs (take made (plan board plain worker call))
  switched_plan call bits one_bit switches made =
      let plans = planned_switches board plain worker call bits (refusal board plain worker call) refl switches in
      switched_after board sound plain.regs chips hold bits one_bit (plan board plain worker call) plans.0 plans.1 made

  pub enable_switches : CountsNoLoads board → (handle : ArrayString) (made : ℕ) → AreSwitched board 1 plain.regs (take made (plan board plain worker (Enable handle)))
  enable_switches no_loads handle =
      switched_plan (Enable handle) 1 (omega arith)
      (λ free.
      let enable = enable_not_refused board plain worker handle free in
      (off_rails board plain.regs (reverse (chain board enable.on.entry.0.0)), enable_moves_are board no_loads plain worker handle enable.on))

  pub disable_switches : CountsNoLoads board → (handle : ArrayString) (made : ℕ) → AreSwitched board 0 plain.regs (take made (plan board plain worker (Disable handle)))
  disable_switches no_loads handle =
      switched_plan (Disable handle) 0 (omega arith)
      (λ free.
      let on = disable_not_refused board plain worker handle free in
      let given_up : Plain = record plain { handles = changed plain worker handle.bytes one_less } in
      let off : List Move = chain_off board given_up (chain board on.entry.0.0) in
      (rails_of_moves off, disable_moves_are board no_loads plain worker handle on ∙ chain_switches board given_up (chain board on.entry.0.0)))

  pub release_switches : (made : ℕ) → AreSwitched board 0 plain.regs (take made (plan board plain worker ReleaseBoot))
  release_switches =
      switched_plan ReleaseBoot 0 (omega arith)
      (λ free.
      let released : Plain = record plain { holds = always_holds board plain.holds } in
      (rails_of_moves (sweep_off board released (reverse board.order)), sweep_switches board released (reverse board.order)))

-- a chain has each rail once
pub chain_once : (board : Board) (r : ℕ) → IsValid board → r < length board.rails → AllPairs (λ i j. i ≢ j) (chain board r)
chain_once board r valid below = chain_distinct board valid.sound r below
