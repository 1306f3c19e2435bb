-- A worker's script on the wire that the lab has for it, from what it did on a wire in the worker's plan.
use Rattle.std.proofs.Common.{◌≡◌, ℕ, ◌≤◌, true, List, Option, Some, None, eqb, sym, subst, ap, ◌∙◌, arith, map, length}
use Rattle.std.specs.Prelude.{option_map, option_and_then}
use Rattle.std.specs.List.{list_any}
use Rattle.std.proofs.lemmas.List.{length-map}
use Rattle.std.proofs.lemmas.List.Sums.{length-filter, count_by-le-length}
use Rattle.reg_outside.specs.Count.{raised, RoseBy}
use Rattle.reg_outside.specs.Plan.{Plan, plan_of, refuses, HasSmallNumbers, refused_of}
use Rattle.reg_outside.specs.Told.{with_more, StartsEmpty}
use Rattle.board.specs.declared.board.Board.{Board}
use Rattle.rows.specs.declared.call.Call.{Call}
use Rattle.rows.specs.declared.row.Row.{Row}
use Rattle.reg_outside.specs.Bus.{Updates}
use Rattle.plain_board.specs.Update.{update_of}
use Rattle.plain_board.specs.declared.plain.Plain.{Plain}
use Rattle.plain_board.specs.History.{moved, rows_of, is_fault, faults_of}
use Rattle.plain_board.specs.Stops.{Refusals, is_planned, tries_of, are_in_step, strays}
use Rattle.regulator_main.specs.Inside.Script.{PlaysScript, StaysInStep}
use Rattle.regulator_main.specs.Playing.{turn_of, turns_of, PlaysWorker}
use Rattle.regulator_main.specs.Wires.{Wires, OthersStay}
use Rattle.regulator_main.proofs.Scripts.{stops_in-tries_of}
use Rattle.regulator_main.proofs.Strays.{stops_in, planned_by, refused_of-start, strays_counted}

-- what is told of a wire that begins with nothing and comes back
told_back : (list told told' list' : Option Updates) (updates : Updates) → StartsEmpty list told → told' ≡ with_more told updates → list' ≡ option_and_then (λ _. told') list → list' ≡ option_map (λ _. updates) list
told_back None told told' list' updates start more back = back
told_back (Some taken) told told' list' updates start more back = back ∙ more ∙ ap (λ t. with_more t updates) start

-- a worker has at most as many faults as calls
few_faults : (worker : ℕ) (script : List Call) (rows : List Row) → map turn_of rows ≡ turns_of worker script → faults_of worker rows ≤ length script
few_faults worker script rows in_order =
    let faults = count_by-le-length (λ row. is_fault row.answer) (rows_of worker rows) in
    let own = length-filter (λ row. eqb row.worker worker) rows in
    let most = count_by-le-length (λ row. eqb row.worker worker) rows in
    let calls : length rows ≡ length script = sym (length-map rows turn_of) ∙ ap length in_order ∙ length-map script (λ call. (worker, call)) in
    omega (arith, faults, own, most, calls)

-- the wire before the script: it has refused nothing
start_count : (numbers : List ℕ) (start : Plan) (faults : ℕ) → start ≡ plan_of numbers → faults ≡ 0 → raised faults (refused_of start) ≡ 0
start_count numbers start faults is calm = ap (λ plan. raised faults (refused_of plan)) is ∙ ap (raised faults) (refused_of-start numbers) ∙ ap (λ n. raised n 0) calm

module _ (board : Board) (plain : Plain) (refusals : Refusals) (worker : ℕ) (script : List Call) (rows : List Row) (numbers : List ℕ) (start end : Plan) (told told' : Option Updates) (faults faults' : ℕ) (before after : Wires)
    (same : (number : ℕ) → list_any (λ planned. eqb planned number) numbers ≡ is_planned refusals worker number) (is : start ≡ plan_of numbers) (small : HasSmallNumbers start) (short : length script ≤ 4096)
    (calm : faults ≡ 0) (empty : StartsEmpty (before.lists worker) told)
    (plays : PlaysScript board plain worker script rows told told' (raised faults (refused_of start)) (raised faults' (refused_of end)))
    (stays : StaysInStep (tries_of board plain worker rows) (Some start) (Some end))
    (counted : after.counts worker ≡ raised (before.counts worker) faults') (kept : after.lists worker ≡ option_and_then (λ _. told') (before.lists worker)) (others : OthersStay worker before after) where
  refuses_planned : refuses start ≡ is_planned refusals worker
  refuses_planned = ap refuses is ∙ planned_by numbers refusals worker same

  none_tried : start.tried ≡ 0
  none_tried = ap (λ (plan : Plan). plan.tried) is

  strays_rose : RoseBy (before.counts worker) (after.counts worker) (strays (is_planned refusals worker) 0 (tries_of board plain worker rows))
  strays_rose =
      let ts = tries_of board plain worker rows in
      let few = few_faults worker script rows plays.history.in_order in
      let stops = stops_in-tries_of board plain worker rows in
      let rose : RoseBy 0 (raised faults' (refused_of end)) (stops_in ts) =
      subst (λ n. RoseBy 0 (raised faults' (refused_of end)) n) (sym stops)
      (subst (λ n. RoseBy n (raised faults' (refused_of end)) (faults_of worker rows)) (start_count numbers start faults is calm) plays.faults) in
      subst (λ n. RoseBy (before.counts worker) n (strays (is_planned refusals worker) 0 ts)) (sym counted)
      (subst (λ planned. RoseBy (before.counts worker) (raised (before.counts worker) faults') (strays planned 0 ts)) refuses_planned
      (strays_counted start end ts (before.counts worker) faults' small none_tried stays (omega (arith, few, stops, short)) rose))

  -- it is played by the lab's wire of the worker
  pub plays_worker : PlaysWorker board plain refusals worker script rows before after
  plays_worker = record {
    history = plays.history;
    tells = record {
      moves = told_back (before.lists worker) told told' (after.lists worker) (map update_of (moved board plain worker rows)) empty plays.moves kept;
      in_step = subst (λ planned. are_in_step planned 0 (tries_of board plain worker rows) ≡ true) refuses_planned
          (subst (λ n. are_in_step (refuses start) n (tries_of board plain worker rows) ≡ true) none_tried (stays.in_step small));
      strays = strays_rose;
    };
    others = others;
  }
