-- The workers of a session, one after another.
use Rattle.std.proofs.Common.{◌≡◌, ◌≢◌, ℕ, ◌+◌, ◌<◌, ◌≤◌, Bool, List, [], ◌∷◌, ◌++◌, length, map, refl, sym, subst, ap, ◌∙◌, inl, inr, append-nil, arith, length-append, get_or, take}
use Rattle.std.specs.Option.{option_map}
use Rattle.std.proofs.lemmas.Bool.{cases_lt}
use Rattle.std.proofs.lemmas.List.{length-map, map-append, take_more, length-take-le}
use Rattle.std.proofs.lemmas.List.Elements.{All-append, All-nil}
use Rattle.board.specs.declared.board.Board.{Board}
use Rattle.rail_law.specs.Law.{Law}
use Rattle.rows.specs.declared.call.Call.{Call}
use Rattle.rows.specs.declared.row.Row.{Row}
use Rattle.plain_board.specs.Update.{update_of}
use Rattle.plain_board.specs.declared.plain.Plain.{Plain}
use Rattle.plain_board.specs.History.{replay, moved, legal_after}
use Rattle.plain_board.specs.Stops.{Refusals, is_planned, are_in_step, tries_of}
use Rattle.regulator_main.specs.Playing.{turn_of, turns_of, turns, IsHistoryOf, Tells, PlaysWorker, PlaysAll}
use Rattle.regulator_main.specs.Wires.{Wires}
use Rattle.regulator_main.proofs.Histories.{NoneAmong, none_of_script, none_beyond, moved-append, moved_none, tries_of-append, tries_none, law-append, legal-append, legal_later, turns-push}

-- what a wire was told, by what its worker moved and tried
tells_by : (board : Board) (plain from : Plain) (refusals : Refusals) (rows all : List Row) (worker : ℕ) (before after start end : Wires)
    → moved board plain worker all ≡ moved board from worker rows → tries_of board plain worker all ≡ tries_of board from worker rows
    → start.lists worker ≡ before.lists worker → start.counts worker ≡ before.counts worker → end.lists worker ≡ after.lists worker → end.counts worker ≡ after.counts worker
    → Tells board from refusals rows worker before after → Tells board plain refusals all worker start end
tells_by board plain from refusals rows all worker before after start end moves tries list count list' count' tells =
    let planned : ℕ → Bool = is_planned refusals worker in
    record {
      moves = list' ∙ tells.moves ∙ ap (λ ms. option_map (λ _. map update_of ms) (before.lists worker)) (sym moves) ∙ ap (option_map (λ _. map update_of (moved board plain worker all))) (sym list);
      in_step = ap (are_in_step planned 0) tries ∙ tells.in_step;
      strays = rw (tries, count, count') tells.strays;
    }

-- no script has run
pub plays_none : (board : Board) (plain : Plain) (refusals : Refusals) (wires : Wires) → Law board plain.regs → PlaysAll board plain refusals [] [] wires wires
plays_none board plain refusals wires law = record {
  history = record { legal = tt; in_order = refl; keeps = All-nil (λ row. row.writes ≡ []); lawful = law };
  tells = λ worker from to. absurd (omega arith);
  other_counts = λ n above. refl;
  other_lists = λ n above. refl;
  load_count = refl;
  load_list = refl;
}

module _ (board : Board) (plain : Plain) (refusals : Refusals) (scripts : List (List Call)) (script : List Call) (rows more : List Row) (before mid after : Wires)
    (plays : PlaysAll board plain refusals scripts rows before mid) (next : PlaysWorker board (replay board plain rows) refusals (1 + length scripts) script more mid after) where
  abbrev newest : ℕ
  newest = 1 + length scripts

  -- the workers before have no row of the newest one
  old_none : NoneAmong newest (map turn_of rows)
  old_none = subst (NoneAmong newest) (sym plays.history.in_order) (none_beyond 1 newest scripts (omega arith))

  new_none : (worker : ℕ) → worker ≢ newest → NoneAmong worker (map turn_of more)
  new_none worker apart = subst (NoneAmong worker) (sym next.history.in_order) (none_of_script newest worker script apart)

  history_more : IsHistoryOf board plain (turns 1 (scripts ++ script ∷ [])) (rows ++ more)
  history_more = record {
    legal = legal-append board plain [] rows more plays.history.legal
        (subst (λ (seen : List Row). legal_after board (replay board plain rows) seen more) (append-nil rows) (legal_later board (replay board plain rows) rows [] more newest script old_none next.history.in_order next.history.legal));
    in_order =
        map-append turn_of rows more
        ∙ ap (λ calls. calls ++ map turn_of more) plays.history.in_order
        ∙ ap (λ calls. turns 1 scripts ++ calls) next.history.in_order
        ∙ sym (turns-push 1 scripts script);
    keeps = All-append (λ row. row.writes ≡ []) rows more plays.history.keeps next.history.keeps;
    lawful = law-append board plain rows more plays.history.lawful next.history.lawful;
  }

  -- a worker before has no move of the newest one
  tells_old : (worker : ℕ) → 1 ≤ worker → worker ≤ length scripts → Tells board plain refusals (rows ++ more) worker before after
  tells_old worker from to =
      let apart : worker ≢ newest = λ is. absurd (omega arith) in
      let none = new_none worker apart in
      tells_by board plain plain refusals rows (rows ++ more) worker before mid before after
      (moved-append board plain worker rows more ∙ ap (λ ms. moved board plain worker rows ++ ms) (moved_none board (replay board plain rows) worker more none) ∙ append-nil (moved board plain worker rows))
      (tries_of-append board plain worker rows more ∙ ap (λ ts. tries_of board plain worker rows ++ ts) (tries_none board (replay board plain rows) worker more none) ∙ append-nil (tries_of board plain worker rows))
      refl refl (next.others.lists worker apart) (next.others.counts worker apart) (plays.tells worker from to)

  -- and the newest one has none of those before
  tells_new : Tells board plain refusals (rows ++ more) newest before after
  tells_new =
      tells_by board plain (replay board plain rows) refusals more (rows ++ more) newest mid after before after
      (moved-append board plain newest rows more ∙ ap (λ ms. ms ++ moved board (replay board plain rows) newest more) (moved_none board plain newest rows old_none))
      (tries_of-append board plain newest rows more ∙ ap (λ ts. ts ++ tries_of board (replay board plain rows) newest more) (tries_none board plain newest rows old_none))
      (sym (plays.other_lists newest (omega arith))) (sym (plays.other_counts newest (omega arith))) refl refl next.tells

  tells_more : (worker : ℕ) → 1 ≤ worker → worker ≤ length (scripts ++ script ∷ []) → Tells board plain refusals (rows ++ more) worker before after
  tells_more worker from to =
      let grown = length-append scripts (script ∷ []) in
      elim (cases_lt (length scripts) worker) [
        | inl above ↦
            let is : newest ≡ worker = omega (arith, grown) in
            subst (λ (w : ℕ). Tells board plain refusals (rows ++ more) w before after) is tells_new
        | inr below ↦ tells_old worker from below
      ]

  -- one worker more has run
  pub plays_more : PlaysAll board plain refusals (scripts ++ script ∷ []) (rows ++ more) before after
  plays_more =
      let grown = length-append scripts (script ∷ []) in
      record {
        history = history_more;
        tells = tells_more;
        other_counts = λ n above. next.others.counts n (λ is. absurd (omega (arith, grown))) ∙ plays.other_counts n (omega (arith, grown));
        other_lists = λ n above. next.others.lists n (λ is. absurd (omega (arith, grown))) ∙ plays.other_lists n (omega (arith, grown));
        load_count = next.others.counts 0 (λ is. absurd (omega arith)) ∙ plays.load_count;
        load_list = next.others.lists 0 (λ is. absurd (omega arith)) ∙ plays.load_list;
      }

-- the scripts so far and the next one are one script more
pub one_script_more : (scripts : List (List Call)) (i : ℕ) (script : List Call) → i < length scripts → script ≡ get_or scripts i script → take i scripts ++ script ∷ [] ≡ take (i + 1) scripts
one_script_more scripts i script within is = ap (λ s. take i scripts ++ s ∷ []) is ∙ sym (take_more scripts i script within)

-- the worker of the next script has the next number
pub next_number : (scripts : List (List Call)) (i worker : ℕ) → i < length scripts → worker ≡ i → worker + 1 ≡ 1 + length (take i scripts)
next_number scripts i worker within is = let taken = length-take-le i scripts (omega (arith, within)) in omega (arith, is, taken)

-- a worker has a row for each call of its script
pub length-rows : (board : Board) (plain : Plain) (worker : ℕ) (script : List Call) (rows : List Row) → IsHistoryOf board plain (turns_of worker script) rows → length rows ≡ length script
length-rows board plain worker script rows history =
    sym (length-map rows turn_of) ∙ ap length history.in_order ∙ length-map script (λ call. (worker, call))
