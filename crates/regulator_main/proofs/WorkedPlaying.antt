-- Histories of scripts, and what wires are told of them and of a load: what breaks each clause alone.
use Rattle.std.specs.Prelude.{◌≡◌, ◌==◌, ℕ, false, true, List, [], ◌∷◌, Some, None, slice_get, if◌then◌else◌, zero, suc}
use Rattle.std.proofs.Common.{refl, sym, ap, ◌∙◌, subst, arith, eqb}
use Rattle.std.proofs.lemmas.Bool.{ne_eqb}
use Rattle.std.proofs.lemmas.List.Elements.{All-nil, All-head}
use Rattle.reg_outside.specs.Bus.{Updates}
use Rattle.reg_outside.specs.Count.{RoseBy}
use Rattle.board.specs.declared.board.Board.{Board}
use Rattle.board.specs.declared.write.Write.{Write}
use Rattle.rail_law.specs.Law.{Law}
use Rattle.rows.specs.declared.answer.Answer.TheVariants.{OkUv, Fault}
use Rattle.rows.specs.declared.call.Call.{Call}
use Rattle.rows.specs.declared.call.Call.TheVariants.{Get}
use Rattle.rows.specs.declared.row.Row.{Row}
use Rattle.session.specs.declared.session.Session.{Session}
use Rattle.plain_board.specs.declared.plain.Plain.{Plain}
use Rattle.plain_board.specs.Stops.{Refusals, is_planned, tries_of, are_in_step}
use Rattle.plain_board.proofs.Played.{a}
use Rattle.regulator_main.specs.Bringing.{BringsUp, StopsLoad, planned_stop}
use Rattle.regulator_main.specs.Playing.{IsHistoryOf, Tells, PlaysWorker, PlaysAll}
use Rattle.regulator_main.specs.Runs.{Runs}
use Rattle.regulator_main.specs.Wires.{Wires, wires_of}

-- three wires, of which one has a fault more, or another list
abbrev still : Wires
still = wires_of (λ n. 3) (λ n. None)

abbrev with_fault : ℕ → Wires
with_fault wire = wires_of (λ n. if n == wire then 4 else 3) (λ n. None)

abbrev with_list : ℕ → Updates → Wires
with_list wire updates = wires_of (λ n. 3) (λ n. if n == wire then Some updates else None)

-- worker 1 reads a value
abbrev row : Row
row = record { worker = 1; line = 1; call = Get a; answer = OkUv 800000; writes = [] }

abbrev selects : Write
selects = record { chip = 0; reg = 0x10; mask = 0x7f; bits = 0x30 }

abbrev switches : Write
switches = record { chip = 0; reg = 0x20; mask = 0x01; bits = 0x01 }

-- the worker of the first of some turns
first_worker : List (ℕ × Call) → ℕ
first_worker [] = 0
first_worker (turn ∷ turns) = turn.0

module _ (board : Board) (plain : Plain) where
  -- its line is another one, it is another worker's, or it has kept a write
  other_line : ¬ IsHistoryOf board plain ((1, Get a) ∷ []) (record row { line = 2 } ∷ [])
  other_line history = let same : 2 ≡ 1 = history.legal.0.line in omega (arith, same)

  other_worker : ¬ IsHistoryOf board plain ((2, Get a) ∷ []) (row ∷ [])
  unfolding first_worker
  other_worker history = let same : 1 ≡ 2 = ap first_worker history.in_order in omega (arith, same)

  kept_write : ¬ IsHistoryOf board plain ((1, Get a) ∷ []) (record row { writes = selects ∷ [] } ∷ [])
  kept_write history = let none : selects ∷ [] ≡ [] = All-head (λ (r : Row). r.writes ≡ []) (record row { writes = selects ∷ [] }) [] history.keeps in cc

  -- a board that isn't lawful has no history, not even one without calls
  not_lawful : ¬ Law board plain.regs → ¬ IsHistoryOf board plain [] []
  not_lawful broken history = broken history.lawful

  no_calls : Law board plain.regs → IsHistoryOf board plain [] []
  no_calls law = record { legal = tt; in_order = refl; keeps = All-nil (λ (r : Row). r.writes ≡ []); lawful = law }

  -- without rows the wire of worker 1 has an empty list, where it tells one
  other_moves : ¬ Tells board plain [] [] 1 still (with_list 1 [])
  other_moves tells = let same : Some [] ≡ None = tells.moves in cc

  no_moves : Tells board plain [] [] 1 (with_list 1 ((0, 16, 127, 32) ∷ [])) (with_list 1 [])
  no_moves = record { moves = refl; in_step = refl; strays = omega arith }

  -- a move was made that is planned to be refused
  out_of_step : (refusals : Refusals) (rows : List Row) → are_in_step (is_planned refusals 1) 0 (tries_of board plain 1 rows) ≡ false → ¬ Tells board plain refusals rows 1 still still
  out_of_step refusals rows out tells = let same : false ≡ true = sym out ∙ tells.in_step in cc

  -- a stop that wasn't planned is counted
  abbrev stopped : Row
  stopped = record row { answer = Fault 0 16 0 [] }

  stray : ¬ Tells board plain [] (stopped ∷ []) 1 still still
  stray tells = let rose : RoseBy 3 3 1 = tells.strays in omega (arith, rose)

  -- one worker
  not_its_script : ¬ PlaysWorker board plain [] 1 (Get a ∷ []) [] still still
  not_its_script plays = let same : [] ≡ (1, Get a) ∷ [] = plays.history.in_order in cc

  not_told : ¬ PlaysWorker board plain [] 1 [] [] still (with_list 1 [])
  not_told plays = other_moves plays.tells

  others_fault : ¬ PlaysWorker board plain [] 1 [] [] still (with_fault 2)
  others_fault plays = let same : 4 ≡ 3 = plays.others.counts 2 (λ same. omega (arith, same)) in omega (arith, same)

  -- all workers: one without calls
  not_their_scripts : ¬ PlaysAll board plain [] ([] ∷ (Get a ∷ []) ∷ []) [] still still
  not_their_scripts plays = let same : [] ≡ (2, Get a) ∷ [] = plays.history.in_order in cc

  not_told_first : ¬ PlaysAll board plain [] ([] ∷ []) [] still (with_list 1 [])
  not_told_first plays = other_moves (plays.tells 1 (omega arith) (omega arith))

  second_count : ¬ PlaysAll board plain [] ([] ∷ []) [] still (with_fault 2)
  second_count plays = let same : 4 ≡ 3 = plays.other_counts 2 (omega arith) in omega (arith, same)

  second_list : ¬ PlaysAll board plain [] ([] ∷ []) [] still (with_list 2 [])
  second_list plays = let same : Some [] ≡ None = plays.other_lists 2 (omega arith) in cc

  load_count : ¬ PlaysAll board plain [] ([] ∷ []) [] still (with_fault 0)
  load_count plays = let same : 4 ≡ 3 = plays.load_count in omega (arith, same)

  load_list : ¬ PlaysAll board plain [] ([] ∷ []) [] still (with_list 0 [])
  load_list plays = let same : Some [] ≡ None = plays.load_list in cc

  -- the count and the list of the last worker may change
  abbrev had : Wires
  had = with_list 1 ((0, 16, 127, 32) ∷ [])

  abbrev has_then : Wires
  has_then = wires_of (λ n. if n == 1 then 4 else 3) (λ n. if n == 1 then Some [] else None)

  of_last : Law board plain.regs → PlaysAll board plain [] ([] ∷ []) [] had has_then
  of_last law = record {
    history = no_calls law;
    tells = λ worker least most. let same : 1 ≡ worker = omega (arith, least, most) in subst (λ w. Tells board plain [] [] w had has_then) same (record { moves = refl; in_step = refl; strays = omega arith });
    other_counts = λ n above. let test : eqb n 1 ≡ false = ne_eqb n 1 (λ same. omega (arith, same, above)) in rw test refl;
    other_lists = λ n above. let test : eqb n 1 ≡ false = ne_eqb n 1 (λ same. omega (arith, same, above)) in rw test refl;
    load_count = refl;
    load_list = refl;
  }

-- a load of one write that its wire wasn't told of, that counted a fault, or of which another wire did
not_told_load : ¬ BringsUp (selects ∷ []) [] (with_list 0 []) (with_list 0 [])
not_told_load brought = let same : Some [] ≡ Some ((0, 16, 127, 48) ∷ []) = brought.told in cc

fault_of_load : ¬ BringsUp [] [] still (with_fault 0)
fault_of_load brought = omega (arith, brought.calm)

fault_of_other : ¬ BringsUp [] [] still (with_fault 2)
fault_of_other brought = let same : 4 ≡ 3 = brought.others.counts 2 (λ same. omega (arith, same)) in omega (arith, same)

-- a load that is stopped at a write that it hasn't, at another register, or at another chip
no_write : ¬ StopsLoad [] [] 0 0x20 still (with_fault 0)
no_write stop = let next : None ≡ Some stop.write = stop.next in cc

only_write : (made : ℕ) (write : Write) → slice_get (switches ∷ []) made ≡ Some write → switches ≡ write
only_write zero write same = cc
only_write (suc made) write same = absurd (cc same)

other_chip : ¬ StopsLoad (switches ∷ []) [] 1 0x20 still (with_fault 0)
other_chip stop = let same : 0 ≡ 1 = ap (λ (w : Write). w.chip) (only_write stop.made stop.write stop.next) ∙ stop.place.0 in omega (arith, same)

other_reg : ¬ StopsLoad (switches ∷ []) [] 0 0x10 still (with_fault 0)
other_reg stop = let same : 0x20 ≡ 0x10 = ap (λ (w : Write). w.reg) (only_write stop.made stop.write stop.next) ∙ stop.place.1 in omega (arith, same)

not_told_part : ¬ StopsLoad (switches ∷ []) ((0, 1) ∷ []) 0 0x20 still (with_list 0 [])
not_told_part stop = let same : Some [] ≡ None = stop.told in cc

-- the first update was planned to be refused, so it isn't the second at which the load is stopped
not_at_second : (stop : StopsLoad (selects ∷ switches ∷ []) ((0, 1) ∷ (0, 2) ∷ []) 0 0x20 still still) → ¬ (stop.made ≡ 1)
not_at_second stop made = let same : Some 0 ≡ None = subst (λ n. planned_stop (is_planned ((0, 1) ∷ (0, 2) ∷ []) 0) n ≡ None) made stop.unplanned in cc

stop_of_other : ¬ StopsLoad (switches ∷ []) [] 0 0x20 still (with_fault 2)
stop_of_other stop = let same : 4 ≡ 3 = stop.others.counts 2 (λ same. omega (arith, same)) in omega (arith, same)

-- a wire of the load that tells nothing tells nothing after the scripts
pub not_run : (session : Session) (rows : List Row) → ¬ Runs session rows still (with_list 0 [])
not_run session rows run = let same : Some [] ≡ None = run.scripts.load_list ∙ run.load.told in cc
