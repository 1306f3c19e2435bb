-- A script, one row more at a time.
use Rattle.std.proofs.Common.{◌≡◌, ℕ, ◌+◌, ◌<◌, inl, Bool, true, false, cond, eqb, ltb, eq-eqb, List, [], ◌∷◌, ◌++◌, Option, Some, None, refl, sym, subst, ap, ◌∙◌, append_assoc, append-nil, zero-add, arith, length-append, map, length, get_or, take}
use Rattle.std.specs.Prelude.{count_by}
use Rattle.std.proofs.lemmas.Bool.Decides.{nat_tests}
use Rattle.std.proofs.lemmas.List.{take_more, map-append}
use Rattle.std.proofs.lemmas.List.Elements.{All-nil, All-push, filter-append}
use Rattle.std.proofs.lemmas.List.Sums.{sum_by-append, sum_by-cons}
use Rattle.reg_outside.specs.Count.{RoseBy}
use Rattle.reg_outside.proofs.CountFacts.{RoseBy-zero, RoseBy-trans}
use Rattle.reg_outside.specs.Plan.{Plan}
use Rattle.reg_outside.specs.Told.{with_more}
use Rattle.reg_outside.proofs.ToldFacts.{with_more-nil, with_more-with_more}
use Rattle.board.specs.declared.board.Board.{Board}
use Rattle.rows.specs.declared.answer.Answer.{Answer}
use Rattle.rows.specs.declared.call.Call.{Call}
use Rattle.plain_board.specs.declared.plain.Plain.{Plain}
use Rattle.rows.specs.declared.row.Row.{Row}
use Rattle.plain_board.specs.Answer.{answer, plan}
use Rattle.plain_board.specs.History.{stop_of, IsWithinPlan, made_of, moves_of, after_stop, after, replay, rows_of, IsNext, legal_after, moved, is_fault, faults_of}
use Rattle.rows.specs.Row.{NamesRail}
use Rattle.rail_law.specs.Law.{Law}
use Rattle.plain_board.specs.Law.{Throughout, LawHolds}
use Rattle.rail_law.specs.Moves.{writes_of}
use Rattle.rows.specs.Row.{HasRails}
use Rattle.plain_board.specs.Stops.{Tries, one_if, tries_of}
use Rattle.reg_outside.specs.Bus.{Updates}
use Rattle.plain_board.specs.Update.{update_of}
use Rattle.regulator_main.specs.Desk.{Performs, Counts, tries_for}
use Rattle.regulator_main.specs.Inside.Script.{PlaysScript, StaysInStep}
use Rattle.regulator_main.specs.Playing.{turn_of, turns_of}
use Rattle.regulator_main.specs.Walk.{Tried}
use Rattle.regulator_main.proofs.Histories.{replay-append, moved-append, tries_of-append}
use Rattle.regulator_main.proofs.Strays.{stops_in}
use Rattle.regulator_main.proofs.Tries.{stays_more}

legal-push : (board : Board) (plain : Plain) (before xs : List Row) (y : Row) → legal_after board plain before xs → IsNext board (replay board plain xs) (before ++ xs) y → legal_after board plain before (xs ++ y ∷ [])
legal-push board plain before [] y legal next = (subst (λ (rows : List Row). IsNext board plain rows y) (append-nil before) next, tt)
legal-push board plain before (x ∷ xs) y legal next =
    (legal.0, legal-push board (after board plain x) (before ++ x ∷ []) xs y legal.1 (subst (λ (rows : List Row). IsNext board (replay board (after board plain x) xs) rows y) (sym (append_assoc before (x ∷ []) xs)) next))

-- the law holds of one row more
law_push : (board : Board) (plain : Plain) (xs : List Row) (y : Row) → LawHolds board plain xs → Throughout (Law board) board (replay board plain xs).regs (moves_of board (replay board plain xs) y)
    → Law board (after board (replay board plain xs) y).regs → LawHolds board plain (xs ++ y ∷ [])
law_push board plain [] y holds all end = (all, end)
law_push board plain (x ∷ xs) y holds all end = (holds.0, law_push board (after board plain x) xs y holds.1 all end)

-- the plain board after a row is that of its answer
after_by : (board : Board) (plain plain' : Plain) (row : Row) (stop : Option ℕ) → IsWithinPlan stop (plan board plain row.worker row.call)
    → answer board plain row.worker row.call stop ≡ (row.answer, plain') → after_stop board plain row stop ≡ plain'
after_by board plain plain' row None within answered = ap (λ (p : Answer × Plain). p.1) answered
after_by board plain plain' row (Some made) within answered =
    let inside : ltb made (length (plan board plain row.worker row.call)) ≡ true = grind (arith, nat_tests) in
    rw inside (ap (λ (p : Answer × Plain). p.1) answered)

-- a fault was counted once, and nothing else was
rose_by : (fault : Bool) (count count' : ℕ) → Counts fault count count' → RoseBy count count' (cond fault 1 0)
rose_by true count count' is = is
rose_by false count count' is = subst (λ (c : ℕ). RoseBy count c 0) (sym is) (RoseBy-zero count)

-- a row that keeps no writes
abbrev pub row_of : ℕ → ℕ → Call → Answer → Row
row_of worker line call said = record { worker = worker; line = line; call = call; answer = said; writes = [] }

-- the rows of a worker, with one more
pub rows_of-push : (worker line : ℕ) (call : Call) (said : Answer) (rows : List Row) → rows_of worker (rows ++ row_of worker line call said ∷ []) ≡ rows_of worker rows ++ row_of worker line call said ∷ []
rows_of-push worker line call said rows =
    let row = row_of worker line call said in
    filter-append (λ r. eqb r.worker worker) rows (row ∷ []) ∙ ap (λ t. rows_of worker rows ++ cond t (row ∷ []) []) (eq-eqb worker worker refl)

-- a row more is one of its worker's
pub one_row_more : (worker line : ℕ) (call : Call) (said : Answer) (rows rows' : List Row) (n : ℕ) → rows' ≡ rows ++ row_of worker line call said ∷ [] → length (rows_of worker rows) ≡ n → length (rows_of worker rows') ≡ n + 1
one_row_more worker line call said rows rows' n pushed before =
    ap (λ rs. length (rows_of worker rs)) pushed ∙ ap length (rows_of-push worker line call said rows)
    ∙ omega (arith, before, length-append (rows_of worker rows) (row_of worker line call said ∷ []))

faults_of-push : (worker line : ℕ) (call : Call) (said : Answer) (rows : List Row) → faults_of worker (rows ++ row_of worker line call said ∷ []) ≡ faults_of worker rows + cond (is_fault said) 1 0
faults_of-push worker line call said rows =
    ap (count_by (λ r. is_fault r.answer)) (rows_of-push worker line call said rows)
    ∙ sum_by-append (λ r. cond (is_fault r.answer) 1 0) (rows_of worker rows) (row_of worker line call said ∷ [])
    ∙ ap (λ n. faults_of worker rows + n) (zero-add (cond (is_fault said) 1 0))

-- a script of no line does nothing
pub plays_none : (board : Board) (plain : Plain) (worker : ℕ) (told : Option Updates) (count : ℕ) → Law board plain.regs → PlaysScript board plain worker [] [] told told count count
plays_none board plain worker told count law = record {
  history = record { legal = tt; in_order = refl; keeps = All-nil (λ row. row.writes ≡ []); lawful = law };
  names = All-nil (λ row. NamesRail board row.call);
  rails = All-nil (λ row. HasRails board row.answer);
  moves = sym (with_more-nil told);
  faults = RoseBy-zero count;
}

module _ (board : Board) (plain now plain' : Plain) (worker line : ℕ) (call : Call) (said : Answer) (rows : List Row) (told mid told' : Option Updates) (count between count' : ℕ) (is : now ≡ replay board plain rows) (performs : Performs board now plain' worker call said mid told' between count') where
  abbrev the_row : Row
  the_row = row_of worker line call said

  -- the plain board after one row more
  pub replay_more : plain' ≡ replay board plain (rows ++ row_of worker line call said ∷ [])
  replay_more =
      sym (after_by board now plain' the_row (stop_of said) performs.took.within performs.answered)
      ∙ ap (λ p. after board p the_row) is ∙ sym (replay-append board plain rows (the_row ∷ []))

  moved_one : moved board now worker (the_row ∷ []) ≡ writes_of board (made_of (stop_of said) (plan board now worker call))
  moved_one = ap (λ t. cond t (writes_of board (moves_of board now the_row)) [] ++ []) (eq-eqb worker worker refl) ∙ append-nil (writes_of board (moves_of board now the_row))

  moved_more : moved board plain worker (rows ++ the_row ∷ []) ≡ moved board plain worker rows ++ writes_of board (made_of (stop_of said) (plan board now worker call))
  moved_more =
      moved-append board plain worker rows (the_row ∷ [])
      ∙ ap (λ p. moved board plain worker rows ++ moved board p worker (the_row ∷ [])) (sym is)
      ∙ ap (λ ws. moved board plain worker rows ++ ws) moved_one

  -- one call more is played
  pub plays_more : (script : List Call) (i : ℕ) → Throughout (Law board) board now.regs (made_of (stop_of said) (plan board now worker call)) → Law board plain'.regs → PlaysScript board plain worker (take i script) rows told mid count between
      → line ≡ i + 1 → length (rows_of worker rows) ≡ i → NamesRail board call → i < length script → call ≡ get_or script i call
      → PlaysScript board plain worker (take (i + 1) script) (rows ++ row_of worker line call said ∷ []) told told' count count'
  plays_more script i all law plays line_is lines names within here = record {
    history = record {
      legal = legal-push board plain [] rows the_row plays.history.legal (subst (λ (p : Plain). IsNext board p rows the_row) is (record {
        rail = names;
        stop = performs.took.within;
        answered = sym (ap (λ (p : Answer × Plain). p.0) performs.answered);
        line = line_is ∙ ap (λ n. n + 1) (sym lines);
        writes = inl refl;
      }));
      in_order =
          map-append turn_of rows (the_row ∷ []) ∙ ap (λ turns. turns ++ (worker, call) ∷ []) plays.history.in_order
          ∙ sym (ap (turns_of worker) (take_more script i call within ∙ ap (λ c. take i script ++ c ∷ []) (sym here)) ∙ map-append (λ (c : Call). (worker, c)) (take i script) (call ∷ []));
      keeps = All-push (λ r. r.writes ≡ []) rows the_row plays.history.keeps refl;
      lawful = law_push board plain rows the_row plays.history.lawful
          (subst (λ (p : Plain). Throughout (Law board) board p.regs (moves_of board p the_row)) is all)
          (subst (λ (p : Plain). Law board (after board p the_row).regs) is
          (subst (λ (p : Plain). Law board p.regs) (sym (after_by board now plain' the_row (stop_of said) performs.took.within performs.answered)) law));
    };
    names = All-push (λ r. NamesRail board r.call) rows the_row plays.names names;
    rails = All-push (λ r. HasRails board r.answer) rows the_row plays.rails performs.took.rails;
    moves =
        performs.took.updates ∙ ap (λ t. with_more t (map update_of (writes_of board (made_of (stop_of said) (plan board now worker call))))) plays.moves
        ∙ with_more-with_more told (map update_of (moved board plain worker rows)) (map update_of (writes_of board (made_of (stop_of said) (plan board now worker call))))
        ∙ ap (with_more told) (sym (map-append update_of (moved board plain worker rows) (writes_of board (made_of (stop_of said) (plan board now worker call)))) ∙ ap (map update_of) (sym moved_more));
    faults = subst (RoseBy count count') (sym (faults_of-push worker line call said rows))
        (RoseBy-trans count between count' (faults_of worker rows) (cond (is_fault said) 1 0) plays.faults (rose_by (is_fault said) between count' performs.took.faults));
  }

-- the plan of the wire counts one call more
pub stays_by_call : (board : Board) (plain now : Plain) (worker line : ℕ) (call : Call) (said : Answer) (rows : List Row) (told mid told' : Option Plan) → now ≡ replay board plain rows
    → StaysInStep (tries_of board plain worker rows) told mid → Tried (tries_for (plan board now worker call) said) mid told' → StaysInStep (tries_of board plain worker (rows ++ row_of worker line call said ∷ [])) told told'
stays_by_call board plain now worker line call said rows told mid told' is stays tried =
    let t = tries_for (plan board now worker call) said in
    let one : tries_of board now worker (row_of worker line call said ∷ []) ≡ t ∷ [] = ap (λ own. cond own (t ∷ []) []) (eq-eqb worker worker refl) in
    let all : tries_of board plain worker rows ++ t ∷ [] ≡ tries_of board plain worker (rows ++ row_of worker line call said ∷ []) =
    ap (λ ts. tries_of board plain worker rows ++ ts) (sym one)
    ∙ ap (λ p. tries_of board plain worker rows ++ tries_of board p worker (row_of worker line call said ∷ [])) is
    ∙ sym (tries_of-append board plain worker rows (row_of worker line call said ∷ [])) in
    subst (λ ts. StaysInStep ts told told') all (stays_more (tries_of board plain worker rows) t told mid told' stays tried)

stop_more : (own : Bool) (t : Tries) (ts : List Tries) (row : Row) (rows : List Row) → t.stopped ≡ is_fault row.answer → stops_in ts ≡ count_by (λ r. is_fault r.answer) rows
    → stops_in (cond own (t ∷ ts) ts) ≡ count_by (λ r. is_fault r.answer) (cond own (row ∷ rows) rows)
stop_more true t ts row rows same rest = ap (λ b. one_if b + stops_in ts) same ∙ ap (λ n. one_if (is_fault row.answer) + n) rest ∙ sym (sum_by-cons (λ r. cond (is_fault r.answer) 1 0) row rows)
stop_more false t ts row rows same rest = rest

-- the stops of a worker are the faults of its rows
pub stops_in-tries_of : (board : Board) (plain : Plain) (worker : ℕ) (rows : List Row) → stops_in (tries_of board plain worker rows) ≡ faults_of worker rows
stops_in-tries_of board plain worker [] = refl
stops_in-tries_of board plain worker (row ∷ rows) =
    stop_more (eqb row.worker worker) (record { made = length (moves_of board plain row); stopped = is_fault row.answer }) (tries_of board (after board plain row) worker rows) row (rows_of worker rows) refl
    (stops_in-tries_of board (after board plain row) worker rows)
