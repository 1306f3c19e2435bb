-- Histories, one after another.
use Rattle.std.proofs.Common.{◌≡◌, ◌≢◌, ℕ, ◌+◌, ◌≤◌, Bool, true, false, cond, eqb, List, [], ◌∷◌, ◌++◌, length, map, refl, sym, subst, ap, ◌∙◌, append-nil, append_assoc, arith}
use Rattle.std.proofs.lemmas.Bool.Decides.{nat_tests}
use Rattle.std.proofs.lemmas.List.Elements.{filter-append}
use Rattle.board.specs.declared.board.Board.{Board}
use Rattle.board.specs.declared.write.Write.{Write}
use Rattle.rows.specs.declared.call.Call.{Call}
use Rattle.rows.specs.declared.row.Row.{Row}
use Rattle.rail_law.specs.Moves.{writes_of}
use Rattle.plain_board.specs.declared.plain.Plain.{Plain}
use Rattle.plain_board.specs.History.{moves_of, after, replay, rows_of, legal_after, moved, is_fault}
use Rattle.plain_board.specs.Law.{LawHolds}
use Rattle.plain_board.specs.Stops.{Tries, tries_of}
use Rattle.regulator_main.specs.Playing.{turn_of, turns_of, turns}

pub replay-append : (board : Board) (plain : Plain) (xs ys : List Row) → replay board plain (xs ++ ys) ≡ replay board (replay board plain xs) ys
replay-append board plain [] ys = refl
replay-append board plain (x ∷ xs) ys = replay-append board (after board plain x) xs ys

pub moved-append : (board : Board) (plain : Plain) (worker : ℕ) (xs ys : List Row) → moved board plain worker (xs ++ ys) ≡ moved board plain worker xs ++ moved board (replay board plain xs) worker ys
moved-append board plain worker [] ys = refl
moved-append board plain worker (x ∷ xs) ys =
    let first : List Write = cond (eqb x.worker worker) (writes_of board (moves_of board plain x)) [] in
    ap (λ rest. first ++ rest) (moved-append board (after board plain x) worker xs ys)
    ∙ sym (append_assoc first (moved board (after board plain x) worker xs) (moved board (replay board (after board plain x) xs) worker ys))

-- what a row tried stands in front of the rest, where the row is the worker's
tries_first : (mine : Bool) (first : Tries) (xs ys : List Tries) → cond mine (first ∷ xs ++ ys) (xs ++ ys) ≡ cond mine (first ∷ xs) xs ++ ys
tries_first true first xs ys = refl
tries_first false first xs ys = refl

pub tries_of-append : (board : Board) (plain : Plain) (worker : ℕ) (xs ys : List Row) → tries_of board plain worker (xs ++ ys) ≡ tries_of board plain worker xs ++ tries_of board (replay board plain xs) worker ys
tries_of-append board plain worker [] ys = refl
tries_of-append board plain worker (x ∷ xs) ys =
    let first : Tries = record { made = length (moves_of board plain x); stopped = is_fault x.answer } in
    ap (λ rest. cond (eqb x.worker worker) (first ∷ rest) rest) (tries_of-append board (after board plain x) worker xs ys)
    ∙ tries_first (eqb x.worker worker) first (tries_of board (after board plain x) worker xs) (tries_of board (replay board (after board plain x) xs) worker ys)

-- the law holds of two histories, one after the other
pub law-append : (board : Board) (plain : Plain) (xs ys : List Row) → LawHolds board plain xs → LawHolds board (replay board plain xs) ys → LawHolds board plain (xs ++ ys)
law-append board plain [] ys first then = then
law-append board plain (x ∷ xs) ys first then = (first.0, law-append board (after board plain x) xs ys first.1 then)

pub legal-append : (board : Board) (plain : Plain) (before xs ys : List Row) → legal_after board plain before xs → legal_after board (replay board plain xs) (before ++ xs) ys → legal_after board plain before (xs ++ ys)
legal-append board plain before [] ys first then = subst (λ (rows : List Row). legal_after board plain rows ys) (append-nil before) then
legal-append board plain before (x ∷ xs) ys first then = (
  first.0,
  legal-append board (after board plain x) (before ++ x ∷ []) xs ys first.1
      (subst (λ (rows : List Row). legal_after board (replay board (after board plain x) xs) rows ys) (sym (append_assoc before (x ∷ []) xs)) then),
)

-- none of these calls is one of this worker's
abbrev pub NoneAmong : ℕ → List (ℕ × Call) → Type 0
NoneAmong worker [] = Unit {0}
NoneAmong worker (turn ∷ turns) = (eqb turn.0 worker ≡ false) × NoneAmong worker turns

none-append : (worker : ℕ) (xs ys : List (ℕ × Call)) → NoneAmong worker xs → NoneAmong worker ys → NoneAmong worker (xs ++ ys)
none-append worker [] ys first then = then
none-append worker (x ∷ xs) ys first then = (first.0, none-append worker xs ys first.1 then)

-- a script has no call of another worker
pub none_of_script : (worker other : ℕ) (script : List Call) → other ≢ worker → NoneAmong other (turns_of worker script)
none_of_script worker other [] apart = tt
none_of_script worker other (call ∷ script) apart =
    let test : eqb worker other ≡ false = grind (arith, nat_tests) in
    (test, none_of_script worker other script apart)

-- nor have scripts one of a worker beyond theirs
pub none_beyond : (worker other : ℕ) (scripts : List (List Call)) → worker + length scripts ≤ other → NoneAmong other (turns worker scripts)
none_beyond worker other [] beyond = tt
none_beyond worker other (script ∷ scripts) beyond =
    none-append other (turns_of worker script) (turns (worker + 1) scripts)
    (none_of_script worker other script (λ is. absurd (omega arith)))
    (none_beyond (worker + 1) other scripts (omega arith))

pub moved_none : (board : Board) (plain : Plain) (worker : ℕ) (rows : List Row) → NoneAmong worker (map turn_of rows) → moved board plain worker rows ≡ []
moved_none board plain worker [] none = refl
moved_none board plain worker (row ∷ rows) none =
    ap (λ t. cond t (writes_of board (moves_of board plain row)) [] ++ moved board (after board plain row) worker rows) none.0
    ∙ moved_none board (after board plain row) worker rows none.1

pub tries_none : (board : Board) (plain : Plain) (worker : ℕ) (rows : List Row) → NoneAmong worker (map turn_of rows) → tries_of board plain worker rows ≡ []
tries_none board plain worker [] none = refl
tries_none board plain worker (row ∷ rows) none =
    let rest = tries_of board (after board plain row) worker rows in
    ap (λ t. cond t (record { made = length (moves_of board plain row); stopped = is_fault row.answer } ∷ rest) rest) none.0
    ∙ tries_none board (after board plain row) worker rows none.1

rows_none : (worker : ℕ) (rows : List Row) → NoneAmong worker (map turn_of rows) → rows_of worker rows ≡ []
rows_none worker [] none = refl
rows_none worker (row ∷ rows) none = ap (λ t. cond t (row ∷ rows_of worker rows) (rows_of worker rows)) none.0 ∙ rows_none worker rows none.1

-- the lines of a worker are counted alike where rows without it stand before
lines_later : (worker : ℕ) (old before : List Row) → NoneAmong worker (map turn_of old) → rows_of worker (old ++ before) ≡ rows_of worker before
lines_later worker old before none =
    filter-append (λ row. eqb row.worker worker) old before ∙ ap (λ rows. rows ++ rows_of worker before) (rows_none worker old none)

-- a worker's rows may come after rows without it
pub legal_later : (board : Board) (plain : Plain) (old before rows : List Row) (worker : ℕ) (script : List Call) → NoneAmong worker (map turn_of old) → map turn_of rows ≡ turns_of worker script
    → legal_after board plain before rows → legal_after board plain (old ++ before) rows
legal_later board plain old before [] worker script none is legal = tt
legal_later board plain old before (row ∷ rows) worker [] none is legal = absurd (cc is)
legal_later board plain old before (row ∷ rows) worker (call ∷ script) none is legal =
    let turn : turn_of row ≡ (worker, call) = cc is in
    let mine : row.worker ≡ worker = ap (λ (t : ℕ × Call). t.0) turn in
    let rest : map turn_of rows ≡ turns_of worker script = cc is in
    let unseen : NoneAmong row.worker (map turn_of old) = subst (λ (w : ℕ). NoneAmong w (map turn_of old)) (sym mine) none in (
      record {
        rail = legal.0.rail;
        stop = legal.0.stop;
        answered = legal.0.answered;
        line = legal.0.line ∙ ap (λ lines. length lines + 1) (sym (lines_later row.worker old before unseen));
        writes = legal.0.writes;
      },
      subst (λ (seen : List Row). legal_after board (after board plain row) seen rows) (sym (append_assoc old before (row ∷ [])))
          (legal_later board (after board plain row) old (before ++ row ∷ []) rows worker script none rest legal.1),
    )

-- the calls of one script more
pub turns-push : (worker : ℕ) (scripts : List (List Call)) (script : List Call) → turns worker (scripts ++ script ∷ []) ≡ turns worker scripts ++ turns_of (worker + length scripts) script
turns-push worker [] script =
    let same : worker ≡ worker + 0 = omega arith in
    append-nil (turns_of worker script) ∙ ap (λ w. turns_of w script) same
turns-push worker (first ∷ scripts) script =
    let same : worker + 1 + length scripts ≡ worker + length (first ∷ scripts) = omega arith in
    ap (λ rest. turns_of worker first ++ rest) (turns-push (worker + 1) scripts script ∙ ap (λ w. turns (worker + 1) scripts ++ turns_of w script) same)
    ∙ sym (append_assoc (turns_of worker first) (turns (worker + 1) scripts) (turns_of (worker + length (first ∷ scripts)) script))
