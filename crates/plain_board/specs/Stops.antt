-- Which rows are stopped as a plan says: which updates of a worker, counted from 1, are to be refused.
use Rattle.std.specs.Prelude.{ℕ, ◌≡◌, ◌+◌, ◌==◌, ◌&&◌, Bool, true, not, List, [], ◌∷◌, length, if◌then◌else◌}
use Rattle.std.specs.List.{list_any, list_all, range_with_len}
use Rattle.board.specs.declared.board.Board.{Board}
use Rattle.rows.specs.declared.row.Row.{Row}
use Rattle.plain_board.specs.declared.plain.Plain.{Plain}
use Rattle.plain_board.specs.History.{moves_of, after, is_fault}

-- what a row tried: how many moves it made, and whether the next one was refused
pub record Tries : Type 0 where
  pub made : ℕ
  pub stopped : Bool

-- what the rows of a worker tried, row by row
abbrev pub tries_of : Board → Plain → ℕ → List Row → List Tries
tries_of board plain worker [] = []
tries_of board plain worker (row ∷ rows) =
    let rest = tries_of board (after board plain row) worker rows in
    if row.worker == worker then record { made = length (moves_of board plain row); stopped = is_fault row.answer } ∷ rest else rest

-- the number of a bit
abbrev pub one_if : Bool → ℕ
one_if bit = if bit then 1 else 0

-- how many updates were tried
abbrev pub attempts : Tries → ℕ
attempts tries = tries.made + one_if tries.stopped

-- none of the next so many updates is planned to be refused, once `before` were tried
abbrev pub none_planned : (ℕ → Bool) → ℕ → ℕ → Bool
none_planned planned before made = list_all (λ number. not (planned number)) (range_with_len (before + 1) made)

-- no row made a move that is planned to be refused; `before` updates were tried before these rows
abbrev pub are_in_step : (ℕ → Bool) → ℕ → List Tries → Bool
are_in_step planned before [] = true
are_in_step planned before (tries ∷ rest) =
    none_planned planned before tries.made && are_in_step planned (before + attempts tries) rest

-- the row was stopped at an update that isn't planned to be refused
abbrev pub is_stray : (ℕ → Bool) → ℕ → Tries → Bool
is_stray planned before tries = tries.stopped && not (planned (before + tries.made + 1))

-- how many rows are stray
abbrev pub strays : (ℕ → Bool) → ℕ → List Tries → ℕ
strays planned before [] = 0
strays planned before (tries ∷ rest) = one_if (is_stray planned before tries) + strays planned (before + attempts tries) rest

-- a line of a plan: the number of a worker, and that of its update
abbrev pub Refusals : Type 0
Refusals = List (ℕ × ℕ)

-- the plan says that this update of a worker is refused
abbrev pub is_planned : Refusals → ℕ → ℕ → Bool
is_planned refusals worker number = list_any (λ refusal. refusal.0 == worker && refusal.1 == number) refusals

-- the rows are stopped exactly where the plan says
pub record ArePlanned (board : Board) (plain : Plain) (rows : List Row) (refusals : Refusals) : Type 0 where
  pub in_step : (worker : ℕ) → are_in_step (is_planned refusals worker) 0 (tries_of board plain worker rows) ≡ true
  pub none_stray : (worker : ℕ) → strays (is_planned refusals worker) 0 (tries_of board plain worker rows) ≡ 0
