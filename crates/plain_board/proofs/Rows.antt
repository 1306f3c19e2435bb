-- The enables of a rail's rows, handle by handle.
use Rattle.std.specs.Prelude.{if◌then◌else◌}
use Rattle.std.proofs.Common.{◌≡◌, ℕ, ◌+◌, ◌==◌, arith, Bool, true, false, List, [], ◌∷◌, map, filter, cond, sum_by, refl, ap, ◌∙◌, sym}
use Rattle.std.proofs.lemmas.List.Sums.{sum_by-cons}
use Rattle.use_counts.specs.declared.handle_row.HandleRow.{HandleRow}
use Rattle.plain_board.specs.Handles.{Entry, rows_on}

-- what a handle adds to the enables of rail i
abbrev pub enables_by : ℕ → Entry → ℕ
enables_by i entry = if entry.0.0 == i then entry.1.enables else 0

abbrev of_row : HandleRow → ℕ
of_row row = row.enables

first_kept : (b : Bool) (entry : Entry) (rest : List Entry) (n : ℕ) → sum_by of_row (map (λ (e : Entry). e.1) rest) ≡ n
    → sum_by of_row (map (λ (e : Entry). e.1) (cond b (entry ∷ rest) rest)) ≡ cond b entry.1.enables 0 + n
first_kept true entry rest n is = sum_by-cons of_row entry.1 (map (λ e. e.1) rest) ∙ ap (λ m. entry.1.enables + m) is
first_kept false entry rest n is = is ∙ omega arith

-- the rows of a rail have the enables that the handles add
pub sum_by-rows_on : (i : ℕ) (handles : List Entry) → sum_by of_row (rows_on handles i) ≡ sum_by (enables_by i) handles
sum_by-rows_on i [] = refl
sum_by-rows_on i (entry ∷ rest) =
    first_kept (entry.0.0 == i) entry (filter (λ e. e.0.0 == i) rest) (sum_by (enables_by i) rest) (sum_by-rows_on i rest)
    ∙ sym (sum_by-cons (enables_by i) entry rest)
