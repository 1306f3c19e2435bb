-- What the handles of a rail ask, as a set of requests.
use Rattle.std.specs.Prelude.{ℕ, ◌≡◌, Bool, false, not, List, AllPairs, Option, Some, None, filter, filter_map}
use Rattle.request_set.specs.Requests.{Asking, meets_all}
use Rattle.use_counts.specs.declared.handle_row.HandleRow.{HandleRow}
use Rattle.use_counts.specs.Uses.{is_row_of}

-- what a handle asks, where it asks
abbrev pub asking_for : HandleRow → Option (ℕ × ℕ) → Option Asking
asking_for row None = None
asking_for row (Some request) = Some (record { worker = row.worker; name = row.handle.bytes; least = request.0; greatest = request.1 })

abbrev pub asking_of : HandleRow → Option Asking
asking_of row = asking_for row row.request

-- the value lies within what each of these handles asks
abbrev pub meets_rows : List HandleRow → ℕ → Bool
meets_rows rows uv = meets_all (filter_map asking_of rows) uv

-- all handles but the worker's of this name
abbrev pub others_than : ℕ → List ℕ → List HandleRow → List HandleRow
others_than worker name rows = filter (λ row. not (is_row_of worker name row)) rows

-- no two handles are of one worker and name
abbrev pub DifferInName : List HandleRow → Type 0
DifferInName rows = AllPairs (λ one other. is_row_of one.worker one.handle.bytes other ≡ false) rows
