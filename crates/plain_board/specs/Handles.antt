-- The open handles of a plain board.
use Rattle.std.specs.Prelude.{ℕ, ◌==◌, ◌&&◌, Bool, not, nat_le, nat_lt, List, ◌∷◌, ◌++◌, map, filter, find, count_by, bytes_eq, slice_get, Option, Some, None, option_map, if◌then◌else◌}
use Rattle.board.specs.declared.board.Board.{Board}
use Rattle.board.specs.declared.rail.Rail.{Rail}
use Rattle.board.specs.declared.rail_id.RailId.{RailId}
use Rattle.use_counts.specs.declared.handle_row.HandleRow.{HandleRow}
use Rattle.plain_board.specs.declared.plain.Plain.{Plain}

-- a handle, with its rail
abbrev pub Entry : Type 0
Entry = RailId × HandleRow

-- it is the worker's handle of this name
abbrev pub is_own : ℕ → List ℕ → Entry → Bool
is_own worker name entry = entry.1.worker == worker && bytes_eq entry.1.handle.bytes name

-- the worker's open handle of this name
abbrev pub open_of : List Entry → ℕ → List ℕ → Option Entry
open_of handles worker name = find (is_own worker name) handles

-- the rail of a worker's open handle, by its name
abbrev pub own : Plain → ℕ → List ℕ → Option ℕ
own plain worker name = option_map (λ entry. entry.0.0) (open_of plain.handles worker name)

-- how many open handles a worker has
abbrev pub count_own : List Entry → ℕ → ℕ
count_own handles worker = count_by (λ entry. entry.1.worker == worker) handles

-- the handles of rail i, in the order in which they were opened
abbrev pub rows_on : List Entry → ℕ → List HandleRow
rows_on handles i = map (λ entry. entry.1) (filter (λ entry. entry.0.0 == i) handles)

-- with a new handle: it stands last among those of its rail
abbrev pub with_open : List Entry → Entry → List Entry
with_open handles new =
    filter (λ entry. nat_le entry.0.0 new.0.0) handles ++ new ∷ filter (λ entry. nat_lt new.0.0 entry.0.0) handles

-- without the worker's handle of this name
abbrev pub without_open : List Entry → ℕ → List ℕ → List Entry
without_open handles worker name = filter (λ entry. not (is_own worker name entry)) handles

-- with another row of the worker's handle of this name
abbrev pub with_row : List Entry → ℕ → List ℕ → (HandleRow → HandleRow) → List Entry
with_row handles worker name change = map (λ entry. if is_own worker name entry then (entry.0, change entry.1) else entry) handles

-- what is said of a handle and its rail; `none` where there is no such rail
abbrev pub on_rail : {A : Type 0} → A → (RailId → Rail → HandleRow → A) → Entry → Option Rail → A
on_rail none said entry None = none
on_rail none said entry (Some rail) = said entry.0 rail entry.1

-- what is said of an open handle and its rail; `none` where there is none
abbrev pub for_open : {A : Type 0} → A → (RailId → Rail → HandleRow → A) → Board → Option Entry → A
for_open none said board None = none
for_open none said board (Some entry) = on_rail none said entry (slice_get board.rails entry.0.0)
