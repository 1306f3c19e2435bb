-- What the handles ask of a rail, handle by handle.
use Rattle.std.specs.Prelude.{ℕ, ◌==◌, ◌&&◌, Bool, true, not, List, Option, Some, None, if◌then◌else◌}
use Rattle.plain_board.specs.Handles.{Entry, is_own}
use Rattle.plain_board.specs.Requests.{meets}

-- what a handle asks of rail i, unless it is the worker's of this name
abbrev pub asks : ℕ → List ℕ → ℕ → Entry → Option (ℕ × ℕ)
asks worker name i entry = if entry.0.0 == i && not (is_own worker name entry) then entry.1.request else None

-- the value meets the request, where there is one
abbrev pub meets_any : ℕ → Option (ℕ × ℕ) → Bool
meets_any uv None = true
meets_any uv (Some request) = meets uv request
