-- What serves the contracts inside the crate, and nobody has to believe.
use Rattle.std.specs.Prelude.{ℕ, ◌<◌, ◌^◌, Bool, max, min, List, All}
use Rattle.request_set.specs.declared.row.Row.{Row}
use Rattle.request_set.specs.Requests.{Asking, is_asked_by, AskOnce}

-- what a row asks
abbrev pub asking_of : Row → Asking
asking_of row = record { worker = row.worker; name = row.handle.bytes; least = row.least; greatest = row.greatest }

-- the row is that of the worker's handle of this name
abbrev pub is_row_of : ℕ → List ℕ → Row → Bool
is_row_of worker name row = is_asked_by worker name (asking_of row)

-- the bounds of all values of 32 bits
abbrev pub any : ℕ × ℕ
any = (0, 4294967295)

-- the bounds of the values that lie within these and within what a row asks
abbrev pub narrowed : ℕ × ℕ → Row → ℕ × ℕ
narrowed bounds row = (max bounds.0 row.least, min bounds.1 row.greatest)

-- what holds of the requests of a rail at every time
pub record AreKept (list : List Asking) : Type 0 where
  -- no worker's handle asks twice
  pub once : AskOnce list
  -- what is asked has 32 bits
  pub fit : All (λ asking. asking.greatest < 2 ^ 32) list
