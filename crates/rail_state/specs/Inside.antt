-- What serves the contracts inside the crate, and nobody has to believe.
use Rattle.std.specs.Prelude.{◌↔◌, List, Contains, filter_map}
use Rattle.request_set.specs.Requests.{Asking}
use Rattle.use_counts.specs.declared.handle_row.HandleRow.{HandleRow}
use Rattle.rail_state.specs.Requests.{asking_of, DifferInName}

-- the requests are those of the handles, in any order
abbrev pub AreOf : List HandleRow → List Asking → Type 0
AreOf rows asked = (asking : Asking) → Contains asked asking ↔ Contains (filter_map asking_of rows) asking

-- what holds of the handles of a rail and the requests that are kept beside them
pub record AreKept (rows : List HandleRow) (asked : List Asking) : Type 0 where
  -- no two handles are of one worker and name
  pub apart : DifferInName rows
  -- what is asked is what the handles ask
  pub theirs : AreOf rows asked
