-- What the handles of workers ask of one rail.
use Rattle.std.specs.Prelude.{ℕ, ◌≡◌, ◌==◌, ◌&&◌, Bool, not, false, nat_le, max, bytes_eq, List, [], ◌∷◌, ◌++◌, filter, find, Option, option_map, unwrap_or, AllPairs}
use Rattle.std.specs.List.{list_all}
use Rattle.board.specs.Rail.{least}

-- what a worker's handle of this name asks: the least and the greatest value, in µV
pub record Asking : Type 0 where
  pub worker : ℕ
  pub name : List ℕ
  pub least : ℕ
  pub greatest : ℕ

-- it is the request of the worker's handle of this name
abbrev pub is_asked_by : ℕ → List ℕ → Asking → Bool
is_asked_by worker name asking = asking.worker == worker && bytes_eq asking.name name

-- what all but the worker's handle of this name ask
abbrev pub without : ℕ → List ℕ → List Asking → List Asking
without worker name list = filter (λ asking. not (is_asked_by worker name asking)) list

-- what is asked once the worker's handle of this name asks for these bounds: they come last, and stand for all that it asked before
abbrev pub with_asked : ℕ → List ℕ → ℕ → ℕ → List Asking → List Asking
with_asked worker name lo hi list = without worker name list ++ record { worker = worker; name = name; least = lo; greatest = hi } ∷ []

-- the bounds that the worker's handle of this name asks for, where it asks
abbrev pub asked_by : ℕ → List ℕ → List Asking → Option (ℕ × ℕ)
asked_by worker name list = option_map (λ asking. (asking.least, asking.greatest)) (find (is_asked_by worker name) list)

-- the value lies within what is asked
abbrev pub meets : ℕ → Asking → Bool
meets uv asking = nat_le asking.least uv && nat_le uv asking.greatest

-- the value lies within all that is asked
abbrev pub meets_all : List Asking → ℕ → Bool
meets_all list uv = list_all (meets uv) list

-- the greatest number of a list, and 0 where it has none
abbrev pub greatest_of : List ℕ → ℕ
greatest_of [] = 0
greatest_of (n ∷ ns) = max n (greatest_of ns)

-- the least number of a list, and the greatest of 32 bits where it has none
abbrev pub least_of : List ℕ → ℕ
least_of ns = unwrap_or (least ns) 4294967295

-- no worker's handle asks twice
abbrev pub AskOnce : List Asking → Type 0
AskOnce list = AllPairs (λ one other. is_asked_by one.worker one.name other ≡ false) list
