-- What two rails name, by the lists of what each names and states.
use Rattle.std.specs.Prelude.{ℕ, Bool, List, [], ◌∷◌, slice_get, Option, unwrap_or}
use Rattle.std.specs.Option.{option_and_then}
use Rattle.board_graph.specs.Order.{is_taken}

-- the first rail names the second
abbrev pub names_in : List (List ℕ) → ℕ → ℕ → Bool
names_in named first second = is_taken (unwrap_or (slice_get named first) []) second

-- a rail and those that it names
abbrev pub group_in : List (List ℕ) → ℕ → List ℕ
group_in named r = r ∷ unwrap_or (slice_get named r) []

-- the spread that a rail states
abbrev pub spread_in : List (Option ℕ) → ℕ → Option ℕ
spread_in spreads r = option_and_then (λ spread. spread) (slice_get spreads r)
