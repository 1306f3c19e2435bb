-- The first of several things that may be told.
use Rattle.std.specs.Prelude.{Bool, List, [], ◌∷◌, Option, None, Some, if◌then◌else◌}
use Rattle.std.specs.Option.{option_or}

-- the first that is told
abbrev pub first_of : {A : Type 0} → List (Option A) → Option A
first_of [] = None
first_of (told ∷ others) = option_or told (first_of others)

-- this, if the test holds
abbrev pub when : {A : Type 0} → Bool → A → Option A
when holds this = if holds then Some this else None
