use Rattle.std.specs.Prelude.{◌≡◌, List, [], ◌++◌, Option, Some, None, IfSome}
use Rattle.std.specs.Option.{option_map}

-- what is told, with more at its end
abbrev pub with_more : {A : Type 0} → Option (List A) → List A → Option (List A)
with_more told more = option_map (λ items. items ++ more) told

-- what is told, with these in front
abbrev pub with_before : {A : Type 0} → List A → Option (List A) → Option (List A)
with_before taken told = option_map (λ items. taken ++ items) told

-- nothing is left, where it is told
abbrev pub IsSpent : {A : Type 0} → Option (List A) → Type 0
IsSpent told = IfSome told (λ items. items ≡ [])

-- a part begins with nothing, and tells it where the whole tells what it keeps
abbrev pub StartsEmpty : {A : Type 0} → Option (List A) → Option (List A) → Type 0
StartsEmpty None told = IsSpent told
StartsEmpty (Some _) told = told ≡ Some []
