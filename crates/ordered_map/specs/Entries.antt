-- A map as the list of its entries, in the order in which their keys came.
use Rattle.std.specs.Prelude.{◌≡◌, ℕ, ◌+◌, List, [], ◌∷◌, Bool, Option, Some, None, map, slice_get, if◌then◌else◌}
use Rattle.std.specs.declared.cmp.Ordering.{Ordering}
use Rattle.std.specs.Option.{option_map}
use Rattle.std.specs.BTreeMap.{BTreeMap, get}

-- a key that is there keeps its place and has the value from now on; a new one comes last
abbrev pub insert_entry : {K V : Type 0} → (K → K → Bool) → List (K × V) → K → V → List (K × V)
insert_entry same [] key value = (key, value) ∷ []
insert_entry same (e ∷ es) key value = if same key e.0 then (e.0, value) ∷ es else e ∷ insert_entry same es key value

-- a key that is there keeps its place and its value; a new one comes last with this value
abbrev pub keep_entry : {K V : Type 0} → (K → K → Bool) → List (K × V) → K → V → List (K × V)
keep_entry same [] key value = (key, value) ∷ []
keep_entry same (e ∷ es) key value = if same key e.0 then e ∷ es else e ∷ keep_entry same es key value

-- the number of the first entry whose key passes, from 0
abbrev pub place_of : {K V : Type 0} → (K → Bool) → List (K × V) → Option ℕ
place_of passes [] = None
place_of passes (e ∷ es) = if passes e.0 then Some 0 else option_map (λ n. n + 1) (place_of passes es)

-- the key that stands at a place is found there, so that no key comes twice
abbrev pub IsOnce : {K V : Type 0} → (K → K → Bool) → List (K × V) → Type 0
IsOnce {K} {V} same es = (place : ℕ) (key : K) → slice_get (map (λ (e : K × V). e.0) es) place ≡ Some key → place_of (same key) es ≡ Some place

-- each key is found at the place of its entry, and nothing else is found
pub record Placed {K V : Type 0} (same : K → K → Bool) (cmp : K → K → Ordering) (entries : List (K × V)) (places : BTreeMap K ℕ) : Type 0 where
  pub found : (key : K) → get cmp places key ≡ place_of (same key) entries
  pub once : IsOnce same entries
