-- The names of a worker, as the map has them and as contracts see them.
use Rattle.std.proofs.Common.{◌≡◌, ℕ, suc, Bool, true, false, cond, if◌then◌else◌, List, [], ◌∷◌, map, option_map, Option, Some, None, bytes_eq, refl, sym, ap, ◌∙◌, is_some, ◌+◌, length}
use Rattle.std.specs.List.{IsDistinct, AllByRecursion}
use Rattle.std.specs.Map.{lookup, keys_of}
use Rattle.arrayvec.specs.ArrayString.{ArrayString}
use Rattle.board.specs.declared.rail_id.RailId.{RailId}
use Rattle.indexmap.specs.IndexMap.{IndexMap, get, index_map_len, IsUnique}
use Rattle.use_counts.specs.Uses.{rail_named}
use Rattle.use_counts.specs.Inside.Named.{named}

-- two names with the same bytes
abbrev pub same : ArrayString → ArrayString → Bool
same a b = bytes_eq a.bytes b.bytes

abbrev pub number : Option RailId → Option ℕ
number rail = option_map {T = RailId} (λ r. r.0) rail

abbrev seen : List (ArrayString × RailId) → List (List ℕ × ℕ)
seen entries = map (λ (entry : ArrayString × RailId). (entry.0.bytes, entry.1.0)) entries

lookup-seen : (name : List ℕ) (entries : List (ArrayString × RailId)) → lookup (bytes_eq name) (seen entries) ≡ number (lookup (λ (k : ArrayString). bytes_eq name k.bytes) entries)
lookup-seen name [] = refl
lookup-seen name (e ∷ es) =
    elim (bytes_eq name e.0.bytes) as (λ (b : Bool). cond b (Some e.1.0) (lookup (bytes_eq name) (seen es)) ≡ number (cond b (Some e.1) (lookup (λ (k : ArrayString). bytes_eq name k.bytes) es))) [ true ↦ refl | false ↦ lookup-seen name es ]

apart : (name : ArrayString) (entries : List (ArrayString × RailId)) → AllByRecursion (λ (k : ArrayString). same name k ≡ false) (keys_of entries) → AllByRecursion (λ k. bytes_eq name.bytes k ≡ false) (map (λ (e : List ℕ × ℕ). e.0) (seen entries))
apart name [] h = h
apart name (e ∷ es) h = (h.0, apart name es h.1)

distinct-seen : (entries : List (ArrayString × RailId)) → IsDistinct same (keys_of entries) → IsDistinct bytes_eq (map (λ (e : List ℕ × ℕ). e.0) (seen entries))
unfolding IsDistinct
distinct-seen [] h = h
distinct-seen (e ∷ es) h = (apart e.0 es h.0, distinct-seen es h.1)

pub distinct-named : {S : Type 0} (names : IndexMap ArrayString RailId S) → IsUnique same names → IsDistinct bytes_eq (map (λ (e : List ℕ × ℕ). e.0) (named names))
distinct-named names unique = distinct-seen names.entries unique

pub rail_named-named : {S : Type 0} (names : IndexMap ArrayString RailId S) (key : ArrayString) → rail_named (named names) key.bytes ≡ number (get same names key)
rail_named-named names key = lookup-seen key.bytes names.entries

number-cond : (b : Bool) (rail before : Option RailId) → number (cond b rail before) ≡ if b then number rail else number before
number-cond true rail before = refl
number-cond false rail before = refl

-- one name has another rail, or none
pub rail_named-update : {S : Type 0} (old new : IndexMap ArrayString RailId S) (key : ArrayString) (rail : Option RailId)
    → ((q : ArrayString) → get same new q ≡ cond (same key q) rail (get same old q))
    → (name : List ℕ) → rail_named (named new) name ≡ if bytes_eq key.bytes name then number rail else rail_named (named old) name
rail_named-update old new key rail is name =
    let q : ArrayString = record { bytes = name; spare = [] } in
    rail_named-named new q
    ∙ ap number (is q)
    ∙ number-cond (same key q) rail (get same old q)
    ∙ ap (λ (before : Option ℕ). if bytes_eq key.bytes name then number rail else before) (sym (rail_named-named old q))

is_some-number : (rail : Option RailId) → is_some (number rail) ≡ is_some rail
is_some-number None = refl
is_some-number (Some rail) = refl

length-seen : (entries : List (ArrayString × RailId)) → length (seen entries) ≡ length entries
length-seen [] = refl
length-seen (e ∷ es) = ap suc (length-seen es)

length-named : {S : Type 0} (names : IndexMap ArrayString RailId S) → length (named names) ≡ index_map_len names
length-named names = length-seen names.entries

-- whether a name is open
is_some-rail_named : {S : Type 0} (names : IndexMap ArrayString RailId S) (key : ArrayString) → is_some (rail_named (named names) key.bytes) ≡ is_some (get same names key)
is_some-rail_named names key = ap is_some (rail_named-named names key) ∙ is_some-number (get same names key)

-- a name that wasn't open makes one more
pub length-more : {S : Type 0} (old new : IndexMap ArrayString RailId S) (key : ArrayString) (got : Option RailId)
    → got ≡ get same old key → rail_named (named old) key.bytes ≡ None
    → index_map_len new ≡ index_map_len old + (if is_some got then 0 else 1)
    → length (named new) ≡ length (named old) + 1
length-more old new key got is closed more =
    let none : is_some got ≡ false = ap is_some is ∙ sym (is_some-rail_named old key) ∙ ap is_some closed in
    length-named new ∙ more ∙ ap (λ (b : Bool). index_map_len old + (if b then 0 else 1)) none ∙ ap (λ (n : ℕ). n + 1) (sym (length-named old))

-- a name that was open makes one less
pub length-fewer : {S : Type 0} (old new : IndexMap ArrayString RailId S) (key : ArrayString) (got : Option RailId)
    → got ≡ get same old key
    → index_map_len new + (if is_some got then 1 else 0) ≡ index_map_len old
    → length (named new) + (if is_some (rail_named (named old) key.bytes) then 1 else 0) ≡ length (named old)
length-fewer old new key got is fewer =
    let some : is_some (rail_named (named old) key.bytes) ≡ is_some got = is_some-rail_named old key ∙ ap is_some (sym is) in
    ap (λ (n : ℕ). n + (if is_some (rail_named (named old) key.bytes) then 1 else 0)) (length-named new)
    ∙ ap (λ (b : Bool). index_map_len new + (if b then 1 else 0)) some
    ∙ fewer
    ∙ sym (length-named old)
