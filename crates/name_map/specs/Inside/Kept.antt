-- How entries are found: by short keys.
use Rattle.std.specs.Prelude.{◌≡◌, ℕ, ◌≤◌, List, Some, length, if◌then◌else◌}
use Rattle.std.specs.List.{AllByRecursion}
use Rattle.std.specs.BTreeMap.{BTreeMap, get}
use Rattle.std.specs.Option.{IsSome, unwrap_or}
use Rattle.std.specs.Ordering.{is_eq}
use Rattle.name_map.specs.NameEntries.{place_of, size_of}
use Rattle.name_map.specs.Inside.Keys.{Key, key_of, key_cmp, is_key}
use Rattle.name_map.specs.Inside.States.{Edges}

abbrev pub Places : Type 0
Places = BTreeMap Key ℕ

-- each entry has a short key and is found by it, and nothing else is found; and no edge is there but by a
-- byte of a name
pub record Kept {V : Type 0} (edges : Edges) (places : Places) (entries : List ((ℕ × List ℕ) × V)) : Type 0 where
  pub few : length edges ≤ size_of entries
  pub short : size_of entries ≤ 4294967295
  pub coded : AllByRecursion (λ e. IsSome (key_of edges e.0)) entries
  pub found : (key : Key) → get key_cmp places key ≡ place_of (λ a. is_key key (key_of edges a)) entries

-- a key stands at a place: where it stood, or else at the end
pub record IsPut (edges : Edges) (a : ℕ × List ℕ) (old new : Places) (end place : ℕ) : Type 0 where
  pub led : IsSome (key_of edges a)
  pub at : (key : Key) → key_of edges a ≡ Some key → place ≡ unwrap_or (get key_cmp old key) end
  pub found : (key : Key) → key_of edges a ≡ Some key → (q : Key) → get key_cmp new q ≡ (if is_eq (key_cmp key q) then Some place else get key_cmp old q)
