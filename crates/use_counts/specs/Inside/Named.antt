-- The names of a map, with their rails.
use Rattle.std.specs.Prelude.{ℕ, List, map}
use Rattle.arrayvec.specs.ArrayString.{ArrayString}
use Rattle.indexmap.specs.IndexMap.{IndexMap}
use Rattle.board.specs.declared.rail_id.RailId.{RailId}

-- the bytes of each name, and the number of its rail
abbrev pub named : {S : Type 0} → IndexMap ArrayString RailId S → List (List ℕ × ℕ)
named names = map (λ entry. (entry.0.bytes, entry.1.0)) names.entries
