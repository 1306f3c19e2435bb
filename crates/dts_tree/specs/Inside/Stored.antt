-- What was set, as it is kept.
use Rattle.std.specs.Prelude.{ℕ, ◌<◌, ◌≤◌, List, map, length, slice_range, slice_index_or}
use Rattle.std.specs.List.{flat_map}
use Rattle.dts_tree.specs.declared.store.Span.{Span}
use Rattle.dts_tree.specs.declared.store.Settled.{Settled}
use Rattle.dts_tree.specs.declared.store.Store.{Store}
use Rattle.dts_tree.specs.declared.piece.Piece.{Piece}
use Rattle.dts_tree.specs.declared.piece.Place.{Place}
use Rattle.dts_tree.specs.Value.{Part, part_by}
use Rattle.dts_tree.specs.Setting.{Label}
use Rattle.dts_tree.specs.Content.{Content}
use Rattle.dts_tree.specs.Inside.Pieces.{parts_of, reference_in, label_at}

-- the value that some of the pieces make
abbrev pub value_in : List ℕ → List (Piece Place) → Span → List (Part Label)
value_in text pieces span = map (part_by (label_at text)) (parts_of (slice_range pieces span.from span.to))

-- the values of properties
abbrev pub values_kept : List ℕ → List (Piece Place) → List ((ℕ × List ℕ) × Span) → List ((ℕ × List ℕ) × List (Part Label))
values_kept text pieces es = map (λ e. (e.0, value_in text pieces e.1)) es

-- what was set, in its two parts: all but the labels, and these
abbrev pub store_of : Settled → List ((ℕ × List ℕ) × ℕ) → Store
store_of settled labels = record { root_at = settled.root_at; children = settled.children; labels = labels; properties = settled.properties }

-- the content that is kept
abbrev pub content_of : List ℕ → List (Piece Place) → Store → Content
content_of text pieces store = record {
  root_at = store.root_at;
  children = store.children;
  labels = store.labels;
  properties = values_kept text pieces store.properties;
}

-- the labels in values
abbrev pub labels_kept : List ℕ → List (Piece Place) → List Label
labels_kept text pieces = map (label_at text) (flat_map reference_in pieces)

-- parents are numbered before their children, labels and properties stand at nodes that are there, and
-- there are no more of them than 32 bits number
pub record Sound (store : Store) : Type 0 where
  pub few : length store.children < 4294967295
  pub earlier : (k : ℕ) → k < length store.children → slice_index_or (map (λ e. e.0.0) store.children) k 0 ≤ k
  pub labels : (k : ℕ) → k < length store.labels → slice_index_or (map (λ e. e.1) store.labels) k 0 ≤ length store.children
  pub owners : (k : ℕ) → k < length store.properties → slice_index_or (map (λ e. e.0.0) store.properties) k 0 ≤ length store.children
  pub few_properties : length store.properties < 4294967295
