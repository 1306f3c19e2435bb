-- A tree that is kept by the numbers that its nodes have while the text is read.
use Rattle.std.specs.Prelude.{ℕ, zero, suc, ◌<◌, ◌≤◌, List, [], ◌∷◌, Some, None, filter, length, map, nat_eq, slice_index_or, slice_range}
use Rattle.std.specs.List.{AllByRecursion}
use Rattle.std.specs.Option.{option_map_or}
use Rattle.dts_tree.specs.declared.store.Span.{Span}
use Rattle.dts_tree.specs.declared.store.Settled.{Settled}
use Rattle.dts_tree.specs.declared.piece.Piece.{Piece}
use Rattle.dts_tree.specs.Value.{Property}
use Rattle.dts_tree.specs.Tree.{Node, rank}
use Rattle.dts_tree.specs.Inside.Below.{IsPieceBelow}
use Rattle.dts_tree.specs.Inside.Layout.{IsLayout}
use Rattle.dts_tree.specs.Inside.Listing.{IsListing}
use Rattle.dts_tree.specs.Inside.Pieces.{parts_of}

-- a property whose value is kept in pieces
abbrev pub property_kept : List (Piece ℕ) → (ℕ × List ℕ) × Span → Property ℕ
property_kept pieces e = record { name = e.0.1; parts = parts_of (slice_range pieces e.1.from e.1.to) }

-- the properties of a node
abbrev pub properties_kept : List (Piece ℕ) → List ((ℕ × List ℕ) × Span) → ℕ → List (Property ℕ)
properties_kept pieces properties k = map (property_kept pieces) (filter (λ e. nat_eq e.0.0 k) properties)

-- a node by its number
abbrev pub node_kept : Settled → List (Piece ℕ) → List ℕ → ℕ → Node
node_kept store pieces order zero = record { name = []; parent = None; at = option_map_or (λ at. at) store.root_at 0; properties = properties_kept pieces store.properties 0 }
node_kept store pieces order (suc k) = record {
  name = slice_index_or (map (λ e. e.0.1) store.children) k [];
  parent = Some (rank order (slice_index_or (map (λ e. e.0.0) store.children) k 0));
  at = slice_index_or (map (λ e. e.1.at) store.children) k 0;
  properties = properties_kept pieces store.properties (suc k);
}

-- the nodes in tree order
unfoldable pub nodes_kept : Settled → List (Piece ℕ) → List ℕ → List Node
nodes_kept store pieces order = map (node_kept store pieces order) order

-- nodes are laid out and their properties listed, and no reference is to a node that isn't there
pub record Kept (store : Settled) (pieces : List (Piece ℕ)) (order ranks places starts : List ℕ) : Type 0 where
  pub few : length store.children < 4294967295
  pub earlier : (k : ℕ) → k < length store.children → slice_index_or (map (λ e. e.0.0) store.children) k 0 ≤ k
  pub layout : IsLayout (0 ∷ map (λ e. e.0.0) store.children) order ranks
  pub listing : IsListing (map (λ e. e.0.0) store.properties) order places starts
  pub below : AllByRecursion (IsPieceBelow (length order)) pieces
