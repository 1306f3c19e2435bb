-- The tree of a text as plain data.
use Rattle.std.specs.Prelude.{ℕ, zero, suc, List, [], ◌∷◌, Option, Some, None, filter, map, nat_eq, slice_index_or}
use Rattle.std.specs.List.{position_or_len}
use Rattle.std.specs.Option.{option_map_or}
use Rattle.dts_tree.specs.Value.{Property, part_by}
use Rattle.dts_tree.specs.Content.{Content, node_of, or_root}
use Rattle.dts_tree.specs.Order.{in_tree_order}

-- A node with its name, which is empty for the root; its parent, which the root alone has not; the place
-- of the name in its first body (the root's first slash, or 0); and its properties in order. Nodes are
-- numbered in tree order.
pub record Node : Type 0 where
  pub name : List ℕ
  pub parent : Option ℕ
  pub at : ℕ
  pub properties : List (Property ℕ)

-- the parents of the nodes as they are numbered while a text is read; the root's is never looked at
abbrev pub parents_of : Content → List ℕ
parents_of c = 0 ∷ map (λ e. e.0.0) c.children

-- the nodes in tree order, by those numbers
abbrev pub order_of : Content → List ℕ
order_of c = in_tree_order (parents_of c)

-- where a node stands in the order
abbrev pub rank : List ℕ → ℕ → ℕ
rank order k = position_or_len (nat_eq k) order

-- the properties of a node in order of their first settings, with the numbers of nodes in place of
-- labels; a tree has no label without a node
abbrev pub properties_of : Content → List ℕ → ℕ → List (Property ℕ)
properties_of c order k =
    map (λ e. record { name = e.0.1; parts = map (part_by (λ l. rank order (or_root (node_of c.labels l.name)))) e.1 })
    (filter (λ e. nat_eq e.0.0 k) c.properties)

-- a node by its number while the text is read
abbrev pub node_in : Content → List ℕ → ℕ → Node
node_in c order zero = record { name = []; parent = None; at = option_map_or (λ at. at) c.root_at 0; properties = properties_of c order 0 }
node_in c order (suc k) = record {
  name = slice_index_or (map (λ e. e.0.1) c.children) k [];
  parent = Some (rank order (slice_index_or (map (λ e. e.0.0) c.children) k 0));
  at = slice_index_or (map (λ e. e.1.at) c.children) k 0;
  properties = properties_of c order (suc k);
}

-- the tree of a content
unfoldable pub tree_of : Content → List Node
tree_of c = map (node_in c (order_of c)) (order_of c)
