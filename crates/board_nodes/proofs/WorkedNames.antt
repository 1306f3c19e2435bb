-- Names of rails worked out by hand.
use Rattle.std.proofs.Common.{◌≡◌, ℕ, List, [], ◌∷◌, Some, None, true, false, map, refl, replicate}
use Rattle.std.specs.Prelude.{codes}
use Rattle.dts_tree.specs.Tree.{Node}
use Rattle.board_nodes.specs.Rails.{printed_byte, printed, or_name, name_at}
use Rattle.board_nodes.specs.Faults.{pairs_with, pairs_below, long_name, same_at, two_names}
use Rattle.board_nodes.proofs.WorkedTree.{node, root, text, number, rail_name}

edges : map printed_byte (0 ∷ 0x20 ∷ 0x21 ∷ 0x5e ∷ 0x7e ∷ 0x7f ∷ 255 ∷ []) ≡ 0x5f ∷ 0x5f ∷ 0x21 ∷ 0x5e ∷ 0x7e ∷ 0x5f ∷ 0x5f ∷ []
edges = refl

with_blanks : printed (codes " a b") ≡ codes "_a_b"
with_blanks = refl

other : or_name (codes "n") [] ≡ codes "n"
other = refl

first : or_name (codes "n") (codes "a") ≡ codes "a"
first = refl

abbrev nodes : List Node
nodes =
    root
    ∷ node (codes "ldo1") 0 10 (rail_name (text (codes "usb phy") ∷ text (codes "b") ∷ []) ∷ [])
    ∷ node (codes "ldo@2") 0 20 []
    ∷ node (codes "ldo3") 0 30 (rail_name (text [] ∷ text (codes "b") ∷ []) ∷ [])
    ∷ node (codes "ldo4") 0 40 (rail_name (text (codes "a") ∷ number 1 ∷ []) ∷ [])
    ∷ node (codes "ldo5") 0 50 (rail_name [] ∷ [])
    ∷ []

-- the first string, or else the node's name: without the property, with an empty string, with a number, and without a value
names : map (name_at nodes) (0 ∷ 1 ∷ 2 ∷ 3 ∷ 4 ∷ 5 ∷ []) ≡ [] ∷ codes "usb_phy" ∷ codes "ldo@2" ∷ codes "ldo3" ∷ codes "ldo4" ∷ codes "ldo5" ∷ []
names = refl

-- a name of so many bytes
abbrev bytes : ℕ → List ℕ
bytes n = replicate n 0x61

most : long_name ([] ∷ bytes 64 ∷ []) ≡ None
most = refl

one_more : long_name (bytes 64 ∷ bytes 65 ∷ bytes 66 ∷ []) ≡ Some 1
one_more = refl

with_two : pairs_with 4 1 ≡ (1, 2) ∷ (1, 3) ∷ []
with_two = refl

of_last : pairs_with 4 3 ≡ []
of_last = refl

pairs : pairs_below 3 ≡ (0, 1) ∷ (0, 2) ∷ (1, 2) ∷ []
pairs = refl

same : same_at (codes "a" ∷ codes "b" ∷ codes "a" ∷ []) 0 2 ≡ true
same = refl

differ : same_at (codes "a" ∷ codes "ab" ∷ []) 0 1 ≡ false
differ = refl

-- of the pairs (0, 2) and (1, 3) the first, and of (1, 2) and (0, 3) the one with the lesser first
least_first : two_names (codes "a" ∷ codes "b" ∷ codes "a" ∷ codes "b" ∷ []) ≡ Some (0, 2)
least_first = refl

not_nearest : two_names (codes "a" ∷ codes "b" ∷ codes "b" ∷ codes "a" ∷ []) ≡ Some (0, 3)
not_nearest = refl

least_second : two_names (codes "a" ∷ codes "a" ∷ codes "a" ∷ []) ≡ Some (0, 1)
least_second = refl

all_differ : two_names (codes "a" ∷ codes "A" ∷ [] ∷ []) ≡ None
all_differ = refl
