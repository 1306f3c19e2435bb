-- Boards worked out by hand.
use Rattle.std.proofs.Common.{◌≡◌, ℕ, false, true, List, [], ◌∷◌, map, Some, None, refl}
use Rattle.std.specs.Prelude.{codes}
use Rattle.dts_tree.specs.declared.value.Cell.TheVariants.{Num, Node as Reference}
use Rattle.dts_tree.specs.Value.{Part, Property, Cells, Text}
use Rattle.dts_tree.specs.Tree.{Node}
use Rattle.board_draft.specs.declared.fault.BoardFault.TheVariants.{NoRails, FixedRange, BadCells, NoSupply, SupplyLoop, NoCouple, OneWay, NoSpread, SpreadsDiffer, CoupledSupplier}
use Rattle.constraints.specs.declared.prop.Prop.TheVariants.{Supply}
use Rattle.board_draft.specs.Faults.{first_fault}
use Rattle.board_draft.specs.Links.{graph_of}
use Rattle.board_draft.specs.Sketch.{sketch_of}
use Rattle.board_nodes.specs.Rails.{Found, fixed_desc}

abbrev property : List ℕ → List (Part ℕ) → Property ℕ
property name parts = record { name = name; parts = parts }

abbrev number : List ℕ → ℕ → Property ℕ
number name n = property name (Cells (Num n ∷ []) ∷ [])

abbrev reference : List ℕ → ℕ → Property ℕ
reference name node = property name (Cells (Reference node ∷ []) ∷ [])

abbrev node : List ℕ → ℕ → List (Property ℕ) → Node
node name parent properties = record { name = name; parent = Some parent; at = 0; properties = properties }

abbrev root : Node
root = record { name = []; parent = None; at = 0; properties = [] }

abbrev bounds : ℕ → ℕ → List (Property ℕ) → List (Property ℕ)
bounds least greatest others = number (codes "regulator-min-microvolt") least ∷ number (codes "regulator-max-microvolt") greatest ∷ others

abbrev fixed : List ℕ → List (Property ℕ) → Node
fixed name others = node name 0 (property (codes "compatible") (Text (codes "regulator-fixed") ∷ []) ∷ bounds 5000000 5000000 others)

-- two fixed rails, whose nodes are 1 and 2
abbrev pair : List (Property ℕ) → List (Property ℕ) → List Node
pair first second = root ∷ fixed (codes "a") first ∷ fixed (codes "b") second ∷ []

abbrev coupled : ℕ → ℕ → List (Property ℕ)
coupled other spread = reference (codes "regulator-coupled-with") other ∷ number (codes "regulator-coupled-max-spread") spread ∷ []

no_rails : first_fault (root ∷ []) ≡ Some NoRails
no_rails = refl

-- two fixed rails that supply each other
a_loop : first_fault (root ∷ fixed (codes "a") (reference (codes "vin-supply") 2 ∷ []) ∷ fixed (codes "b") (reference (codes "vin-supply") 1 ∷ []) ∷ []) ≡ Some (SupplyLoop 0)
a_loop = refl

no_loop : first_fault (root ∷ fixed (codes "a") (reference (codes "vin-supply") 2 ∷ []) ∷ fixed (codes "b") [] ∷ []) ≡ None
no_loop = refl

not_a_rail : first_fault (root ∷ fixed (codes "a") [] ∷ fixed (codes "b") (reference (codes "vin-supply") 0 ∷ []) ∷ []) ≡ Some (NoSupply 1)
not_a_rail = refl

-- the first rail's property is told before the second rail's supply, and a supply's form before a bound
its_properties_first : first_fault (root ∷ node (codes "a") 0 (property (codes "compatible") (Text (codes "regulator-fixed") ∷ []) ∷ number (codes "regulator-min-microvolt") 7 ∷ [])
    ∷ fixed (codes "b") (reference (codes "vin-supply") 0 ∷ []) ∷ []) ≡ Some (FixedRange 0)
its_properties_first = refl

a_form_first : first_fault (root ∷ node (codes "a") 0 (property (codes "compatible") (Text (codes "regulator-fixed") ∷ []) ∷ number (codes "regulator-min-microvolt") 7 ∷ property (codes "vin-supply") [] ∷ []) ∷ [])
    ≡ Some (BadCells 0 Supply)
a_form_first = refl

good_pair : first_fault (pair (coupled 2 100000) (coupled 1 100000)) ≡ None
good_pair = refl

its_groups : (sketch_of (pair (coupled 2 100000) (coupled 1 100000))).graph.group ≡ 0 ∷ 0 ∷ []
its_groups = refl

groups_of_their_own : (sketch_of (pair [] [])).graph.group ≡ 0 ∷ 1 ∷ []
groups_of_their_own = refl

its_spreads : (sketch_of (pair (coupled 2 100000) (coupled 1 100000))).spread ≡ 100000 ∷ 100000 ∷ []
its_spreads = refl

one_way : first_fault (pair (coupled 2 100000) []) ≡ Some (OneWay 0 1)
one_way = refl

one_way_back : first_fault (pair [] (coupled 1 100000)) ≡ Some (OneWay 1 0)
one_way_back = refl

with_itself : first_fault (pair (coupled 1 100000) (coupled 1 100000)) ≡ Some (NoCouple 0)
with_itself = refl

-- the first one names the second twice, or what is no rail
named_twice : first_fault (pair (property (codes "regulator-coupled-with") (Cells (Reference 2 ∷ Reference 2 ∷ []) ∷ []) ∷ number (codes "regulator-coupled-max-spread") 100000 ∷ []) (coupled 1 100000)) ≡ Some (NoCouple 0)
named_twice = refl

with_no_rail : first_fault (pair (coupled 0 100000) (coupled 1 100000)) ≡ Some (NoCouple 0)
with_no_rail = refl

no_spread : first_fault (pair (coupled 2 100000) (reference (codes "regulator-coupled-with") 1 ∷ [])) ≡ Some (NoSpread 1)
no_spread = refl

two_spreads : first_fault (pair (coupled 2 100000) (coupled 1 90000)) ≡ Some (SpreadsDiffer 0 1)
two_spreads = refl

-- the second one supplies the first
supplied_by_its_couple : first_fault (pair (reference (codes "vin-supply") 2 ∷ coupled 2 100000) (coupled 1 100000)) ≡ Some (CoupledSupplier 0 1)
supplied_by_its_couple = refl

-- a supply loop is told before what is wrong with couples
loop_first : first_fault (pair (reference (codes "vin-supply") 2 ∷ coupled 1 100000) (reference (codes "vin-supply") 1 ∷ [])) ≡ Some (SupplyLoop 0)
loop_first = refl

-- names, supplies and values
its_names : map (λ r. r.name.bytes) (sketch_of (pair (reference (codes "vin-supply") 2 ∷ []) [])).rails ≡ codes "a" ∷ codes "b" ∷ []
its_names = refl

its_supplies : (sketch_of (pair (reference (codes "vin-supply") 2 ∷ []) [])).graph.supply ≡ Some 1 ∷ None ∷ []
its_supplies = refl

its_values : map (λ r. r.kept_uv) (sketch_of (pair [] [])).rails ≡ 5000000 ∷ 5000000 ∷ []
its_values = refl

none_may_change : map (λ r. r.changeable) (sketch_of (pair [] [])).rails ≡ false ∷ false ∷ []
none_may_change = refl

its_chips : (sketch_of (pair [] [])).chips ≡ 1
its_chips = refl

-- three rails, the first of which has room between its bounds and supplies the second, which supplies the third
abbrev chain : List Node
chain =
    root
    ∷ node (codes "a") 0 (bounds 800000 900000 [])
    ∷ node (codes "b") 0 (bounds 5000000 5000000 (reference (codes "vin-supply") 1 ∷ []))
    ∷ node (codes "c") 0 (bounds 5000000 5000000 (reference (codes "vin-supply") 2 ∷ []))
    ∷ []

abbrev found : ℕ → ℕ → Found
found dropout node = record { name = []; node = node; chip_node = None; supply = codes "vin"; desc = record (fixed_desc 0 0 5000000) { dropout = dropout } }

-- a rail is linked where it has a dropout and its supply has room
its_link : (graph_of chain (map (found 100000) (1 ∷ 2 ∷ 3 ∷ []))).link ≡ false ∷ true ∷ false ∷ []
its_link = refl

no_link : (graph_of chain (map (found 0) (1 ∷ 2 ∷ 3 ∷ []))).link ≡ false ∷ false ∷ false ∷ []
no_link = refl
