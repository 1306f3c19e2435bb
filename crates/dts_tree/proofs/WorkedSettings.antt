-- What lists of settings come to, worked out by hand.
use Rattle.std.specs.Prelude.{◌≡◌, ℕ, zero, suc, List, [], ◌∷◌, true, Some, None, Ok, Err, is_ok, codes}
use Rattle.std.proofs.Common.{refl}
use Rattle.dts_tree.specs.declared.fault.TreeFault.TheVariants.{NoLabel, TwoLabels, TooDeep}
use Rattle.dts_tree.specs.declared.value.Cell.TheVariants as cell
use Rattle.dts_tree.specs.Value.{Cells, Text, Whole}
use Rattle.dts_tree.specs.Setting.{Path, Root, Labelled, Child, Setting, OpensRoot, Opens, Adds, Sets}
use Rattle.dts_tree.specs.Content.{nothing, with_settings}
use Rattle.dts_tree.proofs.WorkedContents.{label, node}

no_settings : with_settings nothing [] ≡ Ok (record { root_at = None; children = []; labels = []; properties = [] })
unfolding nothing with_settings
no_settings = refl

-- node a is opened twice, under two labels; its property p is set twice, and q by an addition to its first
-- label; b of the root is another node than b of a
all_kinds :
    with_settings nothing
    (OpensRoot 9
    ∷ Opens Root (codes "a") 20 (label (codes "x") 17 ∷ [])
    ∷ Sets (Child Root (codes "a")) (codes "p") (Cells (cell.Num 1 ∷ []) ∷ [])
    ∷ Opens (Child Root (codes "a")) (codes "b") 30 []
    ∷ Opens Root (codes "b") 40 (label (codes "y") 37 ∷ [])
    ∷ OpensRoot 60
    ∷ Opens Root (codes "a") 70 (label (codes "z") 67 ∷ [])
    ∷ Sets (Child Root (codes "a")) (codes "p") (Text (codes "t") ∷ [])
    ∷ Adds (label (codes "x") 80)
    ∷ Sets (Labelled (codes "x")) (codes "q") []
    ∷ Sets (Labelled (codes "y")) (codes "p") (Whole (label (codes "x") 90) ∷ [])
    ∷ [])
    ≡ Ok (record {
      root_at = Some 9;
      children = ((0, codes "a"), node 20 1) ∷ ((1, codes "b"), node 30 2) ∷ ((0, codes "b"), node 40 1) ∷ [];
      labels = ((0, codes "x"), 1) ∷ ((0, codes "y"), 3) ∷ ((0, codes "z"), 1) ∷ [];
      properties = ((1, codes "p"), Text (codes "t") ∷ []) ∷ ((1, codes "q"), []) ∷ ((3, codes "p"), Whole (label (codes "x") 90) ∷ []) ∷ [];
    })
unfolding nothing with_settings
all_kinds = refl

-- of two faults the first
first_fault : with_settings nothing (OpensRoot 9 ∷ Opens Root (codes "a") 20 (label (codes "x") 17 ∷ []) ∷ Opens Root (codes "b") 30 (label (codes "x") 27 ∷ []) ∷ Adds (label (codes "w") 12) ∷ []) ≡ Err (TwoLabels 27)
unfolding nothing with_settings
first_fault = refl

other_fault_first : with_settings nothing (Adds (label (codes "w") 12) ∷ Opens Root (codes "a") 20 (label (codes "x") 17 ∷ []) ∷ Opens Root (codes "b") 30 (label (codes "x") 27 ∷ []) ∷ []) ≡ Err (NoLabel 12)
unfolding nothing with_settings
other_fault_first = refl

-- a body adds to a label that stands before it, and not behind it
label_behind : with_settings nothing (Adds (label (codes "x") 3) ∷ Opens Root (codes "a") 9 (label (codes "x") 7 ∷ []) ∷ []) ≡ Err (NoLabel 3)
unfolding nothing with_settings
label_behind = refl

label_before : with_settings nothing (Opens Root (codes "a") 9 (label (codes "x") 7 ∷ []) ∷ Adds (label (codes "x") 13) ∷ []) ≡ Ok (record { root_at = None; children = ((0, codes "a"), node 9 1) ∷ []; labels = ((0, codes "x"), 1) ∷ []; properties = [] })
unfolding nothing with_settings
label_before = refl

-- nodes each below the one before; the places of their names count down
abbrev chain : ℕ → Path → List Setting
chain zero path = []
chain (suc n) path = Opens path (codes "n") n [] ∷ chain n (Child path (codes "n"))

levels_32 : is_ok (with_settings nothing (chain 32 Root)) ≡ true
unfolding nothing with_settings
levels_32 = refl

level_33 : with_settings nothing (chain 34 Root) ≡ Err (TooDeep 1)
unfolding nothing with_settings
level_33 = refl
