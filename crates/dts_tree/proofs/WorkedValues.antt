-- Values whose references are told in another way, worked out by hand: each number 10 more.
use Rattle.std.specs.Prelude.{◌≡◌, ℕ, ◌+◌, [], ◌∷◌, codes}
use Rattle.std.proofs.Common.{refl}
use Rattle.dts_tree.specs.declared.value.Cell.TheVariants as cell
use Rattle.dts_tree.specs.Value.{Cells, Text, Bytes, Whole, cell_by, part_by}

abbrev raised : ℕ → ℕ
raised n = n + 10

number_stays : cell_by raised (cell.Num 3) ≡ cell.Num 3
number_stays = refl

reference_changes : cell_by raised (cell.Node 3) ≡ cell.Node 13
reference_changes = refl

cells_change : part_by raised (Cells (cell.Node 1 ∷ cell.Num 2 ∷ cell.Node 3 ∷ [])) ≡ Cells (cell.Node 11 ∷ cell.Num 2 ∷ cell.Node 13 ∷ [])
cells_change = refl

no_cells : part_by raised (Cells []) ≡ Cells []
no_cells = refl

text_stays : part_by raised (Text (codes "ab")) ≡ Text (codes "ab")
text_stays = refl

bytes_stay : part_by raised (Bytes (1 ∷ 2 ∷ [])) ≡ Bytes (1 ∷ 2 ∷ [])
bytes_stay = refl

whole_changes : part_by raised (Whole 4) ≡ Whole 14
whole_changes = refl
