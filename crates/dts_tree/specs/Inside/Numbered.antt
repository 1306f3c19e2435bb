-- References by the numbers of nodes in place of labels.
use Rattle.std.specs.Prelude.{ℕ, List, not, is_some, Option, slice_index}
use Rattle.std.specs.List.{find}
use Rattle.dts_tree.specs.declared.piece.Place.{Place}
use Rattle.dts_tree.specs.Setting.{Label}
use Rattle.dts_tree.specs.Content.{node_of, or_root}
use Rattle.dts_tree.specs.Inside.Pieces.{label_at}

-- the first of some labels that no node has
abbrev pub first_unknown : List ((ℕ × List ℕ) × ℕ) → List Label → Option Label
first_unknown labels = find (λ l. not (is_some (node_of labels l.name)))

-- where the node of a reference in the text stands
abbrev pub number_of : List ℕ → List ((ℕ × List ℕ) × ℕ) → List ℕ → Place → ℕ
number_of text labels ranks place = slice_index ranks (or_root (node_of labels (label_at text place).name))
