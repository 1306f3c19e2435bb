-- What holds of a content, whatever was set.
use Rattle.std.specs.Prelude.{◌≡◌, ℕ, ◌≤◌, List, [], ◌∷◌, false, length}
use Rattle.std.specs.List.{AllByRecursion}
use Rattle.name_map.specs.NameEntries.{same_name}
use Rattle.dts_tree.specs.Content.{Content}
use Rattle.dts_tree.specs.Inside.Reader.{EarlierFrom}

-- no two of the keys are the same
abbrev pub Apart : {V : Type 0} → List ((ℕ × List ℕ) × V) → Type 0
Apart [] = Unit {0}
Apart (e ∷ es) = AllByRecursion (λ f. same_name e.0 f.0 ≡ false) es × Apart es

-- parents are numbered before their children, labels stand at nodes that are there, and a node and a
-- property are there once
pub record Sane (c : Content) : Type 0 where
  pub earlier : EarlierFrom 0 c.children
  pub labels : AllByRecursion (λ e. e.1 ≤ length c.children) c.labels
  pub apart : Apart c.children
  pub single : Apart c.properties
