use Rattle.std.proofs.Common.{◌≡◌, ◌∙◌, ap, arith, sym, Some}
use Rattle.std.specs.Map.{lookup}
use Rattle.name_map.specs.NameEntries.{same_name}
use Rattle.dts_tree.specs.Inside.Pieces.{label_at}
use Rattle.dts_tree.proofs.MapLemmas.{lookup-at}
use Rattle.dts_tree.proofs.tree.numbered.rank_at.Goals as goal

pub bounds-ranks-node : goal.bounds-ranks-node
bounds-ranks-node c =
    let labels = c.args.labels.now in
    let name = (label_at c.args.text.now c.args.place.now).name in
    let found : lookup (same_name (0, name)) labels ≡ Some c.in-Some.node.now = ap (λ n. lookup (same_name (0, n)) labels) (sym c.name_at.ensures) ∙ sym c.in-Some.ensures in
    let at = lookup-at (same_name (0, name)) labels c.in-Some.node.now found in
    omega (arith, c.requires at.0 at.1, at.2)
