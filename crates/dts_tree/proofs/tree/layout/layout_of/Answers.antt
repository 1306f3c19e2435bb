use Rattle.std.proofs.Common.{◌≡◌, ◌∷◌, ◌∙◌, map, ap, length, arith}
use Rattle.std.proofs.lemmas.List.{length-map}
use Rattle.dts_tree.specs.Order.{in_tree_order}
use Rattle.dts_tree.proofs.LayoutLemmas.{parents-earlier}
use Rattle.dts_tree.proofs.TreeOrderLemmas.{order-length}
use Rattle.dts_tree.proofs.tree.layout.layout_of.Goals as goal

pub ranks_of-requires : goal.ranks_of-requires
ranks_of-requires c =
    let children = c.args.children.now in
    let owners = map (λ e. e.0.0) children in
    let long = length-map children (λ e. e.0.0) in
    let told : c.as_slice-2.result.now ≡ in_tree_order (0 ∷ owners) = c.as_slice-2.ensures.value ∙ c.in_ok-order.ensures ∙ ap in_tree_order (c.as_slice.ensures.value ∙ c.in_ok-parents.ensures) in
    let all = order-length (0 ∷ owners) (parents-earlier owners (λ k in_k. c.requires.earlier k (omega (arith, in_k, long)))) (omega arith) in
    omega (arith, ap length told, all, c.requires.few, long)
