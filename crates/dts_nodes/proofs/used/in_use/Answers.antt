use Rattle.std.proofs.Common.{◌≡◌, ◌∙◌, ◌&&◌, ◌++◌, [], ◌∷◌, ap, sym}
use Rattle.dts_nodes.specs.Use.{is_below_used, is_good}
use Rattle.dts_nodes.proofs.UseLemmas.{has_flag, in_use_first-more}
use Rattle.dts_nodes.proofs.used.in_use.Goals as goal
use Rattle.dts_nodes.proofs.used.in_use.Goals.{then-below+in_ok-good, else-below}

pub is_below_used-below-requires : goal.is_below_used-below-requires
is_below_used-below-requires c =
    has_flag c.args.tree.now c.loop-node.node c.as_slice.result.now c.parent.result (c.as_slice.ensures.value ∙ c.loop-node.invariant) c.parent.ensures.lower

pub loop-node-preserved : goal.loop-node-preserved
loop-node-preserved c =
    let flags = c.loop-node.flags.items in
    let below = is_below_used flags c.parent.result in
    let below_is : c.is_below_used-below.result ≡ below = c.is_below_used-below.ensures ∙ ap (λ f. is_below_used f c.parent.result) c.as_slice.ensures.value in
    let good : c.if-below.good ≡ (below && is_good c.args.tree.now c.loop-node.node) = elim c.if-below.branch [
      | then-below+in_ok-good w ↦ w.good-is ∙ w.in_ok-good.ensures ∙ ap (λ b. b && is_good c.args.tree.now c.loop-node.node) (sym w.if-below.true ∙ below_is)
      | else-below w ↦ w.good-is ∙ w.if-below.false ∙ ap (λ b. b && is_good c.args.tree.now c.loop-node.node) (sym w.if-below.false ∙ below_is)
    ] in
    c.in_ok-push.ensures.items ∙ ap (λ b. flags ++ b ∷ []) good ∙ in_use_first-more c.args.tree.now c.loop-node.node flags c.parent.result c.loop-node.invariant c.parent.ensures.parent
