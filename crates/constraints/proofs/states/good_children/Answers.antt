use Rattle.std.proofs.Common.{◌∙◌, ℕ, Option, Some, None, cond, ap, sym}
use Rattle.std.specs.Option.{option_or}
use Rattle.constraints.specs.StateNodes.{is_good_child}
use Rattle.constraints.proofs.ChildLemmas.{find-more}
use Rattle.constraints.proofs.states.good_children.Goals as goal

pub loop-node-preserved : goal.loop-node-preserved
loop-node-preserved c = λ parent.
    let test = is_good_child c.args.tree.now parent c.args.name.now in
    let node = c.loop-node.node in
    c.in_ok-keep_child.ensures parent
    ∙ ap (λ (o : Option ℕ). option_or o (cond (test node) (Some node) None)) (c.loop-node.invariant parent)
    ∙ sym (find-more test node)
