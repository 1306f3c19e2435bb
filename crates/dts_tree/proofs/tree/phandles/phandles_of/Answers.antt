use Rattle.std.proofs.Common.{◌∙◌, ℕ, Option, Some, None, cond, ap, sym, take, nat_eq, arith}
use Rattle.std.specs.Option.{option_eq, option_or}
use Rattle.dts_tree.specs.Look.{bare}
use Rattle.dts_tree.specs.Inside.Phandles.{has_phandle, first_with}
use Rattle.dts_tree.proofs.PhandleLemmas.{get-empty, position-more}
use Rattle.dts_tree.proofs.tree.phandles.phandles_of.Goals as goal

pub loop-node-init : goal.loop-node-init
loop-node-init c = λ n. get-empty c.new-phandles.result n c.new-phandles.ensures.empty

pub loop-node-preserved : goal.loop-node-preserved
loop-node-preserved c = λ n.
    let nodes = c.args.nodes.now in
    let node = c.loop-node.node in
    c.in_ok-note.ensures n
    ∙ ap (λ (o : Option ℕ). option_or o (cond (option_eq nat_eq c.in_ok-number.number (Some n)) (Some node) None)) (c.loop-node.invariant n)
    ∙ ap (λ (o : Option ℕ). option_or (first_with (take node nodes) n) (cond (option_eq nat_eq o (Some n)) (Some node) None)) c.in_ok-number.ensures
    ∙ sym (position-more (has_phandle n) nodes node bare (omega (arith, c.count-count.ensures.count)))
