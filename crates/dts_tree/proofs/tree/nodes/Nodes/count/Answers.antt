use Rattle.std.proofs.Common.{◌≡◌, ◌∙◌, ◌+◌, sym, length, arith}
use Rattle.dts_tree.proofs.KeptLemmas.{kept-count, kept-whole}
use Rattle.dts_tree.proofs.tree.nodes.Nodes.count.Goals as goal

whole : (c : goal.After-len) → c.len.result ≡ length c.self.inside.store.children + 1
whole c = c.len.ensures ∙ c.self.inside.layout.order.ok.0 ∙ kept-whole c.self.inside c.self.invariant c.args.self.now c.self.view_is

pub overflow_cast-result : goal.overflow_cast-result
overflow_cast-result c = omega (arith, whole c, c.self.invariant.few)

pub returns-clause-count : goal.returns-clause-count
returns-clause-count c = c.len.ensures ∙ c.self.inside.layout.order.ok.0 ∙ sym (kept-count c.self.inside c.self.invariant c.args.self.now c.self.view_is)

pub returns-clause-root : goal.returns-clause-root
returns-clause-root c = omega (arith, whole c)
