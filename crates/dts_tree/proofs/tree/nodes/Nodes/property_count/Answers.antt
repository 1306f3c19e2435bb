use Rattle.std.proofs.Common.{◌∙◌}
use Rattle.dts_tree.proofs.KeptLemmas.{kept-property_count}
use Rattle.dts_tree.proofs.tree.nodes.Nodes.property_count.Goals as goal

pub returns : goal.returns
returns c = c.len.ensures ∙ c.self.inside.listing.places.ok.0 ∙ kept-property_count c.self.inside c.self.invariant c.args.self.now c.self.view_is
