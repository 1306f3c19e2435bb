use Rattle.std.proofs.Common.{◌∙◌, ap, sym, length}
use Rattle.name_map.proofs.ListedLemmas.{named-length}
use Rattle.name_map.proofs.name_list.NameList.len.Goals as goal

pub returns : goal.returns
returns g c = c.len.ensures ∙ c.self.inside.entries.ok.0 ∙ sym (named-length c.self.inside.entries.items c.self.inside.names c.self.invariant) ∙ ap length c.self.view_is
