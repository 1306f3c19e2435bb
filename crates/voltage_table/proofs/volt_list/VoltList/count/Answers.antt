use Rattle.std.proofs.Common.{length, ◌∙◌, sym, ap}
use Rattle.std.proofs.lemmas.List.FromFn.{length-enumerate_from}
use Rattle.voltage_table.proofs.volt_list.VoltList.count.Goals as goal

pub returns-clause-value : goal.returns-clause-value
returns-clause-value g c =
    c.len.ensures.value ∙ ap length c.self.view_is ∙ sym (length-enumerate_from 0 c.args.self.now)
