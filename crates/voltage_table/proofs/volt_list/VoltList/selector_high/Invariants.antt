use Rattle.std.proofs.Common.{◌≡◌}
use Rattle.std.specs.Option.{option_map}
use Rattle.voltage_table.specs.ListPick.{pair_of}
use Rattle.voltage_table.specs.Values.{pick_high}
use Rattle.voltage_table.proofs.Picks.{pairs_from}
use Rattle.voltage_table.proofs.volt_list.VoltList.selector_high.Given as goal

-- the pick of the selectors from here on
abbrev pub invariant-loop-sel : goal.invariant-loop-sel
invariant-loop-sel g l =
    option_map pair_of l.best ≡ pick_high (pairs_from l.self-inside.values.items l.sel) l.uv
