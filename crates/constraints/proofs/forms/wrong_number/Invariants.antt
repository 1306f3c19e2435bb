use Rattle.std.proofs.Common.{◌≡◌, None, take}
use Rattle.constraints.specs.Faults.{number_props, number_forms, first_wrong}
use Rattle.constraints.proofs.forms.wrong_number.Given as goal

abbrev pub invariant-loop-prop : goal.invariant-loop-prop
invariant-loop-prop l = first_wrong (number_forms l.tree l.node (take l.prop-index number_props)) ≡ None
