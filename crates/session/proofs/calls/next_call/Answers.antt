use Rattle.std.proofs.Common.{◌≡◌, ◌≢◌, Some, rules}
use Rattle.std.specs.Prelude.{slice_get}
use Rattle.rows.specs.declared.call.Call.{Call}
use Rattle.rows.specs.declared.call.Call.TheVariants.{Open}
use Rattle.session.specs.Script.{Uses, call_line}
use Rattle.session.proofs.CallLines.{next_use}
use Rattle.rows.proofs.Options.{none_then}
use Rattle.session.proofs.calls.next_call.Goals as goal

pub returns-in-Some-Open-clause-none : goal.returns-in-Some-Open-clause-none
returns-in-Some-Open-clause-none c =
    let handle = c.in-Some-Open.handle in
    let first : slice_get c.args.script.now 0 ≡ Some (Open handle c.in-Some-Open.field-0-1 c.in-Some-Open.field-0-2) = search rules in
    none_then c.parse_use.result _ _ c.parse_use.ensures.none (λ (none : (call : Call) → Uses handle.bytes call → c.args.line.now ≢ call_line call). λ calls more calls_is same.
    let next = next_use c.args.line.now handle c.in-Some-Open.field-0-1 c.in-Some-Open.field-0-2 c.args.script.now calls more first c.requires calls_is same in
    none next.0 next.1 next.2)
