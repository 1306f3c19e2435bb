use Rattle.std.proofs.Common.{Some, None}
use Rattle.board.specs.Table.{values_of}
use Rattle.constraints.proofs.WithinLemmas.{within_by_pick}
use Rattle.constraints.proofs.bounds.has_value_within.Goals as goal

pub returns-in-None : goal.returns-in-None
returns-in-None c = within_by_pick c.args.least c.args.greatest (values_of c.args.table.now) c.selector_high.result None c.selector_high.ensures.pick c.in-None.is

pub returns-in-Some : goal.returns-in-Some
returns-in-Some c =
    within_by_pick c.args.least c.args.greatest (values_of c.args.table.now) c.selector_high.result (Some c.in-Some.pick) c.selector_high.ensures.pick c.in-Some.is
