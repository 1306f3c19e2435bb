use Rattle.voltage_table.proofs.Listed.{lists_values, selectors_rise, is_bounded, picks_high, picks_low}
use Rattle.voltage_table.proofs.laws.laws_of.Goals as goal

pub returns-clause-listed : goal.returns-clause-listed
returns-clause-listed g c = lists_values c.args.list.now

pub returns-clause-rising : goal.returns-clause-rising
returns-clause-rising g c = selectors_rise c.args.list.now

pub returns-clause-bounded : goal.returns-clause-bounded
returns-clause-bounded g c = is_bounded g.row.N c.args.list.now c.know_values.ensures.sound c.know_values.ensures.small

pub returns-clause-high : goal.returns-clause-high
returns-clause-high g c = picks_high c.args.list.now

pub returns-clause-low : goal.returns-clause-low
returns-clause-low g c = picks_low c.args.list.now
