use Rattle.linear_range.proofs.Listed.{lists_values, selectors_rise, is_bounded, picks_high, picks_low}
use Rattle.linear_range.proofs.laws.laws_of.Goals as goal

pub returns-clause-listed : goal.returns-clause-listed
returns-clause-listed g c = lists_values c.args.table.now

pub returns-clause-rising : goal.returns-clause-rising
returns-clause-rising g c = selectors_rise c.args.table.now

pub returns-clause-bounded : goal.returns-clause-bounded
returns-clause-bounded g c =
    is_bounded c.args.table.now g.row.N c.know_sound.ensures c.count.ensures.within

pub returns-clause-high : goal.returns-clause-high
returns-clause-high g c = picks_high c.args.table.now

pub returns-clause-low : goal.returns-clause-low
returns-clause-low g c = picks_low c.args.table.now
