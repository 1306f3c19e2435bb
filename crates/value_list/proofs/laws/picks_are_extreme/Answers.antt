use Rattle.value_list.proofs.Extremes.{picks_high, picks_low}
use Rattle.value_list.proofs.laws.picks_are_extreme.Goals as goal

pub returns-clause-high : goal.returns-clause-high
returns-clause-high c = picks_high

pub returns-clause-low : goal.returns-clause-low
returns-clause-low c = picks_low
