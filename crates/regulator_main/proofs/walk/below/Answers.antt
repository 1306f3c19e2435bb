use Rattle.std.proofs.Common.{sym, ap, ◌∙◌}
use Rattle.std.specs.Option.{option_map}
use Rattle.linear_range.specs.Pick.{pair_of}
use Rattle.regulator_main.proofs.Steps.{IsBelow, below-is, some_below, is_there}
use Rattle.regulator_main.proofs.walk.below.Goals as goal
use Rattle.regulator_main.proofs.walk.below.Goals.{After-unwrap}

pub unwrap-requires : goal.unwrap-requires
unwrap-requires c = is_there c.at_or_below.result _ c.at_or_below.ensures.pick (some_below c.args.rail.now c.args.from c.args.target c.requires.allowed c.requires.falling)

found : (c : After-unwrap) → IsBelow c.args.rail.now c.args.from c.args.target (pair_of c.unwrap.result)
found c =
    below-is c.args.rail.now c.args.from c.args.target c.requires.allowed (pair_of c.unwrap.result) c.requires.falling
    (sym c.at_or_below.ensures.pick ∙ ap (option_map pair_of) c.unwrap.ensures)

pub returns-clause-next : goal.returns-clause-next
returns-clause-next c = (found (goal.at.returns-clause-next c).After-unwrap).next

pub returns-clause-first : goal.returns-clause-first
returns-clause-first c = (found (goal.at.returns-clause-first c).After-unwrap).first

pub returns-clause-nearer : goal.returns-clause-nearer
returns-clause-nearer c = (found (goal.at.returns-clause-nearer c).After-unwrap).nearer

pub returns-clause-not_past : goal.returns-clause-not_past
returns-clause-not_past c = (found (goal.at.returns-clause-not_past c).After-unwrap).not_past
