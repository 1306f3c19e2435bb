use Rattle.std.proofs.Common.{sym, ap, ◌∙◌}
use Rattle.std.specs.Option.{option_map}
use Rattle.linear_range.specs.Pick.{pair_of}
use Rattle.rail_ops.proofs.NextValue.{IsNext, is_there, some_below, down_is, down_nearer, down_not_past}
use Rattle.rail_ops.proofs.walking.below.Goals as goal
use Rattle.rail_ops.proofs.walking.below.Goals.{After-unwrap}

pub unwrap-requires : goal.unwrap-requires
unwrap-requires c = is_there c.at_or_below.result _ c.at_or_below.ensures.pick (some_below c.args.rail.now c.args.from c.args.target c.requires.allowed c.requires.falling)

found : (c : After-unwrap) → IsNext c.args.rail.now c.args.from c.args.target (pair_of c.unwrap.result)
found c =
    down_is c.args.rail.now c.args.from c.args.target c.requires.allowed (pair_of c.unwrap.result) c.requires.falling
    (sym c.at_or_below.ensures.pick ∙ ap (option_map pair_of) c.unwrap.ensures)

pub returns-clause-next : goal.returns-clause-next
returns-clause-next c = (found (goal.at.returns-clause-next c).After-unwrap).next

pub returns-clause-first : goal.returns-clause-first
returns-clause-first c = (found (goal.at.returns-clause-first c).After-unwrap).first

pub returns-clause-among : goal.returns-clause-among
returns-clause-among c = (found (goal.at.returns-clause-among c).After-unwrap).among

pub returns-clause-nearer : goal.returns-clause-nearer
returns-clause-nearer c =
    down_nearer c.args.rail.now c.args.from c.args.target c.requires.allowed (pair_of c.unwrap.result) c.requires.falling
    (sym c.at_or_below.ensures.pick ∙ ap (option_map pair_of) c.unwrap.ensures)

pub returns-clause-not_past : goal.returns-clause-not_past
returns-clause-not_past c =
    down_not_past c.args.rail.now c.args.from c.args.target c.requires.allowed (pair_of c.unwrap.result) c.requires.falling
    (sym c.at_or_below.ensures.pick ∙ ap (option_map pair_of) c.unwrap.ensures)
