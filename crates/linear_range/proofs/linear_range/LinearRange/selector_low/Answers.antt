use Rattle.std.proofs.Common.{ap, arith}
use Rattle.std.specs.Option.{option_map}
use Rattle.linear_range.proofs.Singles.{low_below, low_above, low_flat, low_inside, value_at_low, last_at_low}
use Rattle.linear_range.proofs.linear_range.LinearRange.selector_low.Goals as goal

pub returns-then-uv-self-clause-greatest_value : goal.returns-then-uv-self-clause-greatest_value
returns-then-uv-self-clause-greatest_value c =
    ap (option_map (λ p. p.1)) (low_below c.args.self.now c.requires c.args.uv (omega arith))

pub returns-then-uv-self-clause-first_selector : goal.returns-then-uv-self-clause-first_selector
returns-then-uv-self-clause-first_selector c = λ _.
    ap (option_map (λ p. p.0)) (low_below c.args.self.now c.requires c.args.uv (omega arith))

pub returns-then-from-greatest-clause-greatest_value : goal.returns-then-from-greatest-clause-greatest_value
returns-then-from-greatest-clause-greatest_value c =
    last_at_low c.args.self.now c.requires c.args.uv (omega arith)

pub returns-then-from-greatest-clause-first_selector : goal.returns-then-from-greatest-clause-first_selector
returns-then-from-greatest-clause-first_selector c = λ rises.
    ap (option_map (λ p. p.0)) (low_above c.args.self.now c.requires c.args.uv (omega arith) rises)

pub returns-then-self-eq0-clause-greatest_value : goal.returns-then-self-eq0-clause-greatest_value
returns-then-self-eq0-clause-greatest_value c =
    value_at_low c.args.self.now c.requires c.args.uv _ _
    (low_flat c.args.self.now c.requires c.args.uv (omega arith) c.if-self-eq0.true)

pub returns-clause-greatest_value : goal.returns-clause-greatest_value
returns-clause-greatest_value c =
    value_at_low c.args.self.now c.requires c.args.uv _ _
    (low_inside c.args.self.now c.requires c.args.uv (omega arith) (omega arith) (omega arith))

pub returns-clause-first_selector : goal.returns-clause-first_selector
returns-clause-first_selector c = λ _.
    ap (option_map (λ p. p.0))
    (low_inside c.args.self.now c.requires c.args.uv (omega arith) (omega arith) (omega arith))
