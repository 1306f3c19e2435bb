use Rattle.std.proofs.Common.{◌≡◌, ℕ, ◌+◌, ◌-◌, ◌<◌, ◌≤◌, Some, ap, ◌∙◌, arith}
use Rattle.std.specs.Option.{option_map}
use Rattle.linear_range.proofs.Singles.{steps_within, high_above, high_below, high_inside, value_at_high, flat_last, flat_greatest}
use Rattle.linear_range.proofs.linear_range.LinearRange.selector_high.Goals as goal

pub returns-clause-rounded_up : goal.returns-clause-rounded_up
returns-clause-rounded_up c = λ _ _ _. ap (λ steps. Some (c.args.self.now.min_sel + steps)) c.div_ceil-steps.ensures

some_step : (n : ℕ) → (n ≡ 0 → ⊥) → 0 < n
some_step n some = omega arith

steps : (c : goal.After-div_ceil-steps) → c.div_ceil-steps.result ≤ c.args.self.now.max_sel - c.args.self.now.min_sel
steps c =
    let within = rw (c.greatest.ensures, c.from.ensures) at c.if-from-greatest.false in
    rw c.div_ceil-steps.ensures (steps_within c.args.self.now c.args.uv (some_step _ c.if-self-eq0.false) within)

pub returns-then-from-greatest-clause-least_value : goal.returns-then-from-greatest-clause-least_value
returns-then-from-greatest-clause-least_value c =
    ap (option_map (λ p. p.1)) (high_above c.args.self.now c.requires c.args.uv (omega arith))

pub returns-then-from-greatest-clause-first_selector : goal.returns-then-from-greatest-clause-first_selector
returns-then-from-greatest-clause-first_selector c = λ _.
    ap (option_map (λ p. p.0)) (high_above c.args.self.now c.requires c.args.uv (omega arith))

pub returns-then-uv-self-clause-least_value : goal.returns-then-uv-self-clause-least_value
returns-then-uv-self-clause-least_value c =
    value_at_high c.args.self.now c.requires c.args.uv _ _ (high_below c.args.self.now c.requires c.args.uv (omega arith))

pub returns-then-uv-self-clause-first_selector : goal.returns-then-uv-self-clause-first_selector
returns-then-uv-self-clause-first_selector c = λ _.
    ap (option_map (λ p. p.0)) (high_below c.args.self.now c.requires c.args.uv (omega arith))

pub returns-then-self-eq0-clause-least_value : goal.returns-then-self-eq0-clause-least_value
returns-then-self-eq0-clause-least_value c =
    let flat : c.args.self.now.step ≡ 0 = c.if-self-eq0.true in
    let last : c.args.uv ≤ c.args.self.now.min = omega (arith, flat_greatest c.args.self.now c.requires c.args.uv flat) in
    flat_last c.args.self.now c.requires c.args.uv flat
    ∙ ap (option_map (λ p. p.1)) (high_below c.args.self.now c.requires c.args.uv last)

pub returns-clause-least_value : goal.returns-clause-least_value
returns-clause-least_value c = rw c.div_ceil-steps.ensures
    (value_at_high c.args.self.now c.requires c.args.uv _ _
    (high_inside c.args.self.now c.requires c.args.uv (omega arith) (omega arith) (omega arith)))

pub returns-clause-first_selector : goal.returns-clause-first_selector
returns-clause-first_selector c = λ _. rw c.div_ceil-steps.ensures
    (ap (option_map (λ p. p.0))
    (high_inside c.args.self.now c.requires c.args.uv (omega arith) (omega arith) (omega arith)))
