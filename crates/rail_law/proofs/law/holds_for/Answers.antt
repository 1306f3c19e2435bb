use Rattle.std.proofs.Common.{sym, ◌∙◌}
use Rattle.std.proofs.lemmas.Bool.{false≢true}
use Rattle.rail_law.proofs.law.holds_for.Goals.{then-is_allowed, else-is_allowed, then-keeps_spreads, else-keeps_spreads}
use Rattle.rail_law.proofs.law.holds_for.Goals as goal

pub returns-then-has_supply_on : goal.returns-then-has_supply_on
returns-then-has_supply_on c =
    elim c.if-keeps_spreads.branch [
      | else-keeps_spreads w ↦ absurd (false≢true (sym w.if-keeps_spreads.false ∙ sym w.value-is ∙ c.if-has_supply_on.true))
      | then-keeps_spreads w ↦ elim c.if-is_allowed.branch [
        | else-is_allowed v ↦ absurd (false≢true (sym v.if-is_allowed.false ∙ sym v.value-is ∙ w.if-keeps_spreads.true))
        | then-is_allowed v ↦ (
          λ last. record {
            value = c.is_allowed.ensures.0 v.if-is_allowed.true;
            spreads = v.keeps_spreads.ensures.0 (sym v.value-is ∙ w.if-keeps_spreads.true);
            supply = w.has_supply_on.ensures.0 (sym w.value-is ∙ c.if-has_supply_on.true);
            dropout = c.keeps_dropout.ensures.0 last;
          },
          λ all. c.keeps_dropout.ensures.1 all.dropout,
        )
      ]
    ]
