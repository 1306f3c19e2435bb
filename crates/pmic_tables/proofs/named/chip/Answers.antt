use Rattle.std.proofs.Common.{◌≡◌, ℕ, List, Some, true, false, refl, sym, ◌∙◌}
use Rattle.std.specs.Prelude.{codes}
use Rattle.std.specs.Str.{bytes_eq}
use Rattle.pmic_tables.specs.Named.{sheet_named}
use Rattle.pmic_tables.specs.Pm12.{pm12}
use Rattle.pmic_tables.proofs.Chips.{pm4_sound, pm8_sound, pm12_sound, pm4_apart, pm8_apart, pm12_apart}
use Rattle.pmic_tables.proofs.named.chip.Goals as goal

pub returns-in_ok-describe-clause-sound : goal.returns-in_ok-describe-clause-sound
returns-in_ok-describe-clause-sound c = pm4_sound c.args.number c.in_ok-describe.field-0 c.in_ok-describe.ensures

pub returns-in_ok-describe-clause-apart : goal.returns-in_ok-describe-clause-apart
returns-in_ok-describe-clause-apart c = pm4_apart c.args.number c.in_ok-describe.field-0 c.in_ok-describe.ensures

pub returns-in_ok-describe-2-clause-sound : goal.returns-in_ok-describe-2-clause-sound
returns-in_ok-describe-2-clause-sound c = pm8_sound c.args.number c.in_ok-describe-2.field-0 c.in_ok-describe-2.ensures

pub returns-in_ok-describe-2-clause-apart : goal.returns-in_ok-describe-2-clause-apart
returns-in_ok-describe-2-clause-apart c = pm8_apart c.args.number c.in_ok-describe-2.field-0 c.in_ok-describe-2.ensures

pub returns-in_ok-describe-3-clause-sound : goal.returns-in_ok-describe-3-clause-sound
returns-in_ok-describe-3-clause-sound c = pm12_sound c.args.number c.in_ok-describe-3.field-0 c.in_ok-describe-3.ensures

pub returns-in_ok-describe-3-clause-apart : goal.returns-in_ok-describe-3-clause-apart
returns-in_ok-describe-3-clause-apart c = pm12_apart c.args.number c.in_ok-describe-3.field-0 c.in_ok-describe-3.ensures

-- the third name, which isn't one of the others
third-sheet :
    (name : List ℕ) → bytes_eq name (codes "example,pm4") ≡ false → bytes_eq name (codes "example,pm8") ≡ false → bytes_eq name (codes "example,pm12") ≡ true
    → sheet_named name ≡ Some pm12
third-sheet name not_first not_second is = rw (not_first, not_second, is) refl

third : (c : goal.In_ok-describe-3) → sheet_named c.args.compatible.now ≡ Some pm12
third c =
    third-sheet c.args.compatible.now
    (rw c.as_slice.ensures at (sym c.eq.ensures ∙ c.if-eq.false))
    (rw c.as_slice-else-eq.ensures at (sym c.eq-else-eq.ensures ∙ c.if-eq-2.false))
    (cc)

pub returns-in_ok-describe-3-clause-none : goal.returns-in_ok-describe-3-clause-none
returns-in_ok-describe-3-clause-none c = rw (third c) (λ none. none, λ none. none)

pub returns-in_ok-describe-3-clause-described : goal.returns-in_ok-describe-3-clause-described
returns-in_ok-describe-3-clause-described c = rw (third c) c.in_ok-describe-3.ensures
