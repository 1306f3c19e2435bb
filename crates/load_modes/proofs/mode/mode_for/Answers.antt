use Rattle.std.proofs.Common.{◌≡◌, sym, subst}
use Rattle.std.specs.Prelude.{IfSome, IsNone, ◌↔◌, false}
use Rattle.load_modes.specs.declared.mode.Mode.{Mode}
use Rattle.load_modes.specs.Modes.{suffices, IsLowest}
use Rattle.load_modes.proofs.Lowest.{mode_of_load-IsLowest, IsNone-mode_of_load}
use Rattle.load_modes.proofs.mode.mode_for.Goals as goal

pub returns-clause-exact : goal.returns-clause-exact
returns-clause-exact c = c.first_that_suffices.ensures

pub returns-clause-lowest : goal.returns-clause-lowest
returns-clause-lowest c =
    subst (λ r. IfSome r (IsLowest c.args.greatest.now c.args.allowed c.args.sum)) (sym c.first_that_suffices.ensures)
    (mode_of_load-IsLowest c.args.greatest.now c.args.allowed c.args.sum)

pub returns-clause-none : goal.returns-clause-none
returns-clause-none c =
    subst (λ r. IsNone r ↔ ((mode : Mode) → suffices c.args.greatest.now c.args.allowed c.args.sum mode ≡ false)) (sym c.first_that_suffices.ensures)
    (IsNone-mode_of_load c.args.greatest.now c.args.allowed c.args.sum)
