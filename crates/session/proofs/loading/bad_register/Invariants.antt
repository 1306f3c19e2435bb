use Rattle.std.proofs.Common.{◌≡◌, false}
use Rattle.std.specs.List.{AllWithin}
use Rattle.session.specs.Loading.{names_no_chip}
use Rattle.session.proofs.loading.bad_register.Given as goal

abbrev pub invariant-loop-at : goal.invariant-loop-at
invariant-loop-at l = AllWithin (λ line. names_no_chip l.chips line ≡ false) l.setup 0 l.at
