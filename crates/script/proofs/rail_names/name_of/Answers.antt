use Rattle.std.proofs.Common.{rules, ◌≡◌, true}
use Rattle.std.specs.Str.{IsUtf8}
use Rattle.script.specs.RailNames.{is_name}
use Rattle.script.proofs.Named.{IsUtf8-name}
use Rattle.script.proofs.rail_names.name_of.Goals as goal

pub returns-in_err-text-clause-none : goal.returns-in_err-text-clause-none
returns-in_err-text-clause-none c =
    let bad : ¬ IsUtf8 c.args.word.now = search rules in
    let good : is_name c.args.word.now ≡ true = search rules in
    absurd (bad (IsUtf8-name c.args.word.now good))
