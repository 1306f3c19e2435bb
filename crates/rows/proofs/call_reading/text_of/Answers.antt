use Rattle.std.proofs.Common.{rules}
use Rattle.std.specs.Str.{IsUtf8}
use Rattle.std.proofs.lemmas.Str.{IsUtf8-from_ascii}
use Rattle.std.proofs.lemmas.Str.Ascii.{IsAscii-from_all}
use Rattle.rows.proofs.call_reading.text_of.Goals as goal

pub returns-in-Err-clause-none : goal.returns-in-Err-clause-none
returns-in-Err-clause-none c = λ ascii.
    let bad : ¬ IsUtf8 c.args.word.now = search rules in
    bad (IsUtf8-from_ascii c.args.word.now (IsAscii-from_all c.args.word.now ascii))
