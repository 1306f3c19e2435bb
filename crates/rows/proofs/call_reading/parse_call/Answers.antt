use Rattle.std.proofs.Common.{◌≡◌, length, true, rules}
use Rattle.std.proofs.lemmas.List.{nil_from_length}
use Rattle.rows.specs.Reading.{opens}
use Rattle.rows.proofs.Spellings.{not_empty}
use Rattle.rows.proofs.call_reading.parse_call.Goals as goal

pub returns-then-is_empty-clause-none : goal.returns-then-is_empty-clause-none
returns-then-is_empty-clause-none c =
    let none : length c.in-Some.word.now ≡ 0 = search rules in
    let empty = nil_from_length c.in-Some.word.now none in
    let opening : opens c.in-Some.call ≡ true = cc in
    not_empty c.args.line.now c.in-Some.word.now c.in-Some.call (c.in-Some.ensures.some.0) empty opening
