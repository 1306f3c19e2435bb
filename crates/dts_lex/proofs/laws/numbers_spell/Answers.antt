use Rattle.std.proofs.Common.{refl}
use Rattle.dts_lex.specs.Number.{number_of}
use Rattle.dts_lex.proofs.SpellingLemmas.{is_read_of, spelled}
use Rattle.dts_lex.proofs.laws.numbers_spell.Goals as goal

pub returns-clause-read : goal.returns-clause-read
returns-clause-read c = λ word. is_read_of word (number_of word) refl

pub returns-clause-spelled : goal.returns-clause-spelled
returns-clause-spelled c = spelled
