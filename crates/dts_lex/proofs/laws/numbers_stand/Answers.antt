use Rattle.dts_lex.proofs.ReadingLemmas.{lexed_read}
use Rattle.dts_lex.proofs.laws.numbers_stand.Goals as goal

pub returns : goal.returns
returns c = λ text tokens is. (lexed_read text tokens is).numbers
