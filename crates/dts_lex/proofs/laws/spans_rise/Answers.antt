use Rattle.dts_lex.proofs.LexLemmas.{found}
use Rattle.dts_lex.proofs.laws.spans_rise.Goals as goal

pub returns : goal.returns
returns c = λ text tokens is. (found text tokens is).spans
