use Rattle.dts_lex.proofs.CoverLemmas.{lexed_whole}
use Rattle.dts_lex.proofs.laws.tokens_cover.Goals as goal

pub returns : goal.returns
returns c = λ text tokens is. (lexed_whole text tokens is).covers
