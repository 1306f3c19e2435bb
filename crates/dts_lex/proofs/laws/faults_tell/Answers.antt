use Rattle.dts_lex.proofs.TellLemmas.{lexed_tells}
use Rattle.dts_lex.proofs.laws.faults_tell.Goals as goal

pub returns : goal.returns
returns c = λ text fault is. lexed_tells text fault is
