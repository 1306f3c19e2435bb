use Rattle.rows.proofs.Spellings.{one_spelling}
use Rattle.rows.proofs.laws.one_spelling.Goals as goal

pub returns : goal.returns
returns c = one_spelling
