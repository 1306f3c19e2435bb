use Rattle.std.proofs.Common.{Err, ap}
use Rattle.board_draft.proofs.parts.turns_of.Goals as goal

pub returns-in-Err-Group-clause-turns : goal.returns-in-Err-Group-clause-turns
returns-in-Err-Group-clause-turns c =
    let is = c.in-Err-Group.field-0-is in
    (λ s. c.in-Err-Group.ensures.no_supply c.in-Err-Group.r s (ap Err is), c.in-Err-Group.ensures.group c.in-Err-Group.r (ap Err is))

pub returns-in-Err-Supply-clause-fault : goal.returns-in-Err-Supply-clause-fault
returns-in-Err-Supply-clause-fault c = λ _. c.in-Err-Supply.ensures.supply c.in-Err-Supply.r (ap Err c.in-Err-Supply.field-0-is)
