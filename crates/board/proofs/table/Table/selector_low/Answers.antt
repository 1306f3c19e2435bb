use Rattle.board.proofs.table.Table.selector_low.Goals as goal

pub returns-in-List-clause-pick : goal.returns-in-List-clause-pick
returns-in-List-clause-pick c = rw c.in-List.is (cc)
