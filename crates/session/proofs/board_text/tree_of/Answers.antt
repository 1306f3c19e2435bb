use Rattle.std.proofs.Common.{Ok, sym, ap, ◌∙◌}
use Rattle.session.proofs.BoardTexts.{of_no_tree}
use Rattle.session.proofs.board_text.tree_of.Goals as goal

pub returns-clause-fault : goal.returns-clause-fault
returns-clause-fault c =
    of_no_tree c.args.text.now c.deref.result.now c.in-Err.fault c.of_tree.result
    (c.in_ok-tokens.ensures.tokens ∙ ap Ok (sym c.deref.ensures.value)) c.of_tree.ensures c.in-Err.ensures.fault
