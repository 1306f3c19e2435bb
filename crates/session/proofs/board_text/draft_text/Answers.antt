use Rattle.session.proofs.BoardTexts.{of_tree_drafted, of_no_board}
use Rattle.session.proofs.board_text.draft_text.Goals as goal

pub returns-in-Ok-clause-board : goal.returns-in-Ok-clause-board
returns-in-Ok-clause-board c =
    of_tree_drafted c.args.text.now c.in_ok-tree.tree c.in-Ok.drafted c.in_ok-tree.ensures.tree
    c.in-Ok.ensures.none c.in-Ok.ensures.board c.in-Ok.ensures.valid c.in-Ok.ensures.resets

pub returns-in-Ok-clause-inside : goal.returns-in-Ok-clause-inside
returns-in-Ok-clause-inside c =
    c.drafts_have_values.ensures.values c.in_ok-tree.tree c.in-Ok.drafted.board c.in-Ok.ensures.none c.in-Ok.ensures.board

pub returns-clause-fault : goal.returns-clause-fault
returns-clause-fault c =
    of_no_board c.args.text.now c.in_ok-tree.tree c.in-Err.fault c.of_board.result c.in_ok-tree.ensures.tree
    c.in-Err.ensures.fault c.of_board.ensures.memory c.of_board.ensures.board
