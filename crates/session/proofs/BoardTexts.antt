-- What a board's text comes to, by the calls that read it.
use Rattle.std.proofs.Common.{◌≡◌, ◌≢◌, ℕ, List, Some, None, Ok, Err, ap, ◌∙◌}
use Rattle.board.specs.Valid.{IsValid}
use Rattle.board_nodes.specs.Chips.{resets_of}
use Rattle.board_draft.specs.declared.drafted.Drafted.{Drafted}
use Rattle.board_draft.specs.declared.fault.BoardFault.{BoardFault}
use Rattle.board_draft.specs.declared.fault.BoardFault.TheVariants as board
use Rattle.board_draft.specs.Faults.{first_fault}
use Rattle.board_draft.specs.Sketch.{IsBoardOf}
use Rattle.dts_lex.specs.declared.token.Token.{Token}
use Rattle.dts_lex.specs.Lex.{lexed}
use Rattle.dts_tree.specs.declared.fault.TreeFault.{TreeFault}
use Rattle.dts_tree.specs.declared.fault.TreeFault.TheVariants as tree
use Rattle.dts_tree.specs.Outcome.{IsOutcome}
use Rattle.dts_tree.specs.Tree.{Node}
use Rattle.session.specs.declared.fault.SessionFault.{SessionFault}
use Rattle.session.specs.declared.fault.SessionKind.TheVariants.{Memory}
use Rattle.session.specs.BoardText.{of_tree, of_board, no_memory, TokensCome}
use Rattle.session.specs.Inside.Loaded.{IsTreeOf}

-- the fault of a tree
pub of_no_tree : (text : List ℕ) (tokens : List Token) (fault : TreeFault) (told : SessionFault) → lexed text ≡ Ok tokens → told ≡ of_tree text fault
    → (fault ≢ tree.Memory → IsOutcome text tokens (Err fault)) → told.kind ≢ Memory → TokensCome text (lexed text) (Err told)
of_no_tree text tokens fault told read is outcome kind =
    let ne : fault ≢ tree.Memory = λ memory. kind (ap (λ (f : SessionFault). f.kind) is ∙ ap (λ f. (of_tree text f).kind) memory) in
    rw read (Err fault, outcome ne, ap Err is)

-- the board of a tree
pub of_tree_drafted : (text : List ℕ) (nodes : List Node) (drafted : Drafted) → IsTreeOf text nodes
    → first_fault nodes ≡ None → IsBoardOf nodes drafted.board → IsValid drafted.board → drafted.resets ≡ resets_of nodes → TokensCome text (lexed text) (Ok drafted)
of_tree_drafted text nodes drafted is none board valid resets =
    rw is.lexed (Ok nodes, is.outcome, record { none = none; board = board; valid = valid; resets = resets })

-- the fault of a board
pub of_no_board : (text : List ℕ) (nodes : List Node) (fault : BoardFault) (told : SessionFault) → IsTreeOf text nodes
    → (fault ≢ board.Memory → first_fault nodes ≡ Some fault) → (fault ≡ board.Memory → told ≡ no_memory) → (fault ≢ board.Memory → told ≡ of_board fault)
    → told.kind ≢ Memory → TokensCome text (lexed text) (Err told)
of_no_board text nodes fault told is faulty memory other kind =
    let ne : fault ≢ board.Memory = λ same. kind (ap (λ (f : SessionFault). f.kind) (memory same)) in
    rw is.lexed (Ok nodes, is.outcome, (fault, faulty ne, other ne))
