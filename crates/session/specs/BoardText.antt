-- What the board part of a session comes to: a board with its registers, or a refusal.
use Rattle.std.specs.Prelude.{ℕ, ◌≡◌, ◌+◌, ◌==◌, List, take, flat_map, count_by, Some, None, Result, Ok, Err}
use Rattle.rows.specs.Words.{ended}
use Rattle.dts_lex.specs.declared.fault.LexFault.{LexFault}
use Rattle.dts_lex.specs.declared.fault.LexFault.TheVariants as lex
use Rattle.dts_lex.specs.declared.token.Token.{Token}
use Rattle.dts_lex.specs.Lex.{lexed}
use Rattle.dts_tree.specs.declared.fault.TreeFault.{TreeFault}
use Rattle.dts_tree.specs.declared.fault.TreeFault.TheVariants as tree
use Rattle.dts_tree.specs.Outcome.{IsOutcome}
use Rattle.dts_tree.specs.Tree.{Node}
use Rattle.board.specs.Valid.{IsValid}
use Rattle.board_nodes.specs.Chips.{resets_of}
use Rattle.board_draft.specs.declared.drafted.Drafted.{Drafted}
use Rattle.board_draft.specs.declared.fault.BoardFault.{BoardFault}
use Rattle.board_draft.specs.Faults.{first_fault}
use Rattle.board_draft.specs.Sketch.{IsBoardOf}
use Rattle.board_load.specs.Demo.{IsDemoDraft}
use Rattle.session.specs.declared.fault.SessionFault.{SessionFault}
use Rattle.session.specs.declared.fault.SessionKind.{SessionKind}
use Rattle.session.specs.declared.fault.SessionKind.TheVariants.{BadChar, Unclosed, NumberTooWide, Syntax, NoLabel, TwoLabels, NotSupported, TooDeep, Board, Memory}
use Rattle.session.specs.Frame.{BoardPart, Demo, Text}

-- the text of a board: its lines, each ended
abbrev pub text_of : List (List ℕ) → List ℕ
text_of lines = flat_map ended lines

-- the line of a session that holds a byte of its board's text, which begins at line 3
abbrev pub line_at : List ℕ → ℕ → ℕ
line_at text at = 3 + count_by (λ byte. byte == 10) (take at text)

-- a refusal of a text at one of its bytes
abbrev pub at_byte : List ℕ → ℕ → (ℕ → SessionKind) → SessionFault
at_byte text at kind = record { line = line_at text at; kind = kind at }

-- want of memory, which no text has
abbrev pub no_memory : SessionFault
no_memory = record { line = 0; kind = Memory }

-- what can't be read of a text
abbrev pub of_lex : List ℕ → LexFault → SessionFault
of_lex text (lex.BadChar at) = at_byte text at BadChar
of_lex text (lex.Unclosed at) = at_byte text at Unclosed
of_lex text (lex.NumberTooWide at) = at_byte text at NumberTooWide
of_lex text lex.Memory = no_memory

-- why its tokens are no tree
abbrev pub of_tree : List ℕ → TreeFault → SessionFault
of_tree text (tree.Syntax at) = at_byte text at Syntax
of_tree text (tree.NoLabel at) = at_byte text at NoLabel
of_tree text (tree.TwoLabels at) = at_byte text at TwoLabels
of_tree text (tree.NotSupported at end) = at_byte text at NotSupported
of_tree text (tree.TooDeep at) = at_byte text at TooDeep
of_tree text tree.Memory = no_memory

-- why its tree is no board: at the line of the board
abbrev pub of_board : BoardFault → SessionFault
of_board fault = record { line = 2; kind = Board fault }

-- the board of a tree, with its registers after a reset
pub record IsDraftOf (nodes : List Node) (drafted : Drafted) : Type 0 where
  pub none : first_fault nodes ≡ None
  pub board : IsBoardOf nodes drafted.board
  pub valid : IsValid drafted.board
  pub resets : drafted.resets ≡ resets_of nodes

-- what nodes come to
abbrev pub NodesCome : List Node → Result Drafted SessionFault → Type 0
NodesCome nodes (Ok drafted) = IsDraftOf nodes drafted
NodesCome nodes (Err refusal) = (fault : BoardFault) × (first_fault nodes ≡ Some fault) × (refusal ≡ of_board fault)

-- what the outcome of a text comes to
abbrev pub OutcomeComes : List ℕ → Result (List Node) TreeFault → Result Drafted SessionFault → Type 0
OutcomeComes text (Ok nodes) come = NodesCome nodes come
OutcomeComes text (Err fault) come = come ≡ Err (of_tree text fault)

-- what the tokens of a text come to, or what can't be read of it
abbrev pub TokensCome : List ℕ → Result (List Token) LexFault → Result Drafted SessionFault → Type 0
TokensCome text (Ok tokens) come = (outcome : Result (List Node) TreeFault) × IsOutcome text tokens outcome × OutcomeComes text outcome come
TokensCome text (Err fault) come = come ≡ Err (of_lex text fault)

-- what the board of a session comes to
abbrev pub BoardComes : BoardPart → Result Drafted SessionFault → Type 0
BoardComes Demo (Ok drafted) = IsDemoDraft drafted
BoardComes Demo (Err refusal) = ⊥
BoardComes (Text lines) come = TokensCome (text_of lines) (lexed (text_of lines)) come
