-- What the board of a session comes to, by its text and its setup.
use Rattle.std.specs.Prelude.{ℕ, ◌≡◌, ◌⊎◌, List, [], ◌∷◌, length, Option, Some, None, Result, Ok, Err}
use Rattle.dts_lex.specs.Lex.{lexed}
use Rattle.dts_lex.specs.declared.token.Token.{Token}
use Rattle.dts_tree.specs.Outcome.{IsOutcome}
use Rattle.dts_tree.specs.Tree.{Node}
use Rattle.dts_nodes.specs.Firsts.{first_of, when}
use Rattle.board_draft.specs.declared.drafted.Drafted.{Drafted}
use Rattle.board_load.specs.declared.finishing.FinishFault.{FinishFault}
use Rattle.board_load.specs.declared.finishing.FinishFault.TheVariants as finish
use Rattle.board_load.specs.declared.loaded.Loaded.{Loaded}
use Rattle.board_load.specs.Demo.{IsDemoDraft}
use Rattle.board_load.specs.Loading.{load}
use Rattle.session.specs.declared.fault.SessionFault.{SessionFault}
use Rattle.session.specs.declared.fault.SessionKind.TheVariants.{NotYet, NoVector}
use Rattle.session.specs.declared.setup.Setup.{Setup}
use Rattle.session.specs.BoardText.{line_at, no_memory, TokensCome}
use Rattle.session.specs.Loading.{at_board, bad_register, is_unbuilt, found_regs, setup_fault}

-- the tree of a text
pub record IsTreeOf (text : List ℕ) (nodes : List Node) : Type 0 where
  pub tokens : List Token
  pub lexed : lexed text ≡ Ok tokens
  pub outcome : IsOutcome text tokens (Ok nodes)

-- what the text of a board comes to; where there is none it is the built-in board
abbrev pub TextComes : Option (List ℕ) → Result Drafted SessionFault → Type 0
TextComes None (Ok drafted) = IsDemoDraft drafted
TextComes None (Err refusal) = ⊥
TextComes (Some text) come = TokensCome text (lexed text) come

-- how many lines stand before the setup: behind a text as many as before its end
abbrev pub lines_before : Option (List ℕ) → ℕ
lines_before None = 2
lines_before (Some text) = line_at text (length text)

-- what is refused before a register is looked at
abbrev pub early_fault : ℕ → List Setup → Drafted → Option SessionFault
early_fault before setup drafted =
    first_of (bad_register drafted.board.chips before setup ∷ when (is_unbuilt drafted.board) (at_board NotYet) ∷ [])

-- why a board isn't loaded
abbrev pub of_finish : FinishFault → SessionFault
of_finish (finish.NoVector r) = at_board (NoVector r)
of_finish finish.Memory = no_memory

-- the board of this text is loaded with this setup
pub record IsLoaded (text : Option (List ℕ)) (setup : List Setup) (loaded : Loaded) : Type 0 where
  pub drafted : Drafted
  pub board : TextComes text (Ok drafted)
  pub none : setup_fault (lines_before text) setup drafted ≡ None
  pub made : load drafted.board (found_regs drafted setup) ≡ Some loaded

-- the board of this text can't be loaded with this setup
pub record IsUnloaded (text : Option (List ℕ)) (setup : List Setup) (fault : SessionFault) : Type 0 where
  pub drafted : Drafted
  pub board : TextComes text (Ok drafted)
  pub refused : setup_fault (lines_before text) setup drafted ≡ Some fault

-- the text makes no board, or one that can't be loaded
abbrev pub IsRefused : Option (List ℕ) → List Setup → SessionFault → Type 0
IsRefused text setup fault = TextComes text (Err fault) ⊎ IsUnloaded text setup fault
