-- What a machine that takes a text token by token gives for the whole text.
use Rattle.std.specs.Prelude.{ℕ, List, [], ◌∷◌, ◌++◌, Option, Some, None, length, if◌then◌else◌}
use Rattle.dts_lex.specs.declared.token.Token.{Token}
use Rattle.dts_tree.specs.declared.fault.TreeFault.{TreeFault}
use Rattle.dts_tree.specs.declared.fault.TreeFault.TheVariants.{Syntax}
use Rattle.dts_tree.specs.Lexeme.{lexeme_of}
use Rattle.dts_tree.specs.Setting.{Setting}
use Rattle.dts_tree.specs.Outline.{list_of, fault_of}
use Rattle.dts_tree.specs.Inside.State.{State, Move, move, is_whole}

-- what is set, and the first fault of grammar
pub record Run : Type 0 where
  pub settings : List Setting
  pub fault : Option TreeFault

-- the settings of a run behind this
abbrev pub behind : Option Setting → Run → Run
behind setting run = record { settings = list_of setting ++ run.settings; fault = run.fault }

abbrev pub then_run : List ℕ → Token → (State → Run) → Option Move → Run
then_run text token others None = record { settings = []; fault = Some (fault_of text token) }
then_run text token others (Some m) = behind m.1 (others m.0)

-- from a state on
unfoldable pub run : List ℕ → State → List Token → Run
run text state [] = record { settings = []; fault = if is_whole state then None else Some (Syntax (length text)) }
run text state (token ∷ tokens) = then_run text token (λ next. run text next tokens) (move state (lexeme_of text token) token.start)
