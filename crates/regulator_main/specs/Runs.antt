-- What a session does when it is run.
use Rattle.std.specs.Prelude.{ℕ, List, [], ◌∷◌, length, codes, decimal}
use Rattle.rows.specs.declared.row.Row.{Row}
use Rattle.rows.specs.Words.{spaced, ended, hex_text}
use Rattle.plain_board.specs.Text.{printed}
use Rattle.session.specs.declared.session.Session.{Session}
use Rattle.regulator_main.specs.Bringing.{BringsUp}
use Rattle.regulator_main.specs.Playing.{PlaysAll}
use Rattle.regulator_main.specs.Wires.{Wires}

-- the load was made, and then the scripts ran
pub record Runs (session : Session) (rows : List Row) (before after : Wires) : Type 0 where
  pub between : Wires
  pub load : BringsUp session.loaded.writes session.refusals before between
  pub scripts : PlaysAll session.loaded.board session.loaded.plain session.refusals session.scripts rows between after

-- what is printed of rows of a session: their texts, and the summary of the board after them
abbrev pub text_of : Session → List Row → List ℕ
text_of session rows = printed session.loaded.board session.loaded.plain rows (length session.scripts)

-- the line of a load that was stopped
abbrev pub load_fault_text : ℕ → ℕ → List ℕ
load_fault_text chip reg = ended (spaced (codes "loadfault" ∷ decimal chip ∷ hex_text reg ∷ []))
