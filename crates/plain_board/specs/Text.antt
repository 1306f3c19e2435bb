-- What is printed of a history: its rows, and the summary of the board after them.
use Rattle.std.specs.Prelude.{ℕ, List, [], ◌∷◌, ◌++◌, codes, decimal, flat_map, length}
use Rattle.std.specs.List.{enumerate_from}
use Rattle.board.specs.declared.board.Board.{Board}
use Rattle.board.specs.declared.rail.Rail.{Rail}
use Rattle.board.specs.Rail.{uv, is_on, mode}
use Rattle.rows.specs.declared.row.Row.{Row}
use Rattle.rows.specs.Words.{spaced, ended, mode_text, on_text}
use Rattle.rows.specs.Row.{row_text}
use Rattle.plain_board.specs.declared.plain.Plain.{Plain}
use Rattle.plain_board.specs.Counts.{enables, use_count}
use Rattle.plain_board.specs.History.{replay}

-- the line of a rail in the summary, by its number
abbrev pub rail_text : Board → Plain → ℕ × Rail → List ℕ
rail_text board plain rail =
    ended (spaced (codes "rail" ∷ rail.1.name.bytes ∷ on_text (is_on rail.1 plain.regs)
    ∷ decimal (uv rail.1 plain.regs) ∷ mode_text (mode rail.1 plain.regs) ∷ codes "use" ∷ decimal (use_count board plain rail.0)
    ∷ codes "enables" ∷ decimal (enables plain rail.0) ∷ []))

-- where each rail stands, and how many workers and rows there were
abbrev pub summary_text : Board → Plain → ℕ → ℕ → List ℕ
summary_text board plain workers rows =
    flat_map (rail_text board plain) (enumerate_from 0 board.rails)
    ++ ended (spaced (codes "done" ∷ decimal workers ∷ decimal rows ∷ []))

-- what is printed of a history: its rows in order, and the summary of the board after them
abbrev pub printed : Board → Plain → List Row → ℕ → List ℕ
printed board plain rows workers =
    flat_map (row_text board) rows ++ summary_text board (replay board plain rows) workers (length rows)
