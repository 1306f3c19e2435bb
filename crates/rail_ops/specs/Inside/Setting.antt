-- When a handle can't be set, and where its rail goes.
use Rattle.std.specs.Prelude.{ℕ, ◌&&◌, Bool, nat_lt, List, filter, filter_map, Option, Some, None, if◌then◌else◌}
use Rattle.std.specs.List.{list_all}
use Rattle.board.specs.declared.rail.Rail.{Rail}
use Rattle.board.specs.Rail.{allowed, least}
use Rattle.rows.specs.declared.answer.Answer.{Answer}
use Rattle.rows.specs.declared.answer.Answer.TheVariants.{BadRange, Suspended}
use Rattle.use_counts.specs.declared.handle_row.HandleRow.{HandleRow}
use Rattle.plain_board.specs.Requests.{meets}

-- the board is suspended, or the least value asked for is above the greatest
abbrev pub set_refusal : Bool → ℕ → ℕ → Option Answer
set_refusal suspended lo hi = if suspended then Some Suspended else if nat_lt hi lo then Some (BadRange lo hi) else None

-- the least value of the rail that meets a request and what these other handles ask
abbrev pub least_meeting : Rail → List HandleRow → ℕ × ℕ → Option ℕ
least_meeting rail others request = least (filter (λ uv. meets uv request && list_all (meets uv) (filter_map (λ row. row.request) others)) (allowed rail))
