-- When a handle can't be enabled once more.
use Rattle.std.specs.Prelude.{ℕ, ◌==◌, Bool, Option, Some, None, if◌then◌else◌}
use Rattle.rows.specs.declared.answer.Answer.{Answer}
use Rattle.rows.specs.declared.answer.Answer.TheVariants.{CountFull, Suspended}
use Rattle.plain_board.specs.Refusals.{most_enables}

-- the board is suspended, or the handle has as many enables as it can have
abbrev pub enable_refusal : Bool → ℕ → Option Answer
enable_refusal suspended enables = if suspended then Some Suspended else if enables == most_enables then Some (CountFull most_enables) else None
