-- When an enable of a handle can't be given up.
use Rattle.std.specs.Prelude.{ℕ, ◌==◌, Bool, Option, Some, None, if◌then◌else◌}
use Rattle.rows.specs.declared.answer.Answer.{Answer}
use Rattle.rows.specs.declared.answer.Answer.TheVariants.{Unbalanced, Suspended}

-- the board is suspended, or the handle has no enable
abbrev pub disable_refusal : Bool → ℕ → Option Answer
disable_refusal suspended enables = if suspended then Some Suspended else if enables == 0 then Some (Unbalanced 0) else None
