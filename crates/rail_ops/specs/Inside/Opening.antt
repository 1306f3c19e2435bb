-- When a handle can't be opened, and what a call that makes no move leaves.
use Rattle.std.specs.Prelude.{ℕ, ◌≡◌, Bool, nat_le, List, length, Option, Some, None, is_some, if◌then◌else◌}
use Rattle.rows.specs.declared.answer.Answer.{Answer}
use Rattle.rows.specs.declared.answer.Answer.TheVariants.{HandleOpen, HandlesFull}
use Rattle.rows.specs.declared.call.Call.{Call}
use Rattle.use_counts.specs.declared.handle_row.HandleRow.{HandleRow}
use Rattle.use_counts.specs.Uses.{rail_named}
use Rattle.plain_board.specs.declared.plain.Plain.{Plain}
use Rattle.plain_board.specs.Answer.{answer}
use Rattle.plain_board.specs.Refusals.{excludes, most_handles}
use Rattle.rail_ops.specs.Sight.{MayBe, Place}

-- the worker has the name open, or as many names as it can have
abbrev pub own_refusal : List (List ℕ × ℕ) → List ℕ → Option Answer
own_refusal names name =
    if is_some (rail_named names name) then Some HandleOpen else if nat_le most_handles (length names) then Some (HandlesFull most_handles) else None

-- a handle of the rail is to be alone, or the new one
abbrev pub rail_refusal : Bool → List HandleRow → Option Answer
rail_refusal exclusive rows = if (excludes exclusive rows).0 then Some (excludes exclusive rows).1 else None

-- a call was answered so on this plain board, without a stop, and the worker sees the plain board after it
pub record IsAnswered (call : Call) (before after : Place) (said : Answer) (plain : Plain) : Type 0 where
  pub answered : (answer before.hands.board plain before.worker call None).0 ≡ said
  pub leaves : MayBe after (answer before.hands.board plain before.worker call None).1
