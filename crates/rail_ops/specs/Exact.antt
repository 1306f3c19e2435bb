-- What a call does, by the plain boards that may be before the worker.
use Rattle.std.specs.Prelude.{ℕ, ◌≡◌, ◌≤◌, Bool, false, List, [], length, take, if◌then◌else◌}
use Rattle.reg_outside.specs.Bus.{Bus}
use Rattle.board.specs.declared.write.Write.{Write}
use Rattle.rail_law.specs.Moves.{writes_of}
use Rattle.board.specs.declared.board.Board.{Board}
use Rattle.rows.specs.declared.answer.Answer.{Answer}
use Rattle.rows.specs.declared.call.Call.{Call}
use Rattle.plain_board.specs.declared.plain.Plain.{Plain}
use Rattle.plain_board.specs.Answer.{answer, plan, stopped}
use Rattle.plain_board.specs.Moved.{after_first}
use Rattle.plain_board.specs.History.{stop_of, made_of}
use Rattle.rail_ops.specs.Sight.{Place, MayBe, Shows}
use Rattle.rail_ops.specs.Taking.{Tells, Took, updates_of}

-- on this plain board the call is exact: it is answered as the plain board answers it, where the bus
-- stopped it with the place of the stop; the worker sees the plain board after it; the wire took the
-- moves that were made; and these are the writes that it kept
pub record IsExact (call : Call) (before after : Place) (bus bus' : Bus) (keep : Bool) (said : Answer) (writes : List Write) (plain : Plain) : Type 0 where
  pub answered : (answer before.hands.board plain before.worker call (stop_of said)).0 ≡ said
  pub leaves : MayBe after (answer before.hands.board plain before.worker call (stop_of said)).1
  pub took : Took before.hands.board (plan before.hands.board plain before.worker call) said bus bus'
  pub kept : writes ≡ (if keep then writes_of before.hands.board (made_of (stop_of said) (plan before.hands.board plain before.worker call)) else [])

-- the call is exact, whichever plain board is before the worker
abbrev pub Performs : Call → Place → Place → Bus → Bus → Bool → Answer → List Write → Type 0
Performs call before after bus bus' keep said writes = (plain : Plain) → MayBe before plain → IsExact call before after bus bus' keep said writes plain

-- The plain board where the memory was out after the first so many moves of a call: as after a stop
-- behind them, but that no move was refused.
abbrev pub cut_off : Board → Plain → ℕ → Call → ℕ → Plain
cut_off board plain worker call made =
    let moves = take made (plan board plain worker call) in stopped board (after_first board plain made moves) worker call

-- so many moves were made: the worker sees the plain board that is left, and the wire took these alone
pub record IsLeft (call : Call) (before after : Place) (bus bus' : Bus) (plain : Plain) : Type 0 where
  pub made : ℕ
  pub within : made ≤ length (plan before.hands.board plain before.worker call)
  pub shows : Shows after.hands (cut_off before.hands.board plain before.worker call made)
  pub names : after.names ≡ before.names
  pub tells : Tells (updates_of before.hands.board (take made (plan before.hands.board plain before.worker call))) false bus bus'

-- so it was, whichever plain board is before the worker
abbrev pub Leaves : Call → Place → Place → Bus → Bus → Type 0
Leaves call before after bus bus' = (plain : Plain) → MayBe before plain → IsLeft call before after bus bus' plain
