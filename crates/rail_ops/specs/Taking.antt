-- What the moves of a call do on a wire.
use Rattle.std.specs.Prelude.{ℕ, ◌≡◌, Bool, true, false, List, map, length, Option, IfSome}
use Rattle.reg_outside.specs.Bus.{Bus, Updates, tried_more}
use Rattle.reg_outside.specs.Count.{Rose}
use Rattle.reg_outside.specs.Plan.{Plan, RefusesNoneOfNext, HasSmallNumbers}
use Rattle.reg_outside.specs.Told.{with_more}
use Rattle.board.specs.declared.board.Board.{Board}
use Rattle.rail_law.specs.Moves.{Move, writes_of}
use Rattle.rows.specs.declared.answer.Answer.{Answer}
use Rattle.plain_board.specs.History.{stop_of, IsWithinPlan, made_of, is_fault}
use Rattle.plain_board.specs.Stops.{Tries, attempts}
use Rattle.plain_board.specs.Update.{update_of}

-- a fault was counted, or none was
abbrev pub Counts : Bool → ℕ → ℕ → Type 0
Counts true count count' = Rose count count'
Counts false count count' = count' ≡ count

-- a wire was tried so: its plan, where it is told, counts each try, and no update that was made was planned to be refused
pub record Tried (tries : Tries) (plan plan' : Option Plan) : Type 0 where
  pub counted : plan' ≡ tried_more (attempts tries) plan
  pub unplanned : IfSome plan (λ plan. HasSmallNumbers plan → RefusesNoneOfNext plan tries.made)

-- the wire took these updates, and then refused one or wasn't tried again
pub record Tells (updates : Updates) (stopped : Bool) (bus bus' : Bus) : Type 0 where
  pub taken : bus'.taken ≡ with_more bus.taken updates
  pub faults : Counts stopped bus.faults bus'.faults
  pub tried : Tried (record { made = length updates; stopped = stopped }) bus.plan bus'.plan

-- the updates of some moves
abbrev pub updates_of : Board → List Move → Updates
updates_of board moves = map update_of (writes_of board moves)

-- a call came to its end or to its stop within these moves: the wire took those that were made, and
-- refused one exactly where the answer is a fault
pub record Took (board : Board) (moves : List Move) (said : Answer) (bus bus' : Bus) : Type 0 where
  pub within : IsWithinPlan (stop_of said) moves
  pub tells : Tells (updates_of board (made_of (stop_of said) moves)) (is_fault said) bus bus'
