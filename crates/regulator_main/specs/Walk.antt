-- What the moves of a call do outside the plain board.
use Rattle.std.specs.Prelude.{ℕ, ◌≡◌, true, false, List, map, Option, IfSome}
use Rattle.reg_outside.specs.Plan.{Plan, RefusesNoneOfNext, HasSmallNumbers}
use Rattle.reg_outside.specs.Told.{with_more}
use Rattle.board.specs.declared.board.Board.{Board}
use Rattle.rail_law.specs.Moves.{Move, after_moves, writes_of}
use Rattle.reg_outside.specs.Bus.{Updates, tried_more}
use Rattle.plain_board.specs.Update.{update_of}
use Rattle.plain_board.specs.Stops.{Tries, attempts}

-- these moves were made: in the registers, and on the wire
pub record Makes (board : Board) (moves : List Move) (regs regs' : List (List ℕ)) (told told' : Option Updates) : Type 0 where
  pub registers : regs' ≡ after_moves board regs moves
  pub updates : told' ≡ with_more told (map update_of (writes_of board moves))

-- so many updates were made, and none was refused
abbrev pub all_made : ℕ → Tries
all_made made = record { made = made; stopped = false }

-- so many updates were made, and then one was refused
abbrev pub stopped_after : ℕ → Tries
stopped_after made = record { made = made; stopped = true }

-- a wire was tried so: its plan, where it is told, counts each try, and no update that was made was planned to be refused
pub record Tried (tries : Tries) (plan plan' : Option Plan) : Type 0 where
  pub counted : plan' ≡ tried_more (attempts tries) plan
  pub unplanned : IfSome plan (λ plan. HasSmallNumbers plan → RefusesNoneOfNext plan tries.made)
