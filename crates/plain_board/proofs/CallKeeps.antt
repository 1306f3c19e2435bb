-- What it takes that a call keeps what holds of a plain board.
use Rattle.std.proofs.Common.{◌≡◌, ℕ, List, Option, ap, arith, length, take}
use Rattle.std.proofs.lemmas.List.{take_all}
use Rattle.board.specs.declared.board.Board.{Board}
use Rattle.rail_law.specs.Law.{Law}
use Rattle.rail_law.specs.Moves.{Move, after_moves}
use Rattle.rows.specs.declared.call.Call.{Call}
use Rattle.plain_board.specs.declared.plain.Plain.{Plain}
use Rattle.plain_board.specs.Answer.{settled}
use Rattle.plain_board.specs.Inv.{Inv}
use Rattle.plain_board.specs.Law.{Throughout}
use Rattle.plain_board.specs.Plan.{moves_of_call}
use Rattle.plain_board.specs.Untied.{IsUntied, HoldFields}
use Rattle.plain_board.proofs.Switches.{IsSwitching, law_switched}
use Rattle.plain_board.proofs.Throughout.{Throughout-take, Throughout-after, Throughout-weaker}

-- the law holds after each move of a call that isn't refused, and all that held holds once it is done or stopped
pub record KeepsAll (board : Board) (plain : Plain) (worker : ℕ) (call : Call) : Type 0 where
  pub law : Throughout (Law board) board plain.regs (moves_of_call board plain worker call)
  pub inv : (stop : Option ℕ) → Inv board (settled board plain worker call (moves_of_call board plain worker call) stop).1
  pub fields : (stop : Option ℕ) → HoldFields board (settled board plain worker call (moves_of_call board plain worker call) stop).1.regs

-- the registers after all moves are those after the first so many as there are
pub all_taken : (board : Board) (regs : List (List ℕ)) (moves : List Move) → after_moves board regs (take (length moves) moves) ≡ after_moves board regs moves
all_taken board regs moves = ap (after_moves board regs) (take_all (length moves) moves (omega arith))

-- what holds throughout some moves holds after the first so many
pub after_first_moves : (P : List (List ℕ) → Type 0) (board : Board) (regs : List (List ℕ)) (moves : List Move) (made : ℕ) → Throughout P board regs moves → P (after_moves board regs (take made moves))
after_first_moves P board regs moves made all = Throughout-after P board regs (take made moves) (Throughout-take P board regs moves made all)

-- while rails are switched the law holds
pub switching_lawful : (board : Board) → IsUntied board → (first : List (List ℕ)) → Law board first → (Needed : ℕ → Type 0) (moves : List Move)
    → Throughout (IsSwitching board first Needed) board first moves → Throughout (Law board) board first moves
switching_lawful board untied first law Needed moves all =
    Throughout-weaker (IsSwitching board first Needed) (Law board) board first moves (λ regs state. law_switched board first regs state.only untied law state.supplies) all

-- and the fields are held
pub switching_fields : (board : Board) (first : List (List ℕ)) → HoldFields board first → (Needed : ℕ → Type 0) (regs : List (List ℕ)) → IsSwitching board first Needed regs → HoldFields board regs
switching_fields board first hold Needed regs state = record { image = state.only.image; places = hold.places }
