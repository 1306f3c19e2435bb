-- Which rails a call switches, and which are on then.
use Rattle.std.specs.Prelude.{ℕ, ◌≡◌, ◌==◌, Bool, false, not, List, filter, Some, slice_get, if◌then◌else◌}
use Rattle.std.specs.List.{list_any}
use Rattle.std.specs.Option.{option_map_or}
use Rattle.board.specs.declared.board.Board.{Board}
use Rattle.board.specs.declared.rail.Rail.{Rail}
use Rattle.board.specs.Rail.{is_on}
use Rattle.rail_law.specs.Moves.{Move, after_moves}

-- rail r is off
abbrev pub is_off : Board → List (List ℕ) → ℕ → Bool
is_off board regs r = option_map_or (λ rail. not (is_on rail regs)) (slice_get board.rails r) false

-- those of some rails that are off
abbrev pub off_rails : Board → List (List ℕ) → List ℕ → List ℕ
off_rails board regs rails = filter (is_off board regs) rails

-- one of these moves is of rail i
abbrev pub is_moved : List Move → ℕ → Bool
is_moved moves i = list_any (λ move. move.rail.0 == i) moves

-- once these moves were made, each rail of theirs has its on bit at this, and each other rail as before
abbrev pub AreSwitched : Board → ℕ → List (List ℕ) → List Move → Type 0
AreSwitched board bits regs moves =
    (i : ℕ) (rail : Rail) → slice_get board.rails i ≡ Some rail
    → is_on rail (after_moves board regs moves) ≡ (if is_moved moves i then bits == 1 else is_on rail regs)
