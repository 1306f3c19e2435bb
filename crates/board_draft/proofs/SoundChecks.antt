-- What a board can't hold is told without the bytes that names don't use.
use Rattle.std.proofs.Common.{◌≡◌, ℕ, ◌&&◌, not, ◌==◌, nat_lt, Bool, false, List, [], ◌∷◌, Option, Some, refl, ap, ◌∙◌, map, find, length, slice_get, option_and_then}
use Rattle.std.specs.List.{list_any}
use Rattle.std.specs.Option.{option_map, option_or, option_map_or}
use Rattle.std.proofs.Math.Path.{fun_ext}
use Rattle.std.proofs.lemmas.List.{length-map}
use Rattle.board_graph.specs.Sets.{rails_of}
use Rattle.board.specs.declared.board.Board.{Board}
use Rattle.board.specs.declared.rail.Rail.{Rail}
use Rattle.board.specs.Rail.{allowed}
use Rattle.board_checks.specs.declared.fault.CheckFault.{CheckFault}
use Rattle.board_checks.specs.declared.fault.CheckFault.TheVariants.{GapOverSpread, GapOverStep, SuspendSpread, LoadOverModes}
use Rattle.board_checks.specs.Rails.{are_coupled, is_coupled, spread_at, tests_rail}
use Rattle.board_checks.specs.Gaps.{widest_gap}
use Rattle.board_checks.specs.GapFault.{gap_at, step_at, gap_fault}
use Rattle.board_checks.specs.Asleep.{asleep, asleep_at, are_apart, pairs_of, suspend_fault}
use Rattle.board_checks.specs.Loads.{is_overloaded, load_at, load_fault}
use Rattle.board_draft.specs.Sketch.{trimmed}
use Rattle.board_draft.proofs.SoundTrimmed.{same_read}

-- the board without the bytes that its rails' names don't use, and without its order
abbrev bare_board : Board → Board
bare_board board = record board { rails = map trimmed board.rails; order = [] }

-- what doesn't read a name's spare bytes reads the same of all rails
same_reads : {A : Type 0} (read : Option Rail → A) (rails : List Rail) → ((rail : Rail) → read (Some (trimmed rail)) ≡ read (Some rail))
    → ◌≡◌ {A = ℕ → A} (λ r. read (slice_get (map trimmed rails) r)) (λ r. read (slice_get rails r))
same_reads read rails same = fun_ext (same_read read same rails)

-- the fault of gaps by which rails can change, their gaps and their steps
abbrev gap_fault_by : Board → (ℕ → Bool) → (ℕ → ℕ) → (ℕ → ℕ) → Option CheckFault
gap_fault_by board changes gap step =
    option_or
    (option_map (λ r. GapOverSpread r (gap r) (spread_at board r)) (find (λ r. changes r && is_coupled board.graph r && nat_lt (spread_at board r) (gap r)) (rails_of board.graph)))
    (option_map (λ r. GapOverStep r (gap r) (step r)) (find (λ r. changes r && not (step r == 0) && nat_lt (step r) (gap r)) (rails_of board.graph)))

pub gap_fault-trimmed : (board : Board) → gap_fault (record board { rails = map trimmed board.rails; order = [] }) ≡ gap_fault board
gap_fault-trimmed board =
    ap (λ changes. gap_fault_by board changes (gap_at (bare_board board)) (step_at (bare_board board)))
    (same_reads (λ o. option_map_or (λ rail. rail.changeable) o false) board.rails (λ _. refl))
    ∙ ap (λ gap. gap_fault_by board (tests_rail (λ rail. rail.changeable) board) gap (step_at (bare_board board)))
    (same_reads (λ o. option_map_or (λ rail. widest_gap (allowed rail)) o 0) board.rails (λ _. refl))
    ∙ ap (λ step. gap_fault_by board (tests_rail (λ rail. rail.changeable) board) (gap_at board) step)
    (same_reads (λ o. option_map_or (λ rail. rail.limits.max_step) o 0) board.rails (λ _. refl))

-- the fault of suspended values by these, and by how many rails there are
abbrev suspend_fault_by : Board → (ℕ → ℕ → Option ℕ) → ℕ → Option CheckFault
suspend_fault_by board asleep count =
    option_map (λ pair. SuspendSpread pair.0 pair.1)
    (find (λ pair. are_coupled board.graph pair.0 pair.1 && list_any (λ state. are_apart (spread_at board pair.0) (asleep state pair.0) (asleep state pair.1)) (0 ∷ 1 ∷ 2 ∷ [])) (pairs_of count))

pub suspend_fault-trimmed : (board : Board) → suspend_fault (record board { rails = map trimmed board.rails; order = [] }) ≡ suspend_fault board
suspend_fault-trimmed board =
    ap (λ asleep. suspend_fault_by board asleep (length (map trimmed board.rails)))
    (fun_ext (λ state. same_reads (λ o. option_and_then (λ rail. option_and_then asleep (slice_get rail.limits.sleeps state)) o) board.rails (λ _. refl)))
    ∙ ap (suspend_fault_by board (asleep_at board)) (length-map board.rails trimmed)

-- the fault of loads by which rails are overloaded, and by their loads
abbrev load_fault_by : Board → (ℕ → Bool) → (ℕ → ℕ) → Option CheckFault
load_fault_by board overloaded load = option_map (λ r. LoadOverModes r (load r)) (find overloaded (rails_of board.graph))

pub load_fault-trimmed : (board : Board) → load_fault (record board { rails = map trimmed board.rails; order = [] }) ≡ load_fault board
load_fault-trimmed board =
    ap (λ overloaded. load_fault_by board overloaded (load_at (bare_board board)))
    (same_reads (λ o. option_map_or is_overloaded o false) board.rails (λ _. refl))
    ∙ ap (load_fault_by board (tests_rail is_overloaded board))
    (same_reads (λ o. option_map_or (λ rail. rail.limits.system_load) o 0) board.rails (λ _. refl))
