-- What holds of a plain board on its board.
use Rattle.std.specs.Prelude.{ℕ, ◌≡◌, ◌≢◌, ◌<◌, ◌≤◌, ◌⊎◌, true, false, length, All, AllPairs, slice_get, slice_index_or, Some, [], IfSome}
use Rattle.load_modes.specs.Modes.{suffices}
use Rattle.board.specs.declared.board.Board.{Board}
use Rattle.board.specs.declared.rail.Rail.{Rail}
use Rattle.board.specs.Rail.{uv, is_on, mode, counts_loads}
use Rattle.rail_law.specs.Law.{Law}
use Rattle.plain_board.specs.declared.plain.Plain.{Plain}
use Rattle.plain_board.specs.Handles.{Entry, count_own, rows_on}
use Rattle.plain_board.specs.Counts.{load_sum, is_held, use_count}
use Rattle.plain_board.specs.Requests.{meets, requests_on}
use Rattle.plain_board.specs.Refusals.{most_handles, most_enables}

-- two handles stand in the order of their rails, and the later one isn't the same worker's of the same name
pub record StandApart (first second : Entry) : Type 0 where
  pub rails : first.0.0 ≤ second.0.0
  pub names : (first.1.worker ≢ second.1.worker) ⊎ (first.1.handle.bytes ≢ second.1.handle.bytes)

-- of two handles on one rail neither is to be alone
abbrev pub ShareFairly : Entry → Entry → Type 0
ShareFairly first second = first.0.0 ≡ second.0.0 → (first.1.exclusive ≡ false) × (second.1.exclusive ≡ false)

-- a handle stands on a rail, with no more enables than it can have, and its cursor isn't beyond the rail's events
pub record IsSoundEntry (board : Board) (plain : Plain) (entry : Entry) : Type 0 where
  pub rail : entry.0.0 < length board.rails
  pub enables : entry.1.enables ≤ most_enables
  pub cursor : IfSome entry.1.cursor (λ cursor. cursor ≤ length (slice_index_or plain.events entry.0.0 []))

-- the lists are those of the board's chips and rails, and the handles are in order
pub record IsWellKept (board : Board) (plain : Plain) : Type 0 where
  -- the registers are those of the chips
  pub regs : length plain.regs ≡ board.chips
  -- each rail has a hold, or none, and its events
  pub holds : length plain.holds ≡ length board.rails
  pub events : length plain.events ≡ length board.rails
  -- each handle is sound
  pub opens : All (IsSoundEntry board plain) plain.handles
  -- they go rail by rail, and a worker has each name once
  pub apart : AllPairs StandApart plain.handles
  -- a worker has no more of them than it can have
  pub few : (worker : ℕ) → count_own plain.handles worker ≤ most_handles
  -- an exclusive one is alone on its rail
  pub alone : AllPairs ShareFairly plain.handles
  -- a rail that is always on is held
  pub always : (i : ℕ) (rail : Rail) → slice_get board.rails i ≡ Some rail → rail.limits.always_on ≡ true → is_held plain i ≡ true

-- what holds of a plain board before and after each call
pub record Inv (board : Board) (plain : Plain) : Type 0 where
  -- the law holds
  pub law : Law board plain.regs
  -- a rail that is used is on
  pub used : (i : ℕ) (rail : Rail) → slice_get board.rails i ≡ Some rail → 0 < use_count board plain i → is_on rail plain.regs ≡ true
  -- each rail stands at a value that meets all requests on it
  pub requests : (i : ℕ) (rail : Rail) → slice_get board.rails i ≡ Some rail → All (λ request. meets (uv rail plain.regs) request ≡ true) (requests_on plain.handles i)
  -- where loads choose the mode, it is one that is allowed and carries them
  pub loads : (i : ℕ) (rail : Rail) → slice_get board.rails i ≡ Some rail → counts_loads rail ≡ true
      → suffices rail.desc.greatest rail.limits.allowed (load_sum rail (rows_on plain.handles i)) (mode rail plain.regs) ≡ true
  -- its lists are well kept
  pub kept : IsWellKept board plain
