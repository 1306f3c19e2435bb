-- What the end of the holds of the start changes before the worker.
use Rattle.std.specs.Prelude.{ℕ, ◌≡◌, ◌<◌, ◌≤◌, ◌&&◌, Bool, false, slice_get}
use Rattle.std.specs.Option.{option_map_or}
use Rattle.board.specs.declared.board.Board.{Board}
use Rattle.board.specs.declared.part.Part.{Part}
use Rattle.plain_board.specs.declared.plain.Plain.{Plain}
use Rattle.plain_board.specs.Plan.{always_holds}
use Rattle.rail_ops.specs.Sight.{Hands}

-- rail i is always on
abbrev pub is_always : Board → ℕ → Bool
is_always board i = option_map_or (λ rail. rail.limits.always_on) (slice_get board.rails i) false

-- the holds of the first so many rails ended but for those that are always on, and all else is as before
pub record EndsHolds (count : ℕ) (before after : Hands) : Type 0 where
  pub board : after.board ≡ before.board
  pub rails : after.rails ≡ before.rails
  pub bits : (i : ℕ) (part : Part) → after.bits i part ≡ before.bits i part
  pub ended : (i : ℕ) → i < count → after.books i ≡ record (before.books i) { held = (before.books i).held && is_always before.board i }
  pub others : (i : ℕ) → count ≤ i → after.books i ≡ before.books i

-- the plain board once the holds of the start ended
abbrev pub released : Board → Plain → Plain
released board plain = record plain { holds = always_holds board plain.holds }
