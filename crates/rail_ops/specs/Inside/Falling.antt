-- How a rail and those above it go down, from below.
use Rattle.std.specs.Prelude.{ℕ, ◌≡◌, ◌≢◌, ◌≤◌, ◌<◌, ◌==◌, ◌&&◌, ◌++◌, ◌∷◌, [], Bool, false, List, Contains, map, flat_map, take, length, Option, Some, None, slice_get, is_some, if◌then◌else◌}
use Rattle.std.specs.List.{enumerate_from}
use Rattle.reg_outside.specs.Bus.{Bus}
use Rattle.board_graph.specs.Graph.{supply_at}
use Rattle.board.specs.declared.part.Part.TheVariants.{Enable as EnableBit}
use Rattle.board.specs.declared.rail.Rail.{Rail}
use Rattle.board.specs.declared.write.Write.{Write}
use Rattle.rail_law.specs.Moves.{Move, writes_of}
use Rattle.rows.specs.declared.answer.Answer.{Answer}
use Rattle.rows.specs.declared.answer.Answer.TheVariants.{Fault, Ok}
use Rattle.use_counts.specs.Counts.{uses_of}
use Rattle.plain_board.specs.declared.plain.Plain.{Plain}
use Rattle.plain_board.specs.Events.{events_of_move}
use Rattle.plain_board.specs.Plan.{switch}
use Rattle.plain_board.specs.Untied.{HoldFields}
use Rattle.rail_ops.specs.Inside.Raised.{raised}
use Rattle.rail_ops.specs.Sight.{Hands, Shows}
use Rattle.rail_ops.specs.Taking.{Tells, updates_of}

-- a plain board that the worker sees, with the chips and the rails of its board, whatever is used of it
pub record IsSighted (hands : Hands) (plain : Plain) : Type 0 where
  pub chips : length plain.regs ≡ hands.board.chips
  pub hold : HoldFields hands.board plain.regs
  pub rails : length plain.events ≡ length hands.board.rails
  pub shows : Shows hands plain

-- rail r is seen to be on, and nothing uses it
abbrev pub looks_idle : Hands → ℕ → Bool
looks_idle hands r = hands.bits r EnableBit == 1 && uses_of (hands.books r).rows (hands.books r).held (hands.books r).votes == 0

-- a rail's supply is held and has its vote
pub record IsVoted (hands : Hands) (s : ℕ) : Type 0 where
  pub held : Contains hands.rails s
  pub some : 0 < (hands.books s).votes

-- rail r may go off: no rail that it supplies is seen to be on, and its supply, where it has one, has its vote
pub record MayGoOff (hands : Hands) (r : ℕ) : Type 0 where
  pub below : (lower : ℕ) → lower < length hands.board.rails → supply_at hands.board.graph lower ≡ Some r → hands.bits lower EnableBit ≢ 1
  pub supply : (s : ℕ) → supply_at hands.board.graph r ≡ Some s → IsVoted hands s

-- the plain board where the off write of a rail, if there is one, was refused: the rail told so
abbrev pub with_abort : Plain → Option ℕ → Plain
with_abort plain None = plain
with_abort plain (Some r) = record plain { events = map (λ told. told.1 ++ flat_map (events_of_move told.0 false) (switch 0 r ∷ [])) (enumerate_from 0 plain.events) }

-- the first so many of these moves were made, and then the bus refused a rail, or no more was tried
pub record WentDown (before after : Hands) (bus bus' : Bus) (made : ℕ) (refused : Option ℕ) (plain : Plain) (moves : List Move) : Type 0 where
  pub within : made ≤ length moves
  pub shows : Shows after (with_abort (raised before.board plain (take made moves)) refused)
  pub tells : Tells (updates_of before.board (take made moves)) (is_some refused) bus bus'

-- they went down, all or up to one that the bus refused
pub record CameDown (before after : Hands) (bus bus' : Bus) (made : ℕ) (refused : Option ℕ) (plain : Plain) (moves : List Move) : Type 0 where
  pub went : WentDown before after bus bus' made refused plain moves
  pub all : refused ≡ None → made ≡ length moves
  pub next : (i : ℕ) → refused ≡ Some i → slice_get moves made ≡ Some (switch 0 i)

-- so a call was answered whose rails went down: what the answer says of the bus, and the writes that were kept
pub record Fell (before after : Hands) (bus bus' : Bus) (keep : Bool) (said : Answer) (writes : List Write) (plain : Plain) (moves : List Move) : Type 0 where
  pub made : ℕ
  pub refused : Option ℕ
  pub came : CameDown before after bus bus' made refused plain moves
  pub done : refused ≡ None → said ≡ Ok
  pub fault : (i : ℕ) → refused ≡ Some i → (rail : Rail) × (slice_get before.board.rails i ≡ Some rail) × (said ≡ Fault rail.desc.enable.chip rail.desc.enable.reg made [])
  pub kept : writes ≡ (if keep then writes_of before.board (take made moves) else [])
