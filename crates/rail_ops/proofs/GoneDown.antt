-- A call whose rails went down: what it answers, and what it keeps of the writes.
use Rattle.std.proofs.Common.{◌≡◌, ℕ, zero, suc, ◌<◌, ◌≤◌, Bool, true, false, cond, List, [], ◌∷◌, ◌++◌, append_assoc, Option, Some, None, refl, sym, ap, ◌∙◌, subst, arith, map, length, take, slice_get}
use Rattle.std.specs.Prelude.{IfSome, option_map, option_and_then, if◌then◌else◌}
use Rattle.reg_outside.specs.Bus.{Bus}
use Rattle.board.specs.declared.board.Board.{Board}
use Rattle.board.specs.declared.part.Part.TheVariants.{Enable as EnableBit}
use Rattle.board.specs.declared.rail.Rail.{Rail}
use Rattle.board.specs.declared.rail_id.RailId.{RailId}
use Rattle.board.specs.declared.write.Write.{Write}
use Rattle.board.specs.Rail.{part_field}
use Rattle.rail_law.specs.Moves.{Move, update_of_field, writes_of}
use Rattle.rows.specs.declared.answer.Answer.{Answer}
use Rattle.rows.specs.declared.answer.Answer.TheVariants.{Fault, Ok}
use Rattle.plain_board.specs.declared.plain.Plain.{Plain}
use Rattle.plain_board.specs.Plan.{chain, chain_off, is_idle, switch, with_off}
use Rattle.rail_ops.specs.Sight.{Hands}
use Rattle.rail_ops.specs.Inside.Falling.{CameDown, Fell}
use Rattle.rail_ops.proofs.Found.{element, none_of, some_of}
use Rattle.rail_ops.proofs.OneMore.{writes_taken}

-- the moves of rails that go off are the first of those of all
pub chain_front : (board : Board) (plain : Plain) (rails : List ℕ) (made : ℕ) → made ≤ length (chain_off board plain rails) → take made (map (switch 0) rails) ≡ take made (chain_off board plain rails)
chain_front board plain rails zero within = refl
chain_front board plain [] (suc made) within = refl
chain_front board plain (r ∷ above) (suc made) within = by (is_idle board plain r) (chain_front board (with_off board plain r) above made) within where
  by : (t : Bool) → (made ≤ length (chain_off board (with_off board plain r) above) → take made (map (switch 0) above) ≡ take made (chain_off board (with_off board plain r) above))
      → suc made ≤ length (cond t (switch 0 r ∷ chain_off board (with_off board plain r) above) [])
      → switch 0 r ∷ take made (map (switch 0) above) ≡ take (suc made) (cond t (switch 0 r ∷ chain_off board (with_off board plain r) above) [])
  by true further within = ap (λ moves. switch 0 r ∷ moves) (further (omega (arith, within)))
  by false further within = absurd (omega (arith, within))

module _ (first after : Hands) (bus bus' : Bus) (keep : Bool) (said : Answer) (writes : List Write) (plain : Plain) (board : Board) (here : first.board ≡ board) (made : ℕ) where
  -- the answer and the writes of rails that went down
  pub fell_with : (moves : List Move) (o : Option RailId) → CameDown first after bus bus' made (option_map (λ (id : RailId). id.0) o) plain moves → (o ≡ None → said ≡ Ok)
      → ((id : RailId) (rail : Rail) → o ≡ Some id → slice_get board.rails id.0 ≡ Some rail → said ≡ Fault rail.desc.enable.chip rail.desc.enable.reg made [])
      → IfSome o (λ id. id.0 < length board.rails) → writes ≡ (if keep then writes_of first.board (take made moves) else []) → Fell first after bus bus' keep said writes plain moves
  fell_with moves o came done fault there kept = record {
    made = made;
    refused = option_map (λ (id : RailId). id.0) o;
    came = came;
    done = λ none. done (none_of (λ (id : RailId). id.0) o none);
    fault = λ i is.
        let some = some_of (λ (id : RailId). id.0) o i is in
        let inside : some.0.0 < length board.rails = subst (λ (p : Option RailId). IfSome p (λ id. id.0 < length board.rails)) some.1 there in
        let rail = element board.rails some.0.0 inside in
        (rail.0, ap (λ (b : Board). slice_get b.rails i) here ∙ ap (slice_get board.rails) (sym some.2) ∙ rail.1, fault some.0 rail.0 some.1 rail.1);
    kept = kept;
  }

  -- those of a chain
  pub fell : (r : ℕ) (o : Option RailId) → CameDown first after bus bus' made (option_map (λ (id : RailId). id.0) o) plain (chain_off first.board plain (chain board r)) → (o ≡ None → said ≡ Ok)
      → ((id : RailId) (rail : Rail) → o ≡ Some id → slice_get board.rails id.0 ≡ Some rail → said ≡ Fault rail.desc.enable.chip rail.desc.enable.reg made [])
      → IfSome o (λ id. id.0 < length board.rails) → writes ≡ take made (if keep then writes_of board (map (switch 0) (chain board r)) else [])
      → Fell first after bus bus' keep said writes plain (chain_off first.board plain (chain board r))
  fell r o came done fault there kept =
      fell_with (chain_off first.board plain (chain board r)) o came done fault there
      (kept ∙ writes_taken board keep (map (switch 0) (chain board r)) made
      ∙ ap (λ (ms : List Move). if keep then writes_of board ms else []) (chain_front first.board plain (chain board r) made came.went.within)
      ∙ ap (λ (b : Board). if keep then writes_of b (take made (chain_off first.board plain (chain board r))) else []) (sym here))

-- the writes that switch off a rail and those above it: first the rail's
pub writes_down : (board : Board) (r : ℕ) (rail : Rail) → slice_get board.rails r ≡ Some rail → (above : List ℕ) (before : List Write)
    → (before ++ update_of_field (Some rail.desc.enable) 0 ∷ []) ++ writes_of board (map (switch 0) above) ≡ before ++ writes_of board (map (switch 0) (r ∷ above))
writes_down board r rail at above before =
    append_assoc before (update_of_field (Some rail.desc.enable) 0 ∷ []) (writes_of board (map (switch 0) above))
    ∙ ap (λ o. before ++ update_of_field (option_and_then (part_field EnableBit) o) 0 ∷ writes_of board (map (switch 0) above)) (sym at)
