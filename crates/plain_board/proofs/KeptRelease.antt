-- The end of the holds of the start keeps what holds of a plain board: rails that are always on stay held.
use Rattle.std.proofs.Common.{◌≡◌, ℕ, zero, suc, ◌≤◌, ◌&&◌, Bool, true, false, cond, List, [], ◌∷◌, Option, Some, None, refl, sym, ap, ◌∙◌, subst, arith, length, map, take, reverse, slice_get}
use Rattle.std.specs.Prelude.{unwrap_or}
use Rattle.std.specs.List.{zip}
use Rattle.std.proofs.lemmas.Bool.{and_parts, and_from}
use Rattle.board.specs.declared.board.Board.{Board}
use Rattle.board.specs.declared.rail.Rail.{Rail}
use Rattle.board.specs.Valid.{IsValid}
use Rattle.rail_law.specs.Moves.{Move, after_moves}
use Rattle.rows.specs.declared.call.Call.TheVariants.{ReleaseBoot}
use Rattle.plain_board.specs.declared.plain.Plain.{Plain}
use Rattle.plain_board.specs.Counts.{is_held}
use Rattle.plain_board.specs.Plan.{always_holds, moves_of_call}
use Rattle.plain_board.specs.Answer.{settled}
use Rattle.plain_board.specs.Inv.{Inv}
use Rattle.plain_board.specs.Law.{Throughout}
use Rattle.plain_board.specs.Moved.{after_first}
use Rattle.plain_board.specs.Untied.{IsUntied, HoldFields, CountsNoLoads}
use Rattle.plain_board.proofs.CallKeeps.{KeepsAll, after_first_moves, switching_lawful, switching_fields}
use Rattle.plain_board.proofs.Grown.{HasGrown, after_first-grown}
use Rattle.plain_board.proofs.GrownLists.{lists_held}
use Rattle.plain_board.proofs.KeptSwitched.{kept_on_same, inv_switched}
use Rattle.plain_board.proofs.SwitchedOff.{is_kept_on, KeptOn, IsGoingDown, sweep_goes_down}
use Rattle.plain_board.proofs.Switches.{nothing_switched}

-- the holds of these rails that are left
abbrev left_of : List Bool → List Rail → List Bool
left_of holds rails = map (λ (held : Bool × Rail). held.0 && held.1.limits.always_on) (zip holds rails)

length-left_of : (holds : List Bool) (rails : List Rail) → length holds ≡ length rails → length (left_of holds rails) ≡ length holds
length-left_of [] rails same = refl
length-left_of (held ∷ holds) [] same = absurd (omega (arith, same))
length-left_of (held ∷ holds) (rail ∷ rails) same = ap suc (length-left_of holds rails (omega (arith, same)))

-- what is left was there
left_was : (holds : List Bool) (rails : List Rail) (i : ℕ) → unwrap_or (slice_get (left_of holds rails) i) false ≡ true → unwrap_or (slice_get holds i) false ≡ true
left_was [] rails i left = absurd (cc)
left_was (held ∷ holds) [] i left = absurd (cc)
left_was (held ∷ holds) (rail ∷ rails) zero left = (and_parts _ _ left).0
left_was (held ∷ holds) (rail ∷ rails) (suc i) left = left_was holds rails i left

-- a rail that is always on stays held
always_left : (holds : List Bool) (rails : List Rail) (i : ℕ) (rail : Rail) → slice_get rails i ≡ Some rail → rail.limits.always_on ≡ true → unwrap_or (slice_get holds i) false ≡ true
    → unwrap_or (slice_get (left_of holds rails) i) false ≡ true
always_left [] rails i rail at always held = absurd (cc)
always_left (one ∷ holds) [] i rail at always held = absurd (cc)
always_left (one ∷ holds) (other ∷ rails) zero rail at always held =
    let same : other ≡ rail = cc in
    and_from _ _ held (ap (λ (a : Rail). a.limits.always_on) same ∙ always)
always_left (one ∷ holds) (other ∷ rails) (suc i) rail at always held = always_left holds rails i rail at always held

held_no_more : (s t : Bool) → (s ≡ true → t ≡ true) → cond {A = ℕ} s 1 0 ≤ cond {A = ℕ} t 1 0
held_no_more true true was = omega arith
held_no_more true false was = absurd (cc (was refl))
held_no_more false true was = omega arith
held_no_more false false was = omega arith

module _ (board : Board) (valid : IsValid board) (untied : IsUntied board) (no_loads : CountsNoLoads board) (plain : Plain) (hold : HoldFields board plain.regs) (inv : Inv board plain) (worker : ℕ) where
  abbrev released : Plain
  released = record plain { holds = always_holds board plain.holds }

  abbrev moves : List Move
  moves = moves_of_call board plain worker ReleaseBoot

  abbrev IsDown : List (List ℕ) → Type 0
  IsDown regs = IsGoingDown board plain.regs released regs

  no_more : (i : ℕ) → is_kept_on released i ≤ is_kept_on plain i
  no_more i = omega (arith, held_no_more (is_held released i) (is_held plain i) (left_was plain.holds board.rails i))

  goes_down : Throughout IsDown board plain.regs moves
  goes_down =
      sweep_goes_down board valid.sound plain.regs inv.kept.regs hold released (reverse board.order)
      (record {
        only = nothing_switched board valid.sound plain.regs inv.kept.regs hold;
        supplies = inv.law.supplies;
        needed = λ i rail at some. inv.used i rail at (omega (arith, some, no_more i));
      })

  module _ (made : ℕ) where
    abbrev now : Plain
    now = after_first board plain made moves

    grown : HasGrown plain now (after_moves board plain.regs (take made moves)) plain.handles
    grown = after_first-grown board plain made moves

    state : IsDown now.regs
    state = subst IsDown (sym grown.regs_are) (after_first_moves IsDown board plain.regs moves made goes_down)

    abbrev new : Plain
    new = record now { holds = always_holds board now.holds }

    same_holds : new.holds ≡ released.holds
    same_holds = ap (always_holds board) grown.holds

    same : (i : ℕ) → is_kept_on new i ≡ is_kept_on released i
    same = kept_on_same new released grown.handles_are same_holds

    always : (i : ℕ) (rail : Rail) → slice_get board.rails i ≡ Some rail → rail.limits.always_on ≡ true → is_held new i ≡ true
    always i rail at is =
        ap (λ (holds : List Bool). unwrap_or (slice_get holds i) false) same_holds
        ∙ always_left plain.holds board.rails i rail at is (inv.kept.always i rail at is)

    inv_after : Inv board new
    inv_after =
        inv_switched board valid.sound untied no_loads plain inv new state.only state.supplies
        (λ i rail at some. state.needed i rail at (omega (arith, some, same i)))
        (lists_held board plain inv.kept now _ grown new refl refl (ap length same_holds ∙ length-left_of plain.holds board.rails inv.kept.holds) always)

  inv_settled : (stop : Option ℕ) → Inv board (settled board plain worker ReleaseBoot moves stop).1
  inv_settled None = inv_after (length moves)
  inv_settled (Some made) = inv_after made

  fields_settled : (stop : Option ℕ) → HoldFields board (settled board plain worker ReleaseBoot moves stop).1.regs
  fields_settled None = switching_fields board plain.regs hold (KeptOn released) _ (state (length moves))
  fields_settled (Some made) = switching_fields board plain.regs hold (KeptOn released) _ (state made)

  pub release_keeps : KeepsAll board plain worker ReleaseBoot
  release_keeps = record {
    law = switching_lawful board untied plain.regs inv.law (KeptOn released) moves goes_down;
    inv = inv_settled;
    fields = fields_settled;
  }
