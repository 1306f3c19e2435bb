-- What a refused move leaves.
use Rattle.std.proofs.Common.{◌≡◌, ℕ, ◌<◌, zero, suc, List, [], ◌∷◌, Some, refl, subst, ap, ◌∙◌, arith, map, length}
use Rattle.std.specs.Prelude.{slice_get, unwrap_or, option_map, All}
use Rattle.std.proofs.lemmas.List.{length-map}
use Rattle.std.proofs.lemmas.Option.{slice_get-map, get_or_from_slice_get}
use Rattle.chip_regs.specs.declared.field.Field.{Field}
use Rattle.board.specs.declared.board.Board.{Board}
use Rattle.board.specs.declared.rail.Rail.{Rail}
use Rattle.board.specs.declared.rail_id.RailId.{RailId}
use Rattle.board.specs.declared.write.Write.{Write}
use Rattle.board.specs.declared.part.Part.TheVariants.{Selector}
use Rattle.board.specs.Rail.{allowed}
use Rattle.plain_board.specs.Answer.{no_write}
use Rattle.rail_law.specs.Moves.{Move, writes_of, field_of_move, selector_for, update_of_field}
use Rattle.regulator_main.specs.Inside.Way.{moves_to, way}
use Rattle.regulator_main.proofs.Walked.{field_of_selector}

-- a place within a list has an element
get_some : {X : Type 0} (xs : List X) (k : ℕ) → k < length xs → (x : X) × (slice_get xs k ≡ Some x)
get_some [] k within = absurd (omega arith)
get_some (x ∷ xs) zero within = (x, refl)
get_some (x ∷ xs) (suc k) within = get_some xs k (omega arith)

-- the write of a move that is refused is one of the selector's field
pub refused_write : (board : Board) (id : RailId) (rail : Rail) (field : Field) (from to made : ℕ) → slice_get board.rails id.0 ≡ Some rail → rail.desc.selector ≡ Some field
    → made < length (moves_to id rail from to) → (bits : ℕ) × (unwrap_or (slice_get (writes_of board (moves_to id rail from to)) made) no_write ≡ update_of_field (Some field) bits)
refused_write board id rail field from to made place selector within =
    let move_of : ℕ → Move = λ v. record { rail = id; part = Selector; bits = selector_for rail v } in
    let there = get_some (moves_to id rail from to) made within in
    let vs = way (allowed rail) from to in
    let v = get_some vs made (subst (λ (n : ℕ). made < n) (length-map vs move_of) within) in
    let write_of : Move → Write = λ m. update_of_field (field_of_move board m) m.bits in (
      selector_for rail v.0,
      ap (λ o. unwrap_or o no_write) (
          slice_get-map write_of (map move_of vs) made
          ∙ ap (option_map write_of) (slice_get-map move_of vs made ∙ ap (option_map move_of) v.1))
          ∙ ap (λ f. update_of_field f (selector_for rail v.0)) (field_of_selector board id rail field (selector_for rail v.0) place selector),
    )

-- an element is at a place within its list
pub get_within : {X : Type 0} (xs : List X) (k : ℕ) (x : X) → slice_get xs k ≡ Some x → k < length xs
get_within [] k x is = cc
get_within (y ∷ ys) zero x is = omega arith
get_within (y ∷ ys) (suc k) x is = let rest = get_within ys k x is in omega arith

-- an element at a place has what all have
pub all_at : {X : Type 0} (P : X → Type 0) (xs : List X) (k : ℕ) (x : X) → All P xs → slice_get xs k ≡ Some x → P x
all_at P xs k x all is = subst P (get_or_from_slice_get xs k x x is) (all k x (get_within xs k x is))
