-- The moves of a walk, one at a time.
use Rattle.std.proofs.Common.{◌≡◌, append-nil, ℕ, ◌+◌, ◌*◌, ◌^◌, ◌/◌, ◌%◌, ◌<◌, ◌≤◌, ◌⊎◌, inl, inr, List, [], ◌∷◌, ◌++◌, Option, Some, refl, sym, subst, ap, ◌∙◌, arith, map, take, drop, length, length-drop, get_or}
use Rattle.std.specs.Prelude.{slice_get}
use Rattle.std.proofs.Math.Nat.{div-le_self, div-mul-le_self, mod-eq_of_lt, mul-le-mul_right}
use Rattle.std.proofs.lemmas.Bool.{cases_lt}
use Rattle.std.proofs.lemmas.List.{drop_all, drop_more, take_more, take-append-drop, map-append}
use Rattle.chip_regs.specs.declared.field.Field.{Field}
use Rattle.chip_regs.specs.Field.{FitsField}
use Rattle.chip_regs.specs.Registers.{field_of}
use Rattle.board.specs.declared.board.Board.{Board}
use Rattle.board.specs.declared.rail.Rail.{Rail}
use Rattle.board.specs.declared.rail_id.RailId.{RailId}
use Rattle.board.specs.declared.part.Part.TheVariants.{Selector}
use Rattle.board.specs.Table.{uv_of}
use Rattle.board.specs.Rail.{allowed, choices, uv}
use Rattle.chip_regs.specs.Width.{register_contents}
use Rattle.rail_law.specs.Moves.{Move, after_moves, writes_of, field_of_move, selector_for, update_of_field, written}
use Rattle.regulator_main.specs.Inside.Way.{moves_to, way}
use Rattle.reg_outside.specs.Told.{with_more}
use Rattle.reg_outside.proofs.ToldFacts.{with_more-nil, with_more-with_more}
use Rattle.reg_outside.specs.Bus.{Updates}
use Rattle.plain_board.specs.Update.{update_of}
use Rattle.regulator_main.specs.Walk.{Makes}
use Rattle.regulator_main.proofs.Nearest.{IsFirst}
use Rattle.regulator_main.proofs.Steps.{way-same}

-- a number that fits a field, at the mask's place, fits a register
pub at_mask : (bits mask shift : ℕ) → bits ≤ mask / 2 ^ shift → mask < register_contents → bits * 2 ^ shift % register_contents ≡ bits * 2 ^ shift
at_mask bits mask shift fits byte =
    let below = mul-le-mul_right (2 ^ shift) fits in
    let whole = div-mul-le_self mask (2 ^ shift) in
    mod-eq_of_lt (omega arith)

nonempty : {X : Type 0} (y : X) (ys : List X) → [] ≡ y ∷ ys → ⊥
nonempty y ys is = cc

-- where some elements are left, there is a next one
within_by : {X : Type 0} (xs : List X) (i : ℕ) (y : X) (ys : List X) → (i < length xs) ⊎ (length xs ≤ i) → drop i xs ≡ y ∷ ys → i < length xs
within_by xs i y ys (inl within) is = within
within_by xs i y ys (inr past) is = absurd (nonempty y ys (sym (drop_all i xs past) ∙ is))

pub within_from_rest : {X : Type 0} (xs : List X) (i : ℕ) (y : X) (ys : List X) → drop i xs ≡ y ∷ ys → i < length xs
within_from_rest xs i y ys is = within_by xs i y ys (cases_lt i (length xs)) is

after_moves-append : (board : Board) (regs : List (List ℕ)) (xs ys : List Move) → after_moves board regs (xs ++ ys) ≡ after_moves board (after_moves board regs xs) ys
after_moves-append board regs [] ys = refl
after_moves-append board regs (x ∷ xs) ys = after_moves-append board (written (field_of_move board x) regs x.bits) xs ys

-- so many of the moves were made
pub record Walked (board : Board) (moves : List Move) (regs regs' : List (List ℕ)) (told told' : Option Updates) (made : ℕ) : Type 0 where
  pub within : made ≤ length moves
  pub makes : Makes board (take made moves) regs regs' told told'

-- one move more
pub walked_more : (board : Board) (moves : List Move) (regs regs' regs'' : List (List ℕ)) (told told' told'' : Option Updates) (made : ℕ) (move : Move) (rest : List Move)
    → Walked board moves regs regs' told told' made → drop made moves ≡ move ∷ rest
    → regs'' ≡ written (field_of_move board move) regs' move.bits
    → told'' ≡ with_more told' (update_of (update_of_field (field_of_move board move) move.bits) ∷ [])
    → Walked board moves regs regs'' told told'' (made + 1)
walked_more board moves regs regs' regs'' told told' told'' made move rest walked next registers updates =
    let within = within_from_rest moves made move rest next in
    let here : get_or moves made move ≡ move = let e = drop_more moves made move within in cc in
    let taken : take (made + 1) moves ≡ take made moves ++ move ∷ [] = take_more moves made move within ∙ ap (λ m. take made moves ++ m ∷ []) here in
    record {
      within = omega arith;
      makes = record {
        registers = registers ∙ ap (λ r. written (field_of_move board move) r move.bits) walked.makes.registers
            ∙ sym (after_moves-append board regs (take made moves) (move ∷ [])) ∙ ap (after_moves board regs) (sym taken);
        updates = updates ∙ ap (λ t. with_more t (update_of (update_of_field (field_of_move board move) move.bits) ∷ [])) walked.makes.updates
            ∙ with_more-with_more told (map update_of (writes_of board (take made moves))) (update_of (update_of_field (field_of_move board move) move.bits) ∷ [])
            ∙ ap (with_more told) (
            sym (map-append update_of (writes_of board (take made moves)) (writes_of board (move ∷ [])))
            ∙ ap (map update_of) (sym (map-append (λ m. update_of_field (field_of_move board m) m.bits) (take made moves) (move ∷ [])))
            ∙ ap (λ ms. map update_of (writes_of board ms)) (sym taken));
      };
    }

-- what is left after one move more
pub rest_more : (moves : List Move) (made : ℕ) (move : Move) (rest : List Move) → drop made moves ≡ move ∷ rest → rest ≡ drop (made + 1) moves
rest_more moves made move rest next =
    let e = drop_more moves made move (within_from_rest moves made move rest next) in cc

-- no move was made yet
pub walked_none : (board : Board) (moves : List Move) (regs : List (List ℕ)) (told : Option Updates) → Walked board moves regs regs told told 0
walked_none board moves regs told = record { within = omega arith; makes = record { registers = refl; updates = sym (with_more-nil told) } }

-- the selector of a value is that of the first pair with it
pub selector_for-first : (rail : Rail) (p : ℕ × ℕ) → IsFirst (choices rail) p → selector_for rail p.1 ≡ p.0
selector_for-first rail p first = rw first

-- the field of a selector's move
pub field_of_selector : (board : Board) (id : RailId) (rail : Rail) (field : Field) (bits : ℕ) → slice_get board.rails id.0 ≡ Some rail → rail.desc.selector ≡ Some field
    → field_of_move board (record { rail = id; part = Selector; bits = bits }) ≡ Some field
field_of_selector board id rail field bits place selector = rw place selector

-- a field has at most a register's numbers
pub fits_byte : (field : Field) (n : ℕ) → FitsField field n → field.mask < register_contents → n < register_contents
fits_byte field n fits byte = let whole = div-le_self field.mask (2 ^ field.shift) in omega arith

-- where nothing is left, all is taken
take_of_all : {X : Type 0} (n : ℕ) (xs : List X) → drop n xs ≡ [] → take n xs ≡ xs
take_of_all n xs none = sym (append-nil (take n xs)) ∙ ap (λ ys. take n xs ++ ys) (sym none) ∙ take-append-drop n xs

-- where a rail stands whose selector was written
pub uv_written : (rail : Rail) (field : Field) (regs : List (List ℕ)) (sel v : ℕ) → rail.desc.selector ≡ Some field → field_of regs field ≡ sel → uv_of rail.desc.table sel ≡ Some v → v ≡ uv rail regs
uv_written rail field regs sel v selector reads value = rw (selector, reads, value)

-- the moves to a target begin with that to the next value
pub moves_to-step : (id : RailId) (rail : Rail) (from next to : ℕ) → way (allowed rail) from to ≡ next ∷ way (allowed rail) next to
    → moves_to id rail from to ≡ record { rail = id; part = Selector; bits = selector_for rail next } ∷ moves_to id rail next to
moves_to-step id rail from next to is = ap (map (λ v. record { rail = id; part = Selector; bits = selector_for rail v })) is

-- no moves lead from a value to itself
moves_to-same : (id : RailId) (rail : Rail) (to : ℕ) → moves_to id rail to to ≡ []
moves_to-same id rail to = ap (map (λ v. record { rail = id; part = Selector; bits = selector_for rail v })) (way-same (allowed rail) to)

-- at the target no move is left
pub none_left : (id : RailId) (rail : Rail) (at to made : ℕ) (moves : List Move) → moves_to id rail at to ≡ drop made moves → at ≡ to → drop made moves ≡ []
none_left id rail at to made moves rest there = sym rest ∙ ap (λ v. moves_to id rail v to) there ∙ moves_to-same id rail to

-- all moves were made, where none is left
pub walked_all : (board : Board) (moves : List Move) (regs regs' : List (List ℕ)) (told told' : Option Updates) (made : ℕ)
    → Walked board moves regs regs' told told' made → drop made moves ≡ [] → Makes board moves regs regs' told told'
walked_all board moves regs regs' told told' made walked none =
    subst (λ (ms : List Move). Makes board ms regs regs' told told') (take_of_all made moves none) walked.makes

-- no moves lead from where a rail stands to there
pub moves_to-there : (id : RailId) (rail : Rail) (from to : ℕ) → from ≡ to → moves_to id rail from to ≡ []
moves_to-there id rail from to there = ap (λ v. moves_to id rail v to) there ∙ moves_to-same id rail to

-- where no move is left, so many were made as there are
pub made_is_all : (made : ℕ) (moves : List Move) → made ≤ length moves → drop made moves ≡ [] → made ≡ length moves
made_is_all made moves within none = omega (arith, within, length-drop made moves, ap length none)

-- a rail that stands at its target makes no move
pub makes_none : (board : Board) (id : RailId) (rail : Rail) (from to : ℕ) (regs : List (List ℕ)) (told : Option Updates) → from ≡ to → Makes board (moves_to id rail from to) regs regs told told
makes_none board id rail from to regs told there =
    subst (λ (moves : List Move). Makes board moves regs regs told told) (sym (moves_to-there id rail from to there))
    (record { registers = refl; updates = sym (with_more-nil told) })
