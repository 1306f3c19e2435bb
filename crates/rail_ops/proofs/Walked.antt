-- A rail on its way to a value, one move after another, as the worker sees it.
use Rattle.std.proofs.Common.{◌≡◌, append-nil, ℕ, ◌+◌, ◌<◌, ◌≤◌, ◌⊎◌, Bool, true, false, inl, inr, List, [], ◌∷◌, ◌++◌, Some, refl, sym, subst, ap, ◌∙◌, arith, map, take, drop, length, length-drop, get_or, slice_get, Contains}
use Rattle.std.proofs.lemmas.Bool.{cases_lt}
use Rattle.std.proofs.lemmas.List.{drop_all, drop_more, take_more}
use Rattle.chip_regs.specs.declared.field.Field.{Field}
use Rattle.chip_regs.specs.Registers.{IsImage}
use Rattle.reg_outside.specs.Bus.{Bus}
use Rattle.board_graph.proofs.Growth.{from_taken}
use Rattle.board.specs.declared.board.Board.{Board}
use Rattle.board.specs.declared.rail.Rail.{Rail}
use Rattle.board.specs.Fields.{field_at}
use Rattle.board.specs.Rail.{allowed, uv}
use Rattle.board.specs.Table.{uv_of}
use Rattle.board.specs.Valid.{IsValid}
use Rattle.rail_law.specs.Law.{Law}
use Rattle.rail_law.specs.Moves.{Move, after_moves, selector_for}
use Rattle.rail_law.specs.Way.{move_of}
use Rattle.rail_state.specs.Sight.{IsGuarded, Look}
use Rattle.plain_board.proofs.MovedAlone.{IsMovedAlone, unmoved}
use Rattle.plain_board.proofs.Throughout.{after_moves-append}
use Rattle.plain_board.proofs.ValuesTo.{values_to, values_to-same}
use Rattle.rail_ops.specs.Inside.Supplied.{HavePlaces}
use Rattle.rail_ops.specs.Inside.Walking.{PutsSelector, SeesLawful, WentTo, moves_between}
use Rattle.rail_ops.specs.Sight.{Hands, ShowsSame}
use Rattle.rail_ops.specs.Taking.{Tells, updates_of}
use Rattle.rail_ops.proofs.CameUp.{tells_then, updates_append}
use Rattle.rail_ops.proofs.Exactly.{tells_nothing}
use Rattle.rail_ops.proofs.Selected.{look_after, moved_regs}

nonempty : {X : Type 0} (y : X) (ys : List X) → [] ≡ y ∷ ys → ⊥
nonempty y ys is = cc

within_by : {X : Type 0} (xs : List X) (i : ℕ) (y : X) (ys : List X) → (i < length xs) ⊎ (length xs ≤ i) → drop i xs ≡ y ∷ ys → i < length xs
within_by xs i y ys (inl within) is = within
within_by xs i y ys (inr past) is = absurd (nonempty y ys (sym (drop_all i xs past) ∙ is))

-- where some elements are left, there is a next one
within_from_rest : {X : Type 0} (xs : List X) (i : ℕ) (y : X) (ys : List X) → drop i xs ≡ y ∷ ys → i < length xs
within_from_rest xs i y ys is = within_by xs i y ys (cases_lt i (length xs)) is

-- what is left after one element more
rest_more : {X : Type 0} (xs : List X) (i : ℕ) (y : X) (ys : List X) → drop i xs ≡ y ∷ ys → ys ≡ drop (i + 1) xs
rest_more xs i y ys is = let e = drop_more xs i y (within_from_rest xs i y ys is) in cc

taken_more : {X : Type 0} (xs : List X) (i : ℕ) (y : X) (ys : List X) → drop i xs ≡ y ∷ ys → take (i + 1) xs ≡ take i xs ++ y ∷ []
taken_more xs i y ys is =
    let within = within_from_rest xs i y ys is in
    let here : get_or xs i y ≡ y = let e = drop_more xs i y within in cc in
    take_more xs i y within ∙ ap (λ x. take i xs ++ x ∷ []) here

-- where the same is shown the registers look the same
pub look_same : (before after : Hands) (regs : List (List ℕ)) → ShowsSame before after → Look before.board before.rails before.bits regs → Look after.board after.rails after.bits regs
look_same before after regs same look j part field guarded is =
    look j part field
    (subst (λ (b : Board). IsGuarded b before.rails j) same.board (subst (λ (rs : List ℕ). IsGuarded after.board rs j) same.rails guarded))
    (ap (λ (b : Board). field_at b j part) (sym same.board) ∙ is)
    ∙ sym (same.bits j part)

-- the rail made so many of the moves to its target and stands at this value
pub record Goes (first now : Hands) (bus bus' : Bus) (made r : ℕ) (rail : Rail) (target at : ℕ) (regs : List (List ℕ)) : Type 0 where
  pub within : made ≤ length (moves_between first.board r rail target (uv rail regs))
  pub rest : moves_between first.board r rail target at ≡ drop made (moves_between first.board r rail target (uv rail regs))
  pub moved : IsMovedAlone first.board r rail regs at (after_moves first.board regs (take made (moves_between first.board r rail target (uv rail regs))))
  pub look : Look now.board now.rails now.bits (after_moves first.board regs (take made (moves_between first.board r rail target (uv rail regs))))
  pub tells : Tells (updates_of first.board (take made (moves_between first.board r rail target (uv rail regs)))) false bus bus'

module _ (first : Hands) (valid : IsValid first.board) (r : ℕ) (rail : Rail) (at : slice_get first.board.rails r ≡ Some rail) (target : ℕ) (regs : List (List ℕ)) (seen : SeesLawful first regs) where
  abbrev moves : List Move
  moves = moves_between first.board r rail target (uv rail regs)

  -- where it stands is one of its values
  pub stands_among : Contains (allowed rail) (uv rail regs)
  stands_among = from_taken (allowed rail) (uv rail regs) (seen.law.values r rail at)

  -- no move was made yet
  pub goes_none : (now : Hands) (bus : Bus) (u : ℕ) → u ≡ uv rail regs → Look now.board now.rails now.bits regs → Goes first now bus bus 0 r rail target u regs
  goes_none now bus u here look = record {
    within = omega arith;
    rest = ap (moves_between first.board r rail target) here;
    moved = subst (λ (n : ℕ). IsMovedAlone first.board r rail regs n regs) (sym here) (unmoved first.board valid.sound r rail at regs seen.image);
    look = look;
    tells = tells_nothing bus;
  }

  module _ (now : Hands) (bus bus' : Bus) (made u : ℕ) (goes : Goes first now bus bus' made r rail target u regs) where
    -- at the target all moves were made
    pub went_all : u ≡ target → WentTo first now bus bus' made false r rail target regs
    went_all there =
        let none : drop made moves ≡ [] = sym goes.rest ∙ ap (moves_between first.board r rail target) there ∙ ap (map (λ v. move_of first.board (r, v))) (values_to-same (allowed rail) target) in
        record {
          within = goes.within;
          look = goes.look;
          tells = goes.tells;
          all = λ is. omega (arith, goes.within, length-drop made moves, ap (λ (ms : List Move). length ms) none);
          more = λ is. absurd (cc);
        }

    module _ (v : ℕ) (next : values_to (allowed rail) target u ≡ v ∷ values_to (allowed rail) target v) where
      left : drop made moves ≡ move_of first.board (r, v) ∷ moves_between first.board r rail target v
      left = sym goes.rest ∙ ap (map (λ w. move_of first.board (r, w))) next

      -- the bus refused the next move
      pub went_refused : (after : Hands) (bus'' : Bus) → Look after.board after.rails after.bits (after_moves first.board regs (take made moves)) → Tells [] true bus' bus''
          → WentTo first after bus bus'' made true r rail target regs
      went_refused after bus'' look refused = record {
        within = goes.within;
        look = look;
        tells = subst (λ us. Tells us true bus bus'') (append-nil (updates_of first.board (take made moves))) (tells_then (updates_of first.board (take made moves)) [] true bus bus' bus'' goes.tells refused);
        all = λ is. absurd (cc);
        more = λ is. within_from_rest moves made (move_of first.board (r, v)) (moves_between first.board r rail target v) left;
      }

      -- one move more
      module _ (field : Field) (is : rail.desc.selector ≡ Some field) (sel : ℕ) (chosen : selector_for rail v ≡ sel) (value : uv_of rail.desc.table sel ≡ Some v)
          (places : HavePlaces first.board) (changeable : rail.changeable ≡ true) (among : Contains (allowed rail) v) (same : now.board ≡ first.board)
          (after : Hands) (bus'' : Bus) (puts : PutsSelector r sel now after) (told : Tells (updates_of first.board (move_of first.board (r, v) ∷ [])) false bus' bus'') where
        taken : take (made + 1) moves ≡ take made moves ++ move_of first.board (r, v) ∷ []
        taken = taken_more moves made (move_of first.board (r, v)) (moves_between first.board r rail target v) left

        regs_then : after_moves first.board (after_moves first.board regs (take made moves)) (move_of first.board (r, v) ∷ []) ≡ after_moves first.board regs (take (made + 1) moves)
        regs_then = sym (after_moves-append first.board regs (take made moves) (move_of first.board (r, v) ∷ [])) ∙ ap (after_moves first.board regs) (sym taken)

        pub goes_on : Goes first after bus bus'' (made + 1) r rail target v regs
        goes_on = record {
          within = omega (arith, within_from_rest moves made (move_of first.board (r, v)) (moves_between first.board r rail target v) left);
          rest = rest_more moves made (move_of first.board (r, v)) (moves_between first.board r rail target v) left;
          moved = subst (IsMovedAlone first.board r rail regs v) regs_then
              (moved_regs first.board valid r rail at field is v sel chosen value places changeable among 0 u (after_moves first.board regs (take made moves)) regs seen.image seen.chips goes.moved);
          look = subst (Look after.board after.rails after.bits) regs_then
              (look_after first.board valid r rail at field is v sel chosen value places changeable among now after same puts (after_moves first.board regs (take made moves))
              goes.moved.image (goes.moved.chips ∙ seen.chips) goes.look);
          tells = subst (λ us. Tells us false bus bus'') (sym (updates_append first.board (take made moves) (move_of first.board (r, v) ∷ [])) ∙ ap (updates_of first.board) (sym taken))
              (tells_then (updates_of first.board (take made moves)) (updates_of first.board (move_of first.board (r, v) ∷ [])) false bus bus' bus'' goes.tells told);
        }
