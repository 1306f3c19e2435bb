-- A rail may be put at another of its values, and what that changes before the worker.
use Rattle.std.proofs.Common.{◌≡◌, ◌≢◌, ◌⊎◌, ℕ, ◌*◌, ◌^◌, ◌<◌, Bool, true, false, cond, List, [], ◌∷◌, Option, Some, None, inl, inr, refl, sym, ap, ◌∙◌, subst, arith, map, filter, length, slice_get, All, Contains}
use Rattle.std.specs.Prelude.{IfSome, IsSome, option_and_then, unwrap_or}
use Rattle.std.specs.Option.{option_map_or}
use Rattle.std.proofs.lemmas.Bool.{cases_eq}
use Rattle.std.proofs.lemmas.List.Elements.{All-nil, All-cons, All-contains}
use Rattle.std.proofs.lemmas.Option.{same_Some}
use Rattle.chip_regs.specs.declared.field.Field.{Field}
use Rattle.chip_regs.specs.Field.{IsField, FitsField}
use Rattle.chip_regs.specs.Registers.{IsImage, CanPut, field_of, with_field}
use Rattle.chip_regs.proofs.Fields.{field_of-with_field}
use Rattle.chip_regs.specs.Width.{register_contents}
use Rattle.board.specs.declared.board.Board.{Board}
use Rattle.board.specs.declared.part.Part.{Part}
use Rattle.board.specs.declared.part.Part.TheVariants.{Selector, Enable, ModePart, SuspendEnable, SuspendSelector}
use Rattle.board.specs.declared.rail.Rail.{Rail}
use Rattle.board.specs.Desc.{IsPlaced, HoldsSelectors}
use Rattle.board.specs.Fields.{field_at}
use Rattle.board.specs.Rail.{allowed, part_field, told_uv, uv, is_within}
use Rattle.board.specs.Table.{uv_of, values_of}
use Rattle.board.specs.Valid.{IsValid, IsSoundRail}
use Rattle.rail_law.specs.Law.{Law}
use Rattle.rail_law.specs.Moves.{Move, after_moves, field_of_move, selector_for, update_of_field, written, writes_of}
use Rattle.rail_law.specs.Way.{move_of}
use Rattle.rail_state.specs.Sight.{IsGuarded, KeepsLaw, Look}
use Rattle.plain_board.specs.Untied.{IsUntied, HoldFields}
use Rattle.plain_board.specs.Update.{update_of}
use Rattle.plain_board.proofs.MovedAlone.{all_at, IsMovedAlone, unmoved, moved_on, still_lawful}
use Rattle.std.proofs.Math.Nat.{div-le_self}
use Rattle.rail_ops.specs.Inside.Seen.{uv_told, told_at}
use Rattle.rail_ops.specs.Inside.Supplied.{HavePlaces}
use Rattle.rail_ops.specs.Inside.Walking.{PutsSelector}
use Rattle.rail_ops.specs.Sight.{Hands}
use Rattle.rail_ops.specs.Taking.{updates_of}

-- a field has at most a register's numbers
pub fits_byte : (field : Field) (n : ℕ) → FitsField field n → field.mask < register_contents → n < register_contents
fits_byte field n fits byte = let whole = div-le_self field.mask (2 ^ field.shift) in omega arith

-- a rail that can't change has one value
one_value : (rail : Rail) (v : ℕ) → rail.changeable ≡ false → Contains (allowed rail) v → v ≡ rail.kept_uv
one_value rail v fixed has =
    let same : allowed rail ≡ rail.kept_uv ∷ [] = ap (λ t. map (λ (pair : ℕ × ℕ). pair.1) (cond t (filter (λ (pair : ℕ × ℕ). is_within rail.limits.bounds pair.1) (values_of rail.desc.table)) ((0, rail.kept_uv) ∷ []))) fixed in
    let only : Contains {X = ℕ} (rail.kept_uv ∷ []) v = subst (λ (ns : List ℕ). Contains {X = ℕ} ns v) same has in
    All-contains (λ n. n ≡ rail.kept_uv) (rail.kept_uv ∷ []) v (All-cons (λ n. n ≡ rail.kept_uv) rail.kept_uv [] refl (All-nil (λ n. n ≡ rail.kept_uv))) only

-- so a rail with two can
pub may_change : (rail : Rail) (u v : ℕ) → Contains (allowed rail) u → Contains (allowed rail) v → u ≢ v → rail.changeable ≡ true
may_change rail u v one other apart = by rail.changeable refl where
  by : (t : Bool) → rail.changeable ≡ t → t ≡ true
  by true is = refl
  by false is = absurd (apart (one_value rail u is one ∙ sym (one_value rail v is other)))

-- and has a selector
pub has_selector : (board : Board) → IsValid board → (r : ℕ) (rail : Rail) → slice_get board.rails r ≡ Some rail → rail.changeable ≡ true → (field : Field) × (rail.desc.selector ≡ Some field)
has_selector board valid r rail at changeable = by rail.desc.selector refl ((all_at (IsSoundRail board.chips) board.rails r rail valid.sound.rails at).moves changeable) where
  by : (o : Option Field) → rail.desc.selector ≡ o → IsSome o → (field : Field) × (rail.desc.selector ≡ Some field)
  by None is some = absurd (cc)
  by (Some field) is some = (field, is)

selector_or : (part : Part) → (part ≡ Selector) ⊎ (part ≢ Selector)
selector_or Selector = inl refl
selector_or Enable = inr (λ same. absurd (cc))
selector_or ModePart = inr (λ same. absurd (cc))
selector_or SuspendEnable = inr (λ same. absurd (cc))
selector_or SuspendSelector = inr (λ same. absurd (cc))

-- where a rail stands, by what is seen in its selector field
module _ (hands : Hands) (regs : List (List ℕ)) (look : Look hands.board hands.rails hands.bits regs) (r : ℕ) (rail : Rail) (at : slice_get hands.board.rails r ≡ Some rail) (guarded : IsGuarded hands.board hands.rails r) where
  told : (o : Option Field) → rail.desc.selector ≡ o → told_uv rail regs o ≡ uv_told rail (hands.bits r Selector) o
  told None is = refl
  told (Some field) is = ap (λ n. uv_told rail n (Some field)) (look r Selector field guarded (ap (option_and_then (part_field Selector)) at ∙ is))

  pub uv_by_look : told_at hands.board r (hands.bits r Selector) ≡ uv rail regs
  uv_by_look = ap (λ o. option_map_or (λ (a : Rail). uv_told a (hands.bits r Selector) a.desc.selector) o 0) at ∙ sym (told rail.desc.selector refl)

module _ (board : Board) (valid : IsValid board) (r : ℕ) (rail : Rail) (at : slice_get board.rails r ≡ Some rail) (field : Field) (is : rail.desc.selector ≡ Some field) where
  own_sound : IsSoundRail board.chips rail
  own_sound = all_at (IsSoundRail board.chips) board.rails r rail valid.sound.rails at

  own_placed : IsPlaced board.chips field
  own_placed = let own = own_sound in subst (λ (o : Option Field). IfSome o (IsPlaced board.chips)) is (own.desc.placed Selector)

  pub selector_is_field : IsField field
  selector_is_field = own_placed.shape

  pub selector_at : field_at board r Selector ≡ Some field
  selector_at = ap (option_and_then (part_field Selector)) at ∙ is

  module _ (v sel : ℕ) (first : selector_for rail v ≡ sel) where
    pub move_field : field_of_move board (move_of board (r, v)) ≡ Some field
    move_field = selector_at

    pub move_bits : (move_of board (r, v)).bits ≡ sel
    move_bits = ap (λ (o : Option Rail). option_map_or (λ a. selector_for a v) o 0) at ∙ first

    pub move_write : update_of_field (field_of_move board (move_of board (r, v))) (move_of board (r, v)).bits ≡ update_of_field (Some field) sel
    move_write = ap (λ o. update_of_field o (move_of board (r, v)).bits) move_field ∙ ap (update_of_field (Some field)) move_bits

    pub move_update : updates_of board (move_of board (r, v) ∷ []) ≡ (field.chip, field.reg, field.mask, sel * 2 ^ field.shift) ∷ []
    move_update = ap (λ w. update_of w ∷ []) move_write

    pub move_regs : (regs : List (List ℕ)) → after_moves board regs (move_of board (r, v) ∷ []) ≡ with_field regs field sel
    move_regs regs = ap (λ o. written o regs (move_of board (r, v)).bits) move_field ∙ ap (with_field regs field) move_bits

    module _ (value : uv_of rail.desc.table sel ≡ Some v) where
      pub selector_fits : FitsField field sel
      selector_fits =
          let own = own_sound in
          let holds : HoldsSelectors rail.desc.table field = subst (λ (o : Option Field). IfSome o (HoldsSelectors rail.desc.table)) is own.desc.selector in
          (holds sel).1 (rw value refl)

      module _ (places : HavePlaces board) (changeable : rail.changeable ≡ true) (among : Contains (allowed rail) v) where
        -- the registers after the move
        pub moved_regs : (first u : ℕ) (regs before : List (List ℕ)) → IsImage before → length before ≡ board.chips → IsMovedAlone board r rail before u regs → IsMovedAlone board r rail before v (after_moves board regs (move_of board (r, v) ∷ []))
        moved_regs zero_or u regs before image chips moved =
            moved_on board valid.sound r rail at changeable before chips (record { image = image; places = places }) u v regs moved among

        -- whatever stands in the fields that can't be seen, the law holds after it
        pub keeps_law : IsUntied board → (rails : List ℕ) (bits : ℕ → Part → ℕ) → KeepsLaw board rails bits field sel
        keeps_law untied rails bits regs image chips look law =
            subst (Law board) (move_regs regs)
            (still_lawful board valid.sound r rail at regs (after_moves board regs (move_of board (r, v) ∷ [])) v
            (moved_regs 0 (uv rail regs) regs regs image chips (unmoved board valid.sound r rail at regs image)) untied among law)

        pub own_reads : (regs : List (List ℕ)) → IsImage regs → length regs ≡ board.chips → field_of (with_field regs field sel) field ≡ sel
        own_reads regs image chips =
            field_of-with_field regs field sel (record {
              image = image;
              chip = omega (arith, own_placed.chip, chips);
              reg = places r Selector field selector_at;
              field = own_placed.shape;
              room = selector_fits;
            })

        -- the worker sees the registers after the move
        module _ (now after : Hands) (same : now.board ≡ board) (puts : PutsSelector r sel now after) (regs : List (List ℕ)) (image : IsImage regs) (chips : length regs ≡ board.chips) (look : Look now.board now.rails now.bits regs) where
          moved : IsMovedAlone board r rail regs v (after_moves board regs (move_of board (r, v) ∷ []))
          moved = moved_regs 0 (uv rail regs) regs regs image chips (unmoved board valid.sound r rail at regs image)

          kept : (j : ℕ) (part : Part) (f : Field) → IsGuarded now.board now.rails j → field_at board j part ≡ Some f → (j ≡ r → part ≡ Selector → ⊥)
              → field_of (after_moves board regs (move_of board (r, v) ∷ [])) f ≡ after.bits j part
          kept j part f guarded there other =
              moved.fields j part f there (elim (cases_eq r j) [ inl alike ↦ inr (λ e. other (sym alike) (sym e)) | inr away ↦ inl away ])
              ∙ look j part f guarded (ap (λ (b : Board). field_at b j part) same ∙ there)
              ∙ sym (puts.others j part other)

          seen : (j : ℕ) (part : Part) (f : Field) → IsGuarded now.board now.rails j → field_at board j part ≡ Some f → field_of (after_moves board regs (move_of board (r, v) ∷ [])) f ≡ after.bits j part
          seen j part f guarded there = elim (cases_eq j r) [
            | inr apart ↦ kept j part f guarded there (λ alike e. apart alike)
            | inl alike ↦ elim (selector_or part) [
              | inr other ↦ kept j part f guarded there (λ s e. other e)
              | inl own ↦
                  let one : field ≡ f = same_Some _ _ (sym selector_at ∙ ap (λ (k : ℕ). field_at board k Selector) (sym alike) ∙ ap (field_at board j) (sym own) ∙ there) in
                  ap (field_of (after_moves board regs (move_of board (r, v) ∷ []))) (sym one)
                  ∙ ap (λ rs. field_of rs field) (move_regs regs) ∙ own_reads regs image chips ∙ sym puts.own
                  ∙ ap (λ (k : ℕ). after.bits k Selector) (sym alike) ∙ ap (after.bits j) (sym own)
            ]
          ]

          pub look_after : Look after.board after.rails after.bits (after_moves board regs (move_of board (r, v) ∷ []))
          look_after j part f guarded there =
              seen j part f
              (subst (λ (b : Board). IsGuarded b now.rails j) puts.board (subst (λ (rs : List ℕ). IsGuarded after.board rs j) puts.rails guarded))
              (ap (λ (b : Board). field_at b j part) (sym (puts.board ∙ same)) ∙ there)
