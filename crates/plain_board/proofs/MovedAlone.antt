-- The registers after writes to one rail's selector: that rail has another value, and all else reads as before.
use Rattle.std.proofs.Common.{◌≡◌, ◌≢◌, ℕ, zero, suc, Bool, true, false, cond, eqb, List, [], ◌∷◌, Option, Some, None, ◌⊎◌, inl, inr, refl, sym, ap, ◌∙◌, subst, arith, map, length, filter, find, slice_get, All, Contains}
use Rattle.std.specs.Prelude.{◌==◌, IfSome, IsSome, unwrap_or, option_map, option_and_then}
use Rattle.std.specs.Option.{option_map_or}
use Rattle.std.proofs.lemmas.Bool.{cases_eq, eqb-true, eq-eqb, both_ways}
use Rattle.std.proofs.lemmas.Option.{slice_get_within, get_or_from_slice_get, same_Some}
use Rattle.linear_range.proofs.Listed.{lists_values}
use Rattle.voltage_table.proofs.Listed.{lists_values as lists_entries}
use Rattle.chip_regs.specs.declared.field.Field.{Field}
use Rattle.chip_regs.specs.Field.{FitsField}
use Rattle.chip_regs.specs.Registers.{IsImage, CanPut, field_of, with_field}
use Rattle.chip_regs.proofs.Fields.{field_of-with_field, field_of-with_field_apart, IsImage-with_field, length-with_field}
use Rattle.load_modes.specs.declared.mode.Mode.TheVariants.{Normal}
use Rattle.board_graph.proofs.Growth.{taken_from}
use Rattle.board.specs.declared.board.Board.{Board}
use Rattle.board.specs.declared.part.Part.{Part}
use Rattle.board.specs.declared.part.Part.TheVariants.{Selector, Enable, ModePart}
use Rattle.board.specs.declared.rail.Rail.{Rail}
use Rattle.board.specs.declared.table.Table.{Table}
use Rattle.board.specs.declared.table.Table.TheVariants.{Ranges, List as Listed}
use Rattle.board.specs.Desc.{IsPlaced, HoldsSelectors}
use Rattle.board.specs.Fields.{field_at}
use Rattle.board.specs.Rail.{choices, allowed, IsAllowed, uv, told_uv, is_on, mode, mode_numbered, part_field, is_within}
use Rattle.board.specs.Table.{uv_of, values_of}
use Rattle.board.specs.Valid.{IsSoundRail, IsSoundBoard}
use Rattle.rail_law.specs.Law.{Law}
use Rattle.rail_law.specs.Moves.{selector_for, field_of_move, written}
use Rattle.rail_law.specs.Way.{move_of}
use Rattle.plain_board.specs.Untied.{IsUntied, HoldFields}
use Rattle.plain_board.proofs.Run.{filtered}
use Rattle.std.specs.List.{list_any}

-- what holds of each element holds of the one at a place
pub all_at : {A : Type 0} (P : A → Type 0) (xs : List A) (i : ℕ) (x : A) → All P xs → slice_get xs i ≡ Some x → P x
all_at P xs i x all is = subst P (get_or_from_slice_get xs i x x is) (all i x (slice_get_within xs i x is))

-- the first pair with a value is found among the pairs
pub record IsFound (ps : List (ℕ × ℕ)) (v : ℕ) : Type 0 where
  pub pair : ℕ × ℕ
  pub first : find (λ p. p.1 == v) ps ≡ Some pair
  pub among : Contains ps pair
  pub value : pair.1 ≡ v

found_by : (p : ℕ × ℕ) (ps : List (ℕ × ℕ)) (v : ℕ) (t : Bool) → (p.1 == v) ≡ t → (Contains (map (λ q. q.1) ps) v → IsFound ps v) → Contains (map (λ q. q.1) (p ∷ ps)) v → IsFound (p ∷ ps) v
found_by p ps v true is rest has = record { pair = p; first = rw is refl; among = (0, omega arith, refl); value = eqb-true p.1 v is }
found_by p ps v false is rest (zero, within, same) = absurd (both_ways _ is (eq-eqb p.1 v same))
found_by p ps v false is rest (suc k, within, same) =
    let further = rest (k, omega arith, same) in
    record { pair = further.pair; first = rw is further.first; among = (suc further.among.0, omega (arith, further.among.1), further.among.2); value = further.value }

found : (ps : List (ℕ × ℕ)) (v : ℕ) → Contains (map (λ q. q.1) ps) v → IsFound ps v
found [] v has = absurd (omega (arith, has.1))
found (p ∷ ps) v has = found_by p ps v (p.1 == v) refl (found ps v) has

-- a pair of a table is a selector with its value
listed : (table : Table) (sel v : ℕ) → Contains (values_of table) (sel, v) → uv_of table sel ≡ Some v
listed (Ranges ranges) sel v has = (lists_values ranges sel v).0 has
listed (Listed list) sel v has = (lists_entries list sel v).0 has

-- a selector that is written, its value and its place
pub record IsSelectorFor (rail : Rail) (field : Field) (v sel : ℕ) : Type 0 where
  pub first : selector_for rail v ≡ sel
  pub value : uv_of rail.desc.table sel ≡ Some v
  pub fits : FitsField field sel

module _ (rail : Rail) (field : Field) (holds : HoldsSelectors rail.desc.table field) (changeable : rail.changeable ≡ true) where
  table_pair : (p : ℕ × ℕ) → Contains (choices rail) p → Contains (values_of rail.desc.table) p
  table_pair p has =
      let same : choices rail ≡ filter (λ pair. is_within rail.limits.bounds pair.1) (values_of rail.desc.table) =
      ap (λ t. cond t (filter (λ pair. is_within rail.limits.bounds pair.1) (values_of rail.desc.table)) ((0, rail.kept_uv) ∷ [])) changeable in
      filtered (λ pair. is_within rail.limits.bounds pair.1) (values_of rail.desc.table) p (subst (λ (ps : List (ℕ × ℕ)). Contains {X = ℕ × ℕ} ps p) same has)

  selector_is : (v : ℕ) → Contains (allowed rail) v → IsSelectorFor rail field v (selector_for rail v)
  selector_is v has =
      let there = found (choices rail) v has in
      let first : selector_for rail v ≡ there.pair.0 = ap (λ o. unwrap_or (option_map (λ (pair : ℕ × ℕ). pair.0) o) 0) there.first in
      let value : uv_of rail.desc.table (selector_for rail v) ≡ Some v =
      ap (uv_of rail.desc.table) first ∙ listed rail.desc.table there.pair.0 there.pair.1 (table_pair there.pair there.among) ∙ ap Some there.value in
      record { first = refl; value = value; fits = (holds (selector_for rail v)).1 (rw value refl) }

-- the registers where only rail r's value may be another, and is v
pub record IsMovedAlone (board : Board) (r : ℕ) (rail : Rail) (before : List (List ℕ)) (v : ℕ) (after : List (List ℕ)) : Type 0 where
  pub fields : (k : ℕ) (part : Part) (f : Field) → field_at board k part ≡ Some f → (r ≢ k) ⊎ (Selector ≢ part) → field_of after f ≡ field_of before f
  pub value : uv rail after ≡ v
  pub image : IsImage after
  pub chips : length after ≡ length before

module _ (board : Board) (sound : IsSoundBoard board) (r : ℕ) (rail : Rail) (there : slice_get board.rails r ≡ Some rail) where
  -- before any move
  pub unmoved : (regs : List (List ℕ)) → IsImage regs → IsMovedAlone board r rail regs (uv rail regs) regs
  unmoved regs image = record { fields = λ k part f is apart. refl; value = refl; image = image; chips = refl }

  abbrev after_move : List (List ℕ) → ℕ → List (List ℕ)
  after_move regs v = written (field_of_move board (move_of board (r, v))) regs ((move_of board (r, v)).bits)

  field_is : (f : Field) → rail.desc.selector ≡ Some f → field_at board r Selector ≡ Some f
  field_is f is = ap (option_and_then (part_field Selector)) there ∙ is

  after_is : (regs : List (List ℕ)) (v : ℕ) (f : Field) → rail.desc.selector ≡ Some f → after_move regs v ≡ with_field regs f (selector_for rail v)
  after_is regs v f is =
      ap (λ o. written o regs ((move_of board (r, v)).bits)) (field_is f is)
      ∙ ap (λ (o : Option Rail). with_field regs f (option_map_or (λ a. selector_for a v) o 0)) there

  -- a move of the rail to a value of its own
  module _ (changeable : rail.changeable ≡ true) (first : List (List ℕ)) (chips : length first ≡ board.chips) (hold : HoldFields board first) where
    put_moved : (u v : ℕ) (regs : List (List ℕ)) (f : Field) → rail.desc.selector ≡ Some f → IsMovedAlone board r rail first u regs → Contains (allowed rail) v
        → IsMovedAlone board r rail first v (with_field regs f (selector_for rail v))
    put_moved u v regs f is moved has =
        let own : IsSoundRail board.chips rail = all_at (IsSoundRail board.chips) board.rails r rail sound.rails there in
        let placed : IsPlaced board.chips f = subst (λ o. IfSome o (IsPlaced board.chips)) is (own.desc.placed Selector) in
        let holds : HoldsSelectors rail.desc.table f = subst (λ o. IfSome o (HoldsSelectors rail.desc.table)) is own.desc.selector in
        let sel = selector_is rail f holds changeable v has in
        let can : CanPut regs f (selector_for rail v) = record {
          image = moved.image;
          chip = omega (arith, placed.chip, moved.chips, chips);
          reg = hold.places r Selector f (field_is f is);
          field = placed.shape;
          room = sel.fits;
        } in
        record {
          fields = λ k part g at apart.
              field_of-with_field_apart regs f (selector_for rail v) g can (sound.apart r k Selector part f g apart (field_is f is) at)
              ∙ moved.fields k part g at apart;
          value = ap (told_uv rail (with_field regs f (selector_for rail v))) is
              ∙ ap (λ n. unwrap_or (uv_of rail.desc.table n) rail.kept_uv) (field_of-with_field regs f (selector_for rail v) can)
              ∙ ap (λ o. unwrap_or o rail.kept_uv) sel.value;
          image = IsImage-with_field regs f (selector_for rail v) can;
          chips = length-with_field regs f (selector_for rail v) ∙ moved.chips;
        }

    moved_by : (u v : ℕ) (regs : List (List ℕ)) (o : Option Field) → rail.desc.selector ≡ o → IsSome o → IsMovedAlone board r rail first u regs → Contains (allowed rail) v
        → IsMovedAlone board r rail first v (after_move regs v)
    moved_by u v regs None is some_field moved has = absurd (cc)
    moved_by u v regs (Some f) is some_field moved has = subst (IsMovedAlone board r rail first v) (sym (after_is regs v f is)) (put_moved u v regs f is moved has)

    pub moved_on : (u v : ℕ) (regs : List (List ℕ)) → IsMovedAlone board r rail first u regs → Contains (allowed rail) v → IsMovedAlone board r rail first v (after_move regs v)
    moved_on u v regs moved has =
        let own : IsSoundRail board.chips rail = all_at (IsSoundRail board.chips) board.rails r rail sound.rails there in
        moved_by u v regs rail.desc.selector refl (own.moves changeable) moved has

  -- what the other rails do, and whether and in which mode each is on, is as before
  module _ (before after : List (List ℕ)) (v : ℕ) (moved : IsMovedAlone board r rail before v after) where
    stands_by : (k : ℕ) (other : Rail) (o : Option Field) → slice_get board.rails k ≡ Some other → other.desc.selector ≡ o → r ≢ k → told_uv other after o ≡ told_uv other before o
    stands_by k other None at is apart = refl
    stands_by k other (Some f) at is apart =
        ap (λ n. unwrap_or (uv_of other.desc.table n) other.kept_uv) (moved.fields k Selector f (ap (option_and_then (part_field Selector)) at ∙ is) (inl apart))

    pub other_stands : (k : ℕ) (other : Rail) → slice_get board.rails k ≡ Some other → r ≢ k → uv other after ≡ uv other before
    other_stands k other at apart = stands_by k other other.desc.selector at refl apart

    pub is_on_kept : (k : ℕ) (other : Rail) → slice_get board.rails k ≡ Some other → is_on other after ≡ is_on other before
    is_on_kept k other at = ap (λ n. n == 1) (moved.fields k Enable other.desc.enable (ap (option_and_then (part_field Enable)) at) (inr (λ same. absurd (cc))))

    mode_by : (k : ℕ) (other : Rail) (o : Option Field) → slice_get board.rails k ≡ Some other → other.desc.modes ≡ o
        → option_map_or (λ field. mode_numbered (field_of after field)) o Normal ≡ option_map_or (λ field. mode_numbered (field_of before field)) o Normal
    mode_by k other None at is = refl
    mode_by k other (Some f) at is = ap mode_numbered (moved.fields k ModePart f (ap (option_and_then (part_field ModePart)) at ∙ is) (inr (λ same. absurd (cc))))

    pub mode_kept : (k : ℕ) (other : Rail) → slice_get board.rails k ≡ Some other → mode other after ≡ mode other before
    mode_kept k other at = mode_by k other other.desc.modes at refl

    -- the law still holds on a board on which no value binds another
    pub still_lawful : IsUntied board → Contains (allowed rail) v → Law board before → Law board after
    still_lawful untied has law = record {
      values = λ i a at. elim (cases_eq r i) [
        | inl same ↦
            let one : rail ≡ a = same_Some _ _ (sym there ∙ ap (slice_get board.rails) same ∙ at) in
            let stands : IsAllowed rail (uv rail after) = ap (λ n. list_any (eqb n) (allowed rail)) moved.value ∙ taken_from (allowed rail) v has in
            subst (λ b. IsAllowed b (uv b after)) one stands
        | inr apart ↦ subst (IsAllowed a) (sym (other_stands i a at apart)) (law.values i a at)
      ];
      spreads = λ i j group spread a b coupled. absurd (untied.uncoupled i j coupled);
      supplies = λ upper lower a b supplies a_at b_at lower_on.
          is_on_kept upper a a_at ∙ law.supplies upper lower a b supplies a_at b_at (sym (is_on_kept lower b b_at) ∙ lower_on);
      dropouts = λ upper lower a b supplies linked. absurd (untied.unlinked lower linked);
    }
