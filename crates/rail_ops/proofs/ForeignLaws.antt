-- What is in no field of a board: no put into a field changes it, and with the fields it is all that there is.
use Rattle.std.proofs.Common.{◌≡◌, ℕ, Bool, true, false, List, Some, refl, sym, ap, subst, ◌∙◌, arith, length, get_or, All}
use Rattle.std.specs.Prelude.{Contains}
use Rattle.std.specs.Option.{option_and_then}
use Rattle.std.proofs.lemmas.Bool.{false≢true}
use Rattle.std.proofs.lemmas.List.Elements.{All-weaker, All-contains_itself}
use Rattle.std.proofs.lemmas.List.Folds.{list_any_at, Any-from_list_any}
use Rattle.std.proofs.lemmas.Option.{slice_get-get_or, slice_get_within, get_or_from_slice_get}
use Rattle.rail_state.proofs.Members.{Contains-filter_map, Contains-from_filter_map}
use Rattle.rail_law.proofs.Admissible.{in_joined}
use Rattle.rail_law.proofs.Members.{All-flat_map}
use Rattle.chip_regs.specs.declared.field.Field.{Field}
use Rattle.chip_regs.specs.Field.{FitsField}
use Rattle.chip_regs.specs.Registers.{IsImage, CanPut, field_of, with_field}
use Rattle.chip_regs.proofs.Fields.{IsImage-with_field, length-with_field}
use Rattle.board.specs.declared.board.Board.{Board}
use Rattle.board.specs.declared.part.Part.{Part}
use Rattle.board.specs.declared.part.Part.TheVariants.{Selector, Enable, ModePart, SuspendEnable, SuspendSelector}
use Rattle.board.specs.Fields.{field_at}
use Rattle.board.specs.Rail.{part_field}
use Rattle.board.specs.Valid.{IsValid}
use Rattle.plain_board.specs.Untied.{HoldFields}
use Rattle.rail_ops.specs.Foreign.{parts, fields_of_rail, fields_of, cleared, foreign}
use Rattle.rail_ops.proofs.AloneFields.{rail_of_field, placed, can_put}
use Rattle.rail_ops.proofs.ForeignBits.{bit_of, has_bit, in_fields, unless, Lies, AllLie, bit_kept, bit_read, still_lie, cleared_bit, IsImage-cleared, length-cleared, same_image}

-- lists of fields
module _ (fields : List Field) where
  -- a bit that is in none of the fields is in no one of them
  in_none : (chip reg bit : ℕ) (f : Field) → Contains fields f → in_fields fields chip reg bit ≡ false → (t : Bool) → has_bit chip reg bit f ≡ t → has_bit chip reg bit f ≡ false
  in_none chip reg bit f there none false is = is
  in_none chip reg bit f there none true is =
      absurd (false≢true (sym none ∙ list_any_at (has_bit chip reg bit) fields there.0 f there.1 (ap (has_bit chip reg bit) there.2 ∙ is)))

  -- a put into one of the fields changes nothing but what is cleared
  pub cleared_put : (R : List (List ℕ)) (f : Field) (n : ℕ) → Contains fields f → AllLie R fields → CanPut R f n → cleared fields (with_field R f n) ≡ cleared fields R
  cleared_put R f n there all can =
      let image = IsImage-with_field R f n can in
      let all' = still_lie R fields f n all in
      same_image (cleared fields (with_field R f n)) (cleared fields R)
      (IsImage-cleared fields (with_field R f n) image all') (IsImage-cleared fields R can.image all)
      (length-cleared fields (with_field R f n) ∙ length-with_field R f n ∙ sym (length-cleared fields R))
      (λ chip reg bit.
      cleared_bit fields (with_field R f n) chip reg bit image all'
      ∙ at chip reg bit (in_fields fields chip reg bit) refl
      ∙ sym (cleared_bit fields R chip reg bit can.image all)) where
        at : (chip reg bit : ℕ) (t : Bool) → in_fields fields chip reg bit ≡ t → unless t (bit_of (with_field R f n) chip reg bit) ≡ unless t (bit_of R chip reg bit)
        at chip reg bit true is = refl
        at chip reg bit false is = bit_kept R f n chip reg bit can (in_none chip reg bit f there is (has_bit chip reg bit f) refl)

  -- images that are alike once the fields are cleared, and of which the fields read alike, are one
  pub same_cleared : (a b : List (List ℕ)) → IsImage a → IsImage b → AllLie a fields → AllLie b fields → cleared fields a ≡ cleared fields b
      → ((f : Field) → Contains fields f → field_of a f ≡ field_of b f) → a ≡ b
  same_cleared a b image_a image_b all_a all_b same read =
      same_image a b image_a image_b (sym (length-cleared fields a) ∙ ap length same ∙ length-cleared fields b)
      (λ chip reg bit. at chip reg bit (in_fields fields chip reg bit) refl
      (sym (cleared_bit fields a chip reg bit image_a all_a) ∙ ap (λ R. bit_of R chip reg bit) same ∙ cleared_bit fields b chip reg bit image_b all_b)) where
        at : (chip reg bit : ℕ) (t : Bool) → in_fields fields chip reg bit ≡ t → unless t (bit_of a chip reg bit) ≡ unless t (bit_of b chip reg bit) → bit_of a chip reg bit ≡ bit_of b chip reg bit
        at chip reg bit false is outside = outside
        at chip reg bit true is outside =
            let some = Any-from_list_any (has_bit chip reg bit) fields is in
            let there : Contains fields some.1 = (some.0, some.2, some.3) in
            bit_read a b some.1 chip reg bit (subst (Lies a) some.3 (all_a some.0 some.1 some.2)).field (read some.1 there) some.4

part_among : (part : Part) → Contains parts part
part_among Selector = (0, omega arith, refl)
part_among Enable = (1, omega arith, refl)
part_among ModePart = (2, omega arith, refl)
part_among SuspendEnable = (3, omega arith, refl)
part_among SuspendSelector = (4, omega arith, refl)

-- the fields of a board
module _ (board : Board) (valid : IsValid board) where
  pub field_among : (r : ℕ) (part : Part) (field : Field) → field_at board r part ≡ Some field → Contains (fields_of board) field
  field_among r part field is =
      let found = rail_of_field board valid r part field is in
      in_joined fields_of_rail board.rails found.0 field r (slice_get_within board.rails r found.0 found.1) (get_or_from_slice_get board.rails r found.0 found.0 found.1)
      (Contains-filter_map (λ (p : Part). part_field p found.0) parts part field (part_among part) found.2)

  -- what holds of each field of each part holds of all fields
  pub all_fields : (P : Field → Type 0) → ((r : ℕ) (part : Part) (field : Field) → field_at board r part ≡ Some field → P field) → All P (fields_of board)
  all_fields P each =
      All-flat_map P fields_of_rail board.rails (λ r rail within.
      let one = get_or board.rails r rail in
      All-weaker (Contains (fields_of_rail one)) P (λ field there.
      let given = Contains-from_filter_map (λ (p : Part). part_field p one) parts field there in
      each r given.0 field (ap (option_and_then (part_field given.0)) (slice_get-get_or board.rails r rail within) ∙ given.2))
      (fields_of_rail one) (All-contains_itself (fields_of_rail one)))

  pub all_lie : (regs : List (List ℕ)) → HoldFields board regs → length regs ≡ board.chips → AllLie regs (fields_of board)
  all_lie regs hold chips =
      all_fields (Lies regs) (λ r part field is. record {
        chip = rw chips (placed board valid r part field is).chip;
        reg = hold.places r part field is;
        field = (placed board valid r part field is).shape;
      })

  -- a put into a field changes nothing that is in no field
  pub foreign_put : (regs : List (List ℕ)) → HoldFields board regs → length regs ≡ board.chips → (r : ℕ) (part : Part) (field : Field) (n : ℕ)
      → field_at board r part ≡ Some field → FitsField field n → foreign board (with_field regs field n) ≡ foreign board regs
  foreign_put regs hold chips r part field n is room =
      cleared_put (fields_of board) regs field n (field_among r part field is) (all_lie regs hold chips) (can_put board valid regs hold chips r part field n is room)

  -- registers with the same in all fields and in no field are the same
  pub foreign_same : (a b : List (List ℕ)) → HoldFields board a → HoldFields board b → length a ≡ board.chips → length b ≡ board.chips → foreign board a ≡ foreign board b
      → ((r : ℕ) (part : Part) (field : Field) → field_at board r part ≡ Some field → field_of a field ≡ field_of b field) → a ≡ b
  foreign_same a b hold_a hold_b chips_a chips_b same read =
      let alike : All (λ f. field_of a f ≡ field_of b f) (fields_of board) = all_fields (λ f. field_of a f ≡ field_of b f) read in
      same_cleared (fields_of board) a b hold_a.image hold_b.image (all_lie a hold_a chips_a) (all_lie b hold_b chips_b) same
      (λ f there. subst (λ (g : Field). field_of a g ≡ field_of b g) there.2 (alike there.0 f there.1))
