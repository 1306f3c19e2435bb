-- The fields of the rails of a board: where they lie, and what is read of them after a put.
use Rattle.std.proofs.Common.{◌≡◌, ◌≢◌, ◌⊎◌, ℕ, ◌<◌, List, Option, Some, None, refl, sym, subst, ◌∙◌, inl, inr, arith, length, slice_get}
use Rattle.std.specs.Prelude.{Contains, IfSome}
use Rattle.std.specs.Option.{option_and_then, option_map_or}
use Rattle.std.proofs.lemmas.Bool.{cases_eq}
use Rattle.std.proofs.lemmas.Option.{same_Some, slice_get_within, get_or_from_slice_get}
use Rattle.chip_regs.specs.declared.field.Field.{Field}
use Rattle.chip_regs.specs.Field.{FitsField}
use Rattle.chip_regs.specs.Registers.{CanPut, field_of, with_field}
use Rattle.chip_regs.proofs.Fields.{IsImage-with_field, length-with_field, field_of-with_field_apart}
use Rattle.board_graph.specs.Sets.{rails_of}
use Rattle.board_graph.proofs.Growth.{is_rail, from_taken}
use Rattle.board.specs.declared.board.Board.{Board}
use Rattle.board.specs.declared.part.Part.{Part}
use Rattle.board.specs.declared.rail.Rail.{Rail}
use Rattle.board.specs.Desc.{IsPlaced}
use Rattle.board.specs.Fields.{field_at}
use Rattle.board.specs.Rail.{part_field}
use Rattle.board.specs.Valid.{IsValid, IsSoundRail}
use Rattle.plain_board.specs.Untied.{HoldFields}
use Rattle.use_counts.specs.Book.{Book}
use Rattle.rail_ops.specs.Inside.Alone.{number_at, Fits}
use Rattle.rail_ops.specs.Inside.AloneLaws.{count_rails}

module _ (board : Board) (valid : IsValid board) where
  pub rail_among : (r : ℕ) → r < length board.rails → Contains (rails_of board.graph) r
  rail_among r within = from_taken (rails_of board.graph) r (is_rail board.graph r (omega (arith, count_rails board valid)))

  -- a rail that is there is sound
  pub sound_at : (r : ℕ) (rail : Rail) → slice_get board.rails r ≡ Some rail → IsSoundRail board.chips rail
  sound_at r rail at = subst (IsSoundRail board.chips) (get_or_from_slice_get board.rails r rail rail at) (valid.sound.rails r rail (slice_get_within board.rails r rail at))

  -- the rail of a field
  rail_of_some : (r : ℕ) (part : Part) (field : Field) (o : Option Rail) → slice_get board.rails r ≡ o → option_and_then (part_field part) o ≡ Some field
      → (rail : Rail) × (slice_get board.rails r ≡ Some rail) × (part_field part rail ≡ Some field)
  rail_of_some r part field None at is = absurd cc
  rail_of_some r part field (Some rail) at is = (rail, at, is)

  pub rail_of_field : (r : ℕ) (part : Part) (field : Field) → field_at board r part ≡ Some field
      → (rail : Rail) × (slice_get board.rails r ≡ Some rail) × (part_field part rail ≡ Some field)
  rail_of_field r part field is = rail_of_some r part field (slice_get board.rails r) refl is

  -- each field lies in one of the chips
  pub placed : (r : ℕ) (part : Part) (field : Field) → field_at board r part ≡ Some field → IsPlaced board.chips field
  placed r part field is =
      let found = rail_of_field r part field is in
      subst (λ (o : Option Field). IfSome o (IsPlaced board.chips)) found.2 ((sound_at r found.0 found.1).desc.placed part)

  module _ (regs : List (List ℕ)) (hold : HoldFields board regs) (chips : length regs ≡ board.chips) where
    -- a number that fits may be put into a field
    pub can_put : (r : ℕ) (part : Part) (field : Field) (n : ℕ) → field_at board r part ≡ Some field → FitsField field n → CanPut regs field n
    can_put r part field n is room = record {
      image = hold.image;
      chip = rw chips (placed r part field is).chip;
      reg = hold.places r part field is;
      field = (placed r part field is).shape;
      room = room;
    }

    -- what was put is read of no other field
    pub number_kept : (r i : ℕ) (part other : Part) (field : Field) (n : ℕ) → field_at board r part ≡ Some field → FitsField field n → (i ≡ r → other ≡ part → ⊥)
        → number_at board (with_field regs field n) i other ≡ number_at board regs i other
    number_kept r i part other field n is room differ = at (field_at board i other) refl where
      two : (r ≢ i) ⊎ (part ≢ other)
      two = elim (cases_eq r i) [
        | inl same ↦ inr (λ (e : part ≡ other). differ (sym same) (sym e))
        | inr differs ↦ inl differs
      ]

      at : (o : Option Field) → field_at board i other ≡ o → option_map_or (λ g. field_of (with_field regs field n) g) o 0 ≡ option_map_or (λ field. field_of regs field) o 0
      at None there = refl
      at (Some g) there = field_of-with_field_apart regs field n g (can_put r part field n is room) (valid.sound.apart r i part other field g two is there)

-- a number that fits one field of a part fits each, since there is but one
pub room_of : {Rest : Field → Type 0} (board : Board) (r : ℕ) (part : Part) (field : Field) (n : ℕ)
    → (other : Field) × (field_at board r part ≡ Some other) × FitsField other n × Rest other → field_at board r part ≡ Some field → FitsField field n
room_of board r part field n room is = subst (λ (f : Field). FitsField f n) (same_Some room.0 field (sym room.1 ∙ is)) room.2

-- after a put all rails still fit
pub fits_after : (board : Board) (regs : List (List ℕ)) (books : List Book) (r : ℕ) (part : Part) (field : Field) (n : ℕ)
    → Fits board regs books → field_at board r part ≡ Some field → FitsField field n → Fits board (with_field regs field n) books
fits_after board regs books r part field n fits is room = record {
  valid = fits.valid;
  as_many = fits.as_many;
  hold = record { image = IsImage-with_field regs field n (can_put board fits.valid regs fits.hold fits.chips r part field n is room); places = fits.hold.places };
  chips = length-with_field regs field n ∙ fits.chips;
}
