-- After moves that each put what their field is to hold, a field holds that, or what it held before.
use Rattle.std.proofs.Common.{◌≡◌, ◌≢◌, ℕ, zero, suc, ◌<◌, List, [], ◌∷◌, Option, Some, None, ◌⊎◌, inl, inr, refl, sym, ap, ◌∙◌, subst, arith, length, slice_get, All, Contains}
use Rattle.std.specs.Prelude.{IfSome, unwrap_or, option_and_then}
use Rattle.std.proofs.lemmas.Bool.{cases_eq}
use Rattle.std.proofs.lemmas.List.Elements.{All-head, All-tail}
use Rattle.std.proofs.lemmas.Option.{same_Some}
use Rattle.chip_regs.specs.declared.field.Field.{Field}
use Rattle.chip_regs.specs.Field.{FitsField}
use Rattle.chip_regs.specs.Registers.{IsImage, CanPut, field_of, with_field}
use Rattle.chip_regs.specs.Width.{chip_registers}
use Rattle.chip_regs.proofs.Fields.{field_of-with_field, field_of-with_field_apart, IsImage-with_field, length-with_field}
use Rattle.board.specs.declared.board.Board.{Board}
use Rattle.board.specs.declared.part.Part.{Part}
use Rattle.board.specs.declared.part.Part.TheVariants.{Selector, Enable, ModePart, SuspendEnable, SuspendSelector}
use Rattle.board.specs.declared.rail.Rail.{Rail}
use Rattle.board.specs.Desc.{IsPlaced}
use Rattle.board.specs.Fields.{field_at}
use Rattle.board.specs.Rail.{part_field}
use Rattle.board.specs.Valid.{IsSoundRail, IsSoundBoard}
use Rattle.rail_law.specs.Moves.{Move, field_of_move, written, after_moves}
use Rattle.plain_board.proofs.MovedAlone.{all_at}

-- two parts are one, or aren't
number_of_part : Part → ℕ
number_of_part Selector = 0
number_of_part Enable = 1
number_of_part ModePart = 2
number_of_part SuspendEnable = 3
number_of_part SuspendSelector = 4

part_numbered : ℕ → Part
part_numbered n = unwrap_or (slice_get (Selector ∷ Enable ∷ ModePart ∷ SuspendEnable ∷ SuspendSelector ∷ []) n) Selector

part_back : (part : Part) → part_numbered (number_of_part part) ≡ part
unfolding part_numbered number_of_part
part_back Selector = refl
part_back Enable = refl
part_back ModePart = refl
part_back SuspendEnable = refl
part_back SuspendSelector = refl

one_part : (p q : Part) → (p ≡ q) ⊎ (p ≢ q)
one_part p q = elim (cases_eq (number_of_part p) (number_of_part q)) [
  | inl same ↦ inl (sym (part_back p) ∙ ap part_numbered same ∙ part_back q)
  | inr apart ↦ inr (λ same. apart (ap number_of_part same))
]

-- the registers are those of the board's chips
pub record AreChips (board : Board) (regs : List (List ℕ)) : Type 0 where
  pub image : IsImage regs
  pub chips : length regs ≡ board.chips

-- the move puts what its field is to hold, and that fits
pub record IsAimed (board : Board) (aim : ℕ → Part → ℕ) (move : Move) : Type 0 where
  pub bits : move.bits ≡ aim move.rail.0 move.part
  pub room : IfSome (field_of_move board move) (λ field. FitsField field move.bits)

-- a write of a field's own, or of another
pub record IsOwnWrite (move : Move) (r : ℕ) (part : Part) (read : ℕ) : Type 0 where
  pub rail : move.rail.0 ≡ r
  pub part_is : move.part ≡ part
  pub reads : read ≡ move.bits

pub record IsOtherWrite (move : Move) (r : ℕ) (part : Part) (read before : ℕ) : Type 0 where
  pub other : move.rail.0 ≡ r → move.part ≡ part → ⊥
  pub reads : read ≡ before

module _ (board : Board) (sound : IsSoundBoard board) (places : (r : ℕ) (part : Part) (field : Field) → field_at board r part ≡ Some field → field.reg < chip_registers) where
  -- each field lies in a chip of the board
  pub placed_at : (r : ℕ) (part : Part) (f : Field) → field_at board r part ≡ Some f → IsPlaced board.chips f
  placed_at r part f at = by (slice_get board.rails r) refl at where
    by : (o : Option Rail) → slice_get board.rails r ≡ o → option_and_then (part_field part) o ≡ Some f → IsPlaced board.chips f
    by None there is = absurd (cc)
    by (Some rail) there is = subst (λ (o : Option Field). IfSome o (IsPlaced board.chips)) is ((all_at (IsSoundRail board.chips) board.rails r rail sound.rails there).desc.placed part)

  can_put : (regs : List (List ℕ)) (r : ℕ) (part : Part) (f : Field) (n : ℕ) → field_at board r part ≡ Some f → AreChips board regs → FitsField f n → CanPut regs f n
  can_put regs r part f n at are room =
      let placed = placed_at r part f at in
      record { image = are.image; chip = omega (arith, placed.chip, are.chips); reg = places r part f at; field = placed.shape; room = room }

  -- the registers stay those of the chips
  chips_by : (o : Option Field) (move : Move) (regs : List (List ℕ)) → field_of_move board move ≡ o → IfSome o (λ f. FitsField f move.bits) → AreChips board regs → AreChips board (written o regs move.bits)
  chips_by None move regs is room are = are
  chips_by (Some f) move regs is room are = record {
    image = IsImage-with_field regs f move.bits (can_put regs move.rail.0 move.part f move.bits is are room);
    chips = length-with_field regs f move.bits ∙ are.chips;
  }

  -- what a field reads after one write
  read_by : (o : Option Field) (move : Move) (regs : List (List ℕ)) (r : ℕ) (part : Part) (f : Field) → field_of_move board move ≡ o → IfSome o (λ g. FitsField g move.bits)
      → AreChips board regs → field_at board r part ≡ Some f
      → IsOwnWrite move r part (field_of (written o regs move.bits) f) ⊎ IsOtherWrite move r part (field_of (written o regs move.bits) f) (field_of regs f)
  read_by None move regs r part f is room are at = inr (record {
    other = λ rail same.
        let own : field_at board r part ≡ None = subst (λ p. field_at board r p ≡ None) same (subst (λ k. field_at board k move.part ≡ None) rail is) in
        cc;
    reads = refl;
  })
  read_by (Some g) move regs r part f is room are at =
      let can = can_put regs move.rail.0 move.part g move.bits is are room in
      elim (cases_eq move.rail.0 r) [
        | inr apart ↦ inr (record {
          other = λ rail same. apart rail;
          reads = field_of-with_field_apart regs g move.bits f can (sound.apart move.rail.0 r move.part part g f (inl apart) is at);
        })
        | inl rail ↦ elim (one_part move.part part) [
          | inr apart ↦ inr (record {
            other = λ _ same. apart same;
            reads = field_of-with_field_apart regs g move.bits f can (sound.apart move.rail.0 r move.part part g f (inr apart) is at);
          })
          | inl same ↦
              let own : field_at board r part ≡ Some g = subst (λ p. field_at board r p ≡ Some g) same (subst (λ k. field_at board k move.part ≡ Some g) rail is) in
              let one : g ≡ f = same_Some g f (sym own ∙ at) in
              inl (record {
                rail = rail;
                part_is = same;
                reads = ap (field_of (with_field regs g move.bits)) (sym one) ∙ field_of-with_field regs g move.bits can;
              })
        ]
      ]

  abbrev next : Move → List (List ℕ) → List (List ℕ)
  next move regs = written (field_of_move board move) regs move.bits

  module _ (aim : ℕ → Part → ℕ) where
    next_chips : (move : Move) (regs : List (List ℕ)) → IsAimed board aim move → AreChips board regs → AreChips board (next move regs)
    next_chips move regs aimed are = chips_by (field_of_move board move) move regs refl aimed.room are

    own_aim : (move : Move) (r : ℕ) (part : Part) (n : ℕ) → IsAimed board aim move → IsOwnWrite move r part n → n ≡ aim r part
    own_aim move r part n aimed own =
        own.reads ∙ aimed.bits ∙ ap (λ k. aim k move.part) own.rail ∙ ap (aim r) own.part_is

    pub end_chips : (moves : List Move) (regs : List (List ℕ)) → All (IsAimed board aim) moves → AreChips board regs → AreChips board (after_moves board regs moves)
    end_chips [] regs all are = are
    end_chips (move ∷ moves) regs all are =
        end_chips moves (next move regs) (All-tail (IsAimed board aim) move moves all) (next_chips move regs (All-head (IsAimed board aim) move moves all) are)

    module _ (r : ℕ) (part : Part) (f : Field) (at : field_at board r part ≡ Some f) where
      -- a field that holds it keeps it
      keeps_aim : (moves : List Move) (regs : List (List ℕ)) → All (IsAimed board aim) moves → AreChips board regs → field_of regs f ≡ aim r part → field_of (after_moves board regs moves) f ≡ aim r part
      keeps_aim [] regs all are holds = holds
      keeps_aim (move ∷ moves) regs all are holds =
          let aimed = All-head (IsAimed board aim) move moves all in
          let rest = All-tail (IsAimed board aim) move moves all in
          elim (read_by (field_of_move board move) move regs r part f refl aimed.room are at) [
            | inl own ↦ keeps_aim moves (next move regs) rest (next_chips move regs aimed are) (own_aim move r part (field_of (next move regs) f) aimed own)
            | inr other ↦ keeps_aim moves (next move regs) rest (next_chips move regs aimed are) (other.reads ∙ holds)
          ]

      -- a field holds it in the end, or what it held
      pub ends_near : (moves : List Move) (regs : List (List ℕ)) → All (IsAimed board aim) moves → AreChips board regs
          → (field_of (after_moves board regs moves) f ≡ field_of regs f) ⊎ (field_of (after_moves board regs moves) f ≡ aim r part)
      ends_near [] regs all are = inl refl
      ends_near (move ∷ moves) regs all are =
          let aimed = All-head (IsAimed board aim) move moves all in
          let rest = All-tail (IsAimed board aim) move moves all in
          let are_next = next_chips move regs aimed are in
          elim (read_by (field_of_move board move) move regs r part f refl aimed.room are at) [
            | inl own ↦ inr (keeps_aim moves (next move regs) rest are_next (own_aim move r part (field_of (next move regs) f) aimed own))
            | inr other ↦ elim (ends_near moves (next move regs) rest are_next) [
              | inl same ↦ inl (same ∙ other.reads)
              | inr holds ↦ inr holds
            ]
          ]

      -- a field of one of the moves holds it
      pub ends_at : (moves : List Move) (regs : List (List ℕ)) (move : Move) → All (IsAimed board aim) moves → AreChips board regs → Contains moves move → move.rail.0 ≡ r → move.part ≡ part
          → field_of (after_moves board regs moves) f ≡ aim r part
      ends_at [] regs move all are has rail same = let within = has.1 in absurd (omega (arith, within))
      ends_at (first ∷ moves) regs move all are (zero, within, is) rail same =
          let aimed = All-head (IsAimed board aim) first moves all in
          let rest = All-tail (IsAimed board aim) first moves all in
          elim (read_by (field_of_move board first) first regs r part f refl aimed.room are at) [
            | inl own ↦ keeps_aim moves (next first regs) rest (next_chips first regs aimed are) (own_aim first r part (field_of (next first regs) f) aimed own)
            | inr other ↦ absurd (other.other (ap (λ (m : Move). m.rail.0) is ∙ rail) (ap (λ (m : Move). m.part) is ∙ same))
          ]
      ends_at (first ∷ moves) regs move all are (suc k, within, is) rail same =
          ends_at moves (next first regs) move (All-tail (IsAimed board aim) first moves all) (next_chips first regs (All-head (IsAimed board aim) first moves all) are) (k, omega arith, is) rail same
