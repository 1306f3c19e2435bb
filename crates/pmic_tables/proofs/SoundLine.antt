-- A line of a data sheet makes a sound rail.
use Rattle.std.proofs.Common.{◌≡◌, ℕ, ◌+◌, ◌-◌, ◌*◌, ◌/◌, ◌%◌, ◌^◌, ◌<◌, ◌≤◌, List, [], ◌∷◌, map, refl, ap, ◌∙◌, arith}
use Rattle.std.proofs.lemmas.Nat.{shl-shr}
use Rattle.std.specs.List.{AllByRecursion, enumerate_from}
use Rattle.std.specs.Prelude.{IfSome}
use Rattle.chip_regs.specs.Field.{greatest_of}
use Rattle.chip_regs.specs.Width.{register_width}
use Rattle.board.specs.declared.part.Part.{Part}
use Rattle.board.specs.declared.part.Part.TheVariants.{Selector, Enable, ModePart, SuspendEnable, SuspendSelector}
use Rattle.board.specs.declared.table.Table.{Table}
use Rattle.board.specs.Desc.{described_field, IsPlaced, ArePlaced}
use Rattle.board.proofs.Exact.{FillsMask, low_holds}
use Rattle.pmic_tables.specs.declared.kind.Kind.{Kind}
use Rattle.pmic_tables.specs.declared.kind.Kind.TheVariants.{Buck, Ldo}
use Rattle.pmic_tables.specs.Sheet.{Line, line}
use Rattle.pmic_tables.specs.Rules.{field, bit, HasRoom, desc_of}
use Rattle.pmic_tables.specs.ChipDesc.{rail_of}
use Rattle.pmic_tables.specs.Sound.{IsSoundOn}

-- a field from bit 0 on, of so many bits
low_in : (chip reg width : ℕ) → 0 < width → width ≤ register_width → IsPlaced (chip + 1) (field chip reg (2 ^ width - 1) 0)
low_in chip reg width some within = record { shape = record { width = width; some_bit = some; within = omega arith; run = omega arith }; chip = omega arith }

bit_in : (chip first k : ℕ) → IsPlaced (chip + 1) (bit chip first k)
bit_in chip first k = record { shape = record { width = 1; some_bit = omega arith; within = omega arith; run = omega arith }; chip = omega arith }

modes_in : (chip k : ℕ) → k < 4 → IsPlaced (chip + 1) (field chip 0x30 (3 * 2 ^ (2 * k)) (2 * k))
modes_in chip k few = record { shape = record { width = 2; some_bit = omega arith; within = omega arith; run = refl }; chip = omega arith }

mask_in : (table : Table) (mask chip reg : ℕ) → FillsMask table mask → IsPlaced (chip + 1) (field chip reg mask 0)
mask_in table mask chip reg fills = rw fills.ones (low_in chip reg fills.width fills.some fills.within)

greatest-bit : (chip first k : ℕ) → greatest_of (bit chip first k) ≡ 1
greatest-bit chip first k = ap (λ mask. mask / 2 ^ (k % register_width)) (omega arith) ∙ shl-shr 1 (k % register_width)

module _ (chip sleep k : ℕ) (node supply : List ℕ) (table : Table) (register mask : ℕ) (fills : FillsMask table mask) where
  placed : (kind : Kind) → HasRoom k kind → ArePlaced (chip + 1) (desc_of chip sleep k (line node supply table register mask kind))
  placed kind room Selector = mask_in table mask chip register fills
  placed kind room Enable = bit_in chip 0x20 k
  placed (Buck ramp) room ModePart = modes_in chip k room
  placed (Ldo dropout) room ModePart = tt
  placed kind room SuspendEnable = bit_in chip sleep k
  placed kind room SuspendSelector = mask_in table mask chip (0x40 + k) fills

  own : (kind : Kind) (part : Part) → IfSome (described_field part (desc_of chip sleep k (line node supply table register mask kind))) (λ field. field.chip ≡ chip)
  own kind Selector = refl
  own kind Enable = refl
  own (Buck ramp) ModePart = refl
  own (Ldo dropout) ModePart = tt
  own kind SuspendEnable = refl
  own kind SuspendSelector = refl

  line_sound : (kind : Kind) → HasRoom k kind → IsSoundOn chip (desc_of chip sleep k (line node supply table register mask kind))
  line_sound (Buck ramp) room = record {
    sound = record {
      placed = placed (Buck ramp) room;
      selector = low_holds table chip register mask fills;
      enable = greatest-bit chip 0x20 k;
      suspend_enable = greatest-bit chip sleep k;
      modes = shl-shr 3 (2 * k);
    };
    own = own (Buck ramp);
    suspend_selector = low_holds table chip (0x40 + k) mask fills;
  }
  line_sound (Ldo dropout) room = record {
    sound = record {
      placed = placed (Ldo dropout) room;
      selector = low_holds table chip register mask fills;
      enable = greatest-bit chip 0x20 k;
      suspend_enable = greatest-bit chip sleep k;
      modes = tt;
    };
    own = own (Ldo dropout);
    suspend_selector = low_holds table chip (0x40 + k) mask fills;
  }

-- a line at its place has room there, and its values fill its mask
abbrev pub IsSoundAt : ℕ × Line → Type 0
IsSoundAt at = HasRoom at.0 at.1.kind × FillsMask at.1.table at.1.mask

-- sound lines make sound rails
pub lines_sound :
    (chip sleep k : ℕ) (lines : List Line) → AllByRecursion IsSoundAt (enumerate_from k lines)
    → AllByRecursion (λ rail. IsSoundOn chip rail.desc) (map (λ at. rail_of chip sleep at.0 at.1) (enumerate_from k lines))
lines_sound chip sleep k [] all = tt
lines_sound chip sleep k (l ∷ lines) all =
    (line_sound chip sleep k l.node l.supply l.table l.register l.mask all.0.1 l.kind all.0.0, lines_sound chip sleep (k + 1) lines all.1)
