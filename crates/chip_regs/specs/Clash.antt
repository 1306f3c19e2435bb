use Rattle.std.specs.Prelude.{ℕ, ◌≡◌, ◌≢◌, ◌<◌, ◌≤◌, ◌⊎◌, List, Some, slice_get}
use Rattle.chip_regs.specs.declared.field.Field.{Field}
use Rattle.chip_regs.specs.declared.clash.Clash.{Clash}
use Rattle.chip_regs.specs.Field.{SharesBit}

-- the fields at two places of the list, one before the other, share a bit
pub record ClashesAt (fields : List Field) (first second : ℕ) : Type 0 where
  pub before : first < second
  pub one : Field
  pub other : Field
  pub at_first : slice_get fields first ≡ Some one
  pub at_second : slice_get fields second ≡ Some other
  pub shared : SharesBit one other

-- no two fields of the list share a bit
abbrev pub NoneClash : List Field → Type 0
NoneClash fields =
    (i j : ℕ) (f g : Field) → i ≢ j → slice_get fields i ≡ Some f → slice_get fields j ≡ Some g → ¬ SharesBit f g

-- the fields at these places share a bit, and every other two that do come later
pub record IsFirstClash (fields : List Field) (clash : Clash) : Type 0 where
  pub clashes : ClashesAt fields clash.first clash.second
  pub least :
      (first second : ℕ) → ClashesAt fields first second
      → (clash.first < first) ⊎ ((clash.first ≡ first) × (clash.second ≤ second))
