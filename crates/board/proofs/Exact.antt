-- The selectors with a value of each kind of table, and the fields that hold them.
use Rattle.std.proofs.Common.{◌≡◌, ℕ, ◌+◌, ◌-◌, ◌^◌, ◌<◌, ◌≤◌, List, [], ◌∷◌, length, refl, arith, inl, inr}
use Rattle.std.proofs.Math.Nat.{div-one}
use Rattle.std.specs.Prelude.{◌↔◌, IsSome}
use Rattle.std.proofs.lemmas.Bool.Decides.{nat_tests}
use Rattle.std.proofs.lemmas.Option.{slice_get_cases}
use Rattle.chip_regs.specs.Width.{register_width}
use Rattle.linear_range.specs.declared.linear_range.LinearRange.{LinearRange}
use Rattle.board.specs.declared.table.Table.{Table}
use Rattle.board.specs.declared.table.Table.TheVariants.{Ranges, List as Listed}
use Rattle.board.specs.Table.{uv_of}
use Rattle.board.specs.Desc.{HoldsSelectors}

-- the selectors with a value are those up to `last`
abbrev pub HasSelectors : Table → ℕ → Type 0
HasSelectors table last = (sel : ℕ) → (sel ≤ last) ↔ IsSome (uv_of table sel)

abbrev pub range : ℕ → ℕ → ℕ → ℕ → LinearRange
range min step first last = record { min = min; min_sel = first; max_sel = last; step = step }

pub one_has : (min step last : ℕ) → HasSelectors (Ranges (range min step 0 last ∷ [])) last
one_has min step last sel = grind (arith, nat_tests)

pub two_has : (min step mid other slope next last : ℕ) → next ≡ mid + 1 → next ≤ last → HasSelectors (Ranges (range min step 0 mid ∷ range other slope next last ∷ [])) last
two_has min step mid other slope next last after behind sel = grind (arith, nat_tests)

pub listed_has : (uvs : List ℕ) (last : ℕ) → length uvs ≡ last + 1 → HasSelectors (Listed uvs) last
listed_has uvs last long sel =
    elim ((slice_get_cases uvs sel).1) [
      | inl (x, within, is, read) ↦ rw is (λ _. refl, λ _. omega arith)
      | inr (past, is) ↦ rw is (λ low. absurd (omega arith), λ some. absurd (cc))
    ]

-- the list of a table by a list
abbrev pub entries_of : Table → List ℕ
entries_of (Ranges ranges) = []
entries_of (Listed uvs) = uvs

-- the table has a value for each pattern of a mask, which is a run of ones from bit 0 on
pub record FillsMask (table : Table) (mask : ℕ) : Type 0 where
  pub width : ℕ
  pub some : 0 < width
  pub within : width ≤ register_width
  pub ones : mask ≡ 2 ^ width - 1
  pub has : HasSelectors table mask

-- so the field of that mask holds its selectors
pub low_holds : (table : Table) (chip reg mask : ℕ) → FillsMask table mask → HoldsSelectors table (record { chip = chip; reg = reg; mask = mask; shift = 0 })
low_holds table chip reg mask fills n = rw div-one (fills.has n)
