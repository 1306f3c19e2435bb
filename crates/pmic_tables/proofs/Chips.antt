-- The three chips are sound, and their fields are apart.
use Rattle.std.proofs.Common.{◌≡◌, ℕ, true, List, [], ◌∷◌, map, refl, sym, subst, ◌∙◌, ap, arith}
use Rattle.std.specs.List.{AllByRecursion, flat_map, enumerate_from}
use Rattle.std.proofs.lemmas.List.Elements.{All-from_recursion}
use Rattle.std.proofs.lemmas.List.Folds.{flat_map-map}
use Rattle.chip_regs.specs.declared.field.Field.{Field}
use Rattle.chip_regs.specs.Clash.{NoneClash}
use Rattle.pmic_tables.specs.declared.chip_desc.ChipDesc.{ChipDesc}
use Rattle.pmic_tables.specs.Sheet.{Sheet}
use Rattle.pmic_tables.specs.ChipDesc.{SeenRail, seen, rails_of, IsDescribed}
use Rattle.pmic_tables.specs.Sound.{fields_of, IsSoundOn, AreSound, AreApart}
use Rattle.pmic_tables.specs.Pm4.{pm4, core as core4, io as io4, usb as usb4}
use Rattle.pmic_tables.specs.Pm8.{pm8, core as core8, memory as memory8, linear as linear8}
use Rattle.pmic_tables.specs.Pm12.{pm12, core as core12, linear as linear12, various as various12}
use Rattle.board.proofs.Exact.{FillsMask, one_has, two_has, listed_has, entries_of}
use Rattle.pmic_tables.proofs.SoundLine.{IsSoundAt, lines_sound}
use Rattle.board.proofs.Apart.{apart, all_pairs, none_clash}

unmapped : {X Y : Type 0} (P : Y → Type 0) (f : X → Y) (xs : List X) → AllByRecursion P (map f xs) → AllByRecursion (λ x. P (f x)) xs
unmapped P f [] all = tt
unmapped P f (x ∷ xs) all = (all.0, unmapped P f xs all.1)

sound_of : (chip : ℕ) (sheet : Sheet) (desc : ChipDesc) → IsDescribed chip sheet desc → AllByRecursion IsSoundAt (enumerate_from 0 sheet.lines) → AreSound chip desc
sound_of chip sheet desc is lines =
    let P : SeenRail → Type 0 = λ rail. IsSoundOn chip rail.desc in
    let all : AllByRecursion P (map seen desc.rails) = subst (AllByRecursion P) (sym is.rails) (lines_sound chip sheet.sleep 0 sheet.lines lines) in
    All-from_recursion (λ rail. P (seen rail)) desc.rails (unmapped P seen desc.rails all)

-- the fields of a sheet's rails
abbrev fields_in : ℕ → Sheet → List Field
fields_in chip sheet = flat_map (λ rail. fields_of rail.desc) (rails_of chip sheet)

apart_of : (chip : ℕ) (sheet : Sheet) (desc : ChipDesc) → IsDescribed chip sheet desc → all_pairs apart (fields_in chip sheet) ≡ true → AreApart desc
apart_of chip sheet desc is tested =
    let fields : SeenRail → List Field = λ rail. fields_of rail.desc in
    let same : flat_map fields (rails_of chip sheet) ≡ flat_map (λ rail. fields_of rail.desc) desc.rails =
    ap (flat_map fields) (sym is.rails) ∙ flat_map-map fields seen desc.rails in
    subst NoneClash same (none_clash (fields_in chip sheet) tested)

core4_fills : FillsMask core4 0x7f
core4_fills = record { width = 7; some = omega arith; within = omega arith; ones = refl; has = one_has 600000 6250 127 }

io4_fills : FillsMask io4 0x1f
io4_fills = record { width = 5; some = omega arith; within = omega arith; ones = refl; has = two_has 800000 50000 15 1600000 100000 16 31 refl (omega arith) }

usb4_fills : FillsMask usb4 0x07
usb4_fills = record { width = 3; some = omega arith; within = omega arith; ones = refl; has = listed_has (entries_of usb4) 7 refl }

pub core8_fills : FillsMask core8 0x7f
core8_fills = record { width = 7; some = omega arith; within = omega arith; ones = refl; has = one_has 500000 10000 127 }

memory8_fills : FillsMask memory8 0x3f
memory8_fills = record { width = 6; some = omega arith; within = omega arith; ones = refl; has = one_has 800000 25000 63 }

pub linear8_fills : FillsMask linear8 0x1f
linear8_fills = record { width = 5; some = omega arith; within = omega arith; ones = refl; has = one_has 900000 100000 31 }

core12_fills : FillsMask core12 0x7f
core12_fills = record { width = 7; some = omega arith; within = omega arith; ones = refl; has = two_has 600000 12500 63 1400000 25000 64 127 refl (omega arith) }

linear12_fills : FillsMask linear12 0x3f
linear12_fills = record { width = 6; some = omega arith; within = omega arith; ones = refl; has = one_has 800000 50000 63 }

various12_fills : FillsMask various12 0x0f
various12_fills = record { width = 4; some = omega arith; within = omega arith; ones = refl; has = listed_has (entries_of various12) 15 refl }

-- the lines of a sheet are sound
abbrev SoundLines : Sheet → Type 0
SoundLines sheet = AllByRecursion IsSoundAt (enumerate_from 0 sheet.lines)

pm4_lines : SoundLines pm4
unfolding pm4
pm4_lines =
    ((omega arith, core4_fills), ((omega arith, core4_fills), ((omega arith, io4_fills), ((omega arith, usb4_fills), tt))))

pm8_lines : SoundLines pm8
unfolding pm8
pm8_lines = (
  (omega arith, core8_fills),
  (
    (omega arith, core8_fills),
    (
      (omega arith, memory8_fills),
      (
        (omega arith, memory8_fills),
        ((omega arith, linear8_fills), ((omega arith, linear8_fills), ((omega arith, linear8_fills), ((omega arith, linear8_fills), tt)))),
      ),
    ),
  ),
)

pm12_lines : SoundLines pm12
unfolding pm12
pm12_lines = (
  (omega arith, core12_fills),
  (
    (omega arith, core12_fills),
    (
      (omega arith, core12_fills),
      (
        (omega arith, core12_fills),
        (
          (omega arith, linear12_fills),
          (
            (omega arith, linear12_fills),
            (
              (omega arith, linear12_fills),
              (
                (omega arith, linear12_fills),
                ((omega arith, various12_fills), ((omega arith, various12_fills), ((omega arith, various12_fills), ((omega arith, various12_fills), tt)))),
              ),
            ),
          ),
        ),
      ),
    ),
  ),
)

pm4_fields : (chip : ℕ) → all_pairs apart (fields_in chip pm4) ≡ true
unfolding pm4
pm4_fields chip = refl

pm8_fields : (chip : ℕ) → all_pairs apart (fields_in chip pm8) ≡ true
unfolding pm8
pm8_fields chip = refl

pm12_fields : (chip : ℕ) → all_pairs apart (fields_in chip pm12) ≡ true
unfolding pm12
pm12_fields chip = refl

pub pm4_sound : (chip : ℕ) (desc : ChipDesc) → IsDescribed chip pm4 desc → AreSound chip desc
pm4_sound chip desc is = sound_of chip pm4 desc is pm4_lines

pub pm8_sound : (chip : ℕ) (desc : ChipDesc) → IsDescribed chip pm8 desc → AreSound chip desc
pm8_sound chip desc is = sound_of chip pm8 desc is pm8_lines

pub pm12_sound : (chip : ℕ) (desc : ChipDesc) → IsDescribed chip pm12 desc → AreSound chip desc
pm12_sound chip desc is = sound_of chip pm12 desc is pm12_lines

pub pm4_apart : (chip : ℕ) (desc : ChipDesc) → IsDescribed chip pm4 desc → AreApart desc
pm4_apart chip desc is = apart_of chip pm4 desc is (pm4_fields chip)

pub pm8_apart : (chip : ℕ) (desc : ChipDesc) → IsDescribed chip pm8 desc → AreApart desc
pm8_apart chip desc is = apart_of chip pm8 desc is (pm8_fields chip)

pub pm12_apart : (chip : ℕ) (desc : ChipDesc) → IsDescribed chip pm12 desc → AreApart desc
pm12_apart chip desc is = apart_of chip pm12 desc is (pm12_fields chip)
