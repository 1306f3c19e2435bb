-- The rails of a chip, from its description.
use Rattle.std.proofs.Common.{◌≡◌, ℕ, ◌+◌, ◌≤◌, ◌++◌, List, [], ◌∷◌, Bool, ◌&&◌, Option, Some, None, map, length, refl, sym, ap, ◌∙◌, arith, zero, suc, append_assoc}
use Rattle.std.specs.Prelude.{IsSomeAnd}
use Rattle.std.specs.List.{AllByRecursion, cons_option, enumerate_from, filter, filter_map, range_with_len}
use Rattle.std.specs.Option.{option_map, option_and_then}
use Rattle.std.proofs.lemmas.Bool.{cond_both, and_parts}
use Rattle.std.proofs.lemmas.List.{append-nil, map_push}
use Rattle.std.proofs.lemmas.List.Elements.{filter_map-append}
use Rattle.dts_tree.specs.Tree.{Node}
use Rattle.dts_nodes.specs.Use.{is_used, good_child_of}
use Rattle.pmic_tables.specs.declared.chip_desc.ChipDesc.{ChipDesc}
use Rattle.pmic_tables.specs.declared.chip_desc.ChipRail.{ChipRail}
use Rattle.pmic_tables.specs.Sheet.{Sheet, Line}
use Rattle.pmic_tables.specs.ChipDesc.{SeenRail, seen, rail_of, IsDescribed}
use Rattle.board_nodes.specs.declared.draft.Draft.{Draft}
use Rattle.board_nodes.specs.Chips.{sheet_at, is_fixed, chip_nodes, fixed_nodes, regulators_of}
use Rattle.board_nodes.specs.Rails.{Found, chip_rail, rails_at}
use Rattle.board_nodes.specs.Inside.Drafts.{found_in, found_below}
use Rattle.board_nodes.specs.Inside.Outline.{IsThere}

-- ---- nodes that are kept are in use

all-there : (nodes : List Node) (q : ℕ → Bool) (a len : ℕ) → a + len ≤ length nodes → AllByRecursion (IsThere nodes) (filter (λ node. is_used nodes node && q node) (range_with_len a len))
all-there nodes q a zero within = tt
all-there nodes q a (suc len) within =
    let rest = all-there nodes q (a + 1) len (omega (arith, within)) in
    cond_both (is_used nodes a && q a) (a ∷ filter (λ node. is_used nodes node && q node) (range_with_len (a + 1) len)) (filter (λ node. is_used nodes node && q node) (range_with_len (a + 1) len)) (AllByRecursion (IsThere nodes))
    (λ kept. (record { inside = omega (arith, within); used = (and_parts (is_used nodes a) (q a) kept).0 }, rest))
    (λ left. rest)

pub chips-there : (nodes : List Node) → AllByRecursion (IsThere nodes) (chip_nodes nodes)
chips-there nodes = all-there nodes _ 0 (length nodes) (omega arith)

pub fixed-there : (nodes : List Node) → AllByRecursion (IsThere nodes) (fixed_nodes nodes)
fixed-there nodes = all-there nodes (is_fixed nodes) 0 (length nodes) (omega arith)

-- ---- one rail more

module _ (g : SeenRail → Option Found) (before : List Found) (xs : List ChipRail) (x : ChipRail) where
  more : (o : Option Found) → g (seen x) ≡ o → filter_map g (map seen (xs ++ x ∷ [])) ≡ filter_map g (map seen xs) ++ cons_option o []
  more o is = ap (filter_map g) (map_push seen xs x) ∙ filter_map-append g (map seen xs) (seen x ∷ []) ∙ ap (λ (p : Option Found). filter_map g (map seen xs) ++ cons_option p []) is

  pub put-more : (old new : List Draft) (d : Draft) → new ≡ old ++ d ∷ [] → map found_in old ≡ before ++ filter_map g (map seen xs) → g (seen x) ≡ Some (found_in d)
      → map found_in new ≡ before ++ filter_map g (map seen (xs ++ x ∷ []))
  put-more old new d is kept fits =
      ap (map found_in) is ∙ map_push found_in old d
      ∙ ap (λ (fs : List Found). fs ++ found_in d ∷ []) kept
      ∙ append_assoc before (filter_map g (map seen xs)) (found_in d ∷ [])
      ∙ ap (λ (fs : List Found). before ++ fs) (sym (more (Some (found_in d)) fits))

  pub put-none : (old : List Draft) → map found_in old ≡ before ++ filter_map g (map seen xs) → g (seen x) ≡ None → map found_in old ≡ before ++ filter_map g (map seen (xs ++ x ∷ []))
  put-none old kept fits = kept ∙ ap (λ (fs : List Found). before ++ fs) (sym (append-nil (filter_map g (map seen xs))) ∙ sym (more None fits))

-- ---- the rails of a whole chip

module _ (nodes : List Node) (number node : ℕ) (sheet : Sheet) where
  abbrev picked : Option ℕ → ℕ × Line → Option Found
  picked o line = option_map (chip_rail nodes number node sheet line.0 line.1) (option_and_then (λ regulators. good_child_of nodes regulators line.1.node) o)

  fused : (regulators : ℕ) (lines : List (ℕ × Line))
      → filter_map (found_below nodes node regulators) (map (λ at. rail_of number sheet.sleep at.0 at.1) lines) ≡ filter_map (picked (Some regulators)) lines
  fused regulators [] = refl
  fused regulators (line ∷ lines) = ap (cons_option (picked (Some regulators) line)) (fused regulators lines)

  none_picked : (lines : List (ℕ × Line)) → filter_map (picked None) lines ≡ []
  none_picked [] = refl
  none_picked (line ∷ lines) = none_picked lines

module _ (nodes : List Node) (number node : ℕ) (desc : ChipDesc) where
  by_sheet : (o : Option Sheet) (regulators : ℕ) → sheet_at nodes node ≡ o → IsSomeAnd o (λ sheet. IsDescribed number sheet desc) → regulators_of nodes node ≡ Some regulators
      → filter_map (found_below nodes node regulators) (map seen desc.rails) ≡ rails_at nodes number node
  by_sheet None regulators is described there = absurd described
  by_sheet (Some sheet) regulators is described there =
      ap (filter_map (found_below nodes node regulators)) described.rails
      ∙ fused nodes number node sheet regulators (enumerate_from 0 sheet.lines)
      ∙ ap (λ (o : Option ℕ). filter_map (picked nodes number node sheet o) (enumerate_from 0 sheet.lines)) (sym there)
      ∙ sym (rw is (append-nil (filter_map (picked nodes number node sheet (regulators_of nodes node)) (enumerate_from 0 sheet.lines))))

  none_by_sheet : (o : Option Sheet) → sheet_at nodes node ≡ o → IsSomeAnd o (λ sheet. IsDescribed number sheet desc) → regulators_of nodes node ≡ None → rails_at nodes number node ≡ []
  none_by_sheet None is described there = absurd described
  none_by_sheet (Some sheet) is described there =
      rw is (append-nil (filter_map (picked nodes number node sheet (regulators_of nodes node)) (enumerate_from 0 sheet.lines)))
      ∙ ap (λ (o : Option ℕ). filter_map (picked nodes number node sheet o) (enumerate_from 0 sheet.lines)) there
      ∙ none_picked nodes number node sheet (enumerate_from 0 sheet.lines)

  pub rails_below : (regulators : ℕ) → IsSomeAnd (sheet_at nodes node) (λ sheet. IsDescribed number sheet desc) → regulators_of nodes node ≡ Some regulators
      → filter_map (found_below nodes node regulators) (map seen desc.rails) ≡ rails_at nodes number node
  rails_below regulators = by_sheet (sheet_at nodes node) regulators refl

  pub rails_at-none : IsSomeAnd (sheet_at nodes node) (λ sheet. IsDescribed number sheet desc) → regulators_of nodes node ≡ None → rails_at nodes number node ≡ []
  rails_at-none = none_by_sheet (sheet_at nodes node) refl
