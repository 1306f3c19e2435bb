-- The rails of a tree's board have values within their bounds, and its resets are of its chips.
use Rattle.std.proofs.Common.{◌≡◌, ◌≢◌, ℕ, ◌<◌, Bool, true, false, cond, not, ◌&&◌, List, [], ◌∷◌, Option, None, Some, refl, sym, ap, subst, arith, map, filter, flat_map, option_to_list, slice_get, All, IfSome}
use Rattle.std.specs.List.{enumerate_from, list_any}
use Rattle.std.specs.Option.{option_map}
use Rattle.std.proofs.lemmas.Bool.{not-false}
use Rattle.std.proofs.lemmas.List.Elements.{All-nil, All-head, All-tail, All-append, All-map}
use Rattle.std.proofs.lemmas.Option.{slice_get_within}
use Rattle.board.specs.declared.board.Board.{Board}
use Rattle.board.specs.declared.table.Table.{Table}
use Rattle.board.specs.Rail.{is_within}
use Rattle.board.specs.Table.{values_of}
use Rattle.dts_tree.specs.Tree.{Node}
use Rattle.dts_nodes.specs.Firsts.{when}
use Rattle.dts_nodes.specs.Forms.{is_wrong}
use Rattle.constraints.specs.declared.fault.RailFault.TheVariants.{OneBound, Reversed, FixedRange, NoValueInside}
use Rattle.constraints.specs.declared.prop.Prop.TheVariants.{Supply}
use Rattle.constraints.specs.Bounds.{least_bound, greatest_bound, given_bounds, bounds_at, is_one_bound, is_reversed, is_range, has_no_value_inside}
use Rattle.constraints.specs.Faults.{bounds_fault, form_fault, value_fault}
use Rattle.pmic_tables.specs.Sheet.{Sheet}
use Rattle.board_nodes.specs.Chips.{chip_nodes, chip_count, chip_resets, resets_of, sheet_at}
use Rattle.board_nodes.specs.Faults.{nodes_fault}
use Rattle.board_nodes.specs.Rails.{Found, rails_in}
use Rattle.board_draft.specs.declared.fault.BoardFault.{BoardFault}
use Rattle.board_draft.specs.declared.fault.BoardFault.TheVariants.{BadCells}
use Rattle.board_draft.specs.Fault.{of_nodes, of_rail}
use Rattle.board_draft.specs.Faults.{is_fixed_rail, rail_fault, rail_faults, link_fault, first_fault}
use Rattle.board_draft.specs.Links.{supply_form}
use Rattle.board_draft.specs.Sketch.{rail_at, sketch_of, trimmed, IsBoardOf}
use Rattle.board_draft.proofs.SoundLists.{none-option_map, none-option_or, none-when, none-first_of, all_from_map, all-map, all-flat_map, from_numbered, to_numbered}
use Rattle.board_load.specs.Loading.{HasValueInside}
use Rattle.board_load.specs.Registers.{NameChips}

-- what passes is kept of the images
kept_mapped : {X Y : Type 0} (f : X → Y) (test : Y → Bool) (xs : List X) → list_any (λ x. test (f x)) xs ≡ true → filter test (map f xs) ≢ []
kept_mapped f test [] some = absurd (cc)
kept_mapped f test (x ∷ xs) some =
    (elim (test (f x)) as (λ b. test (f x) ≡ b → cond b (f x ∷ filter test (map f xs)) (filter test (map f xs)) ≢ []) [
      | true ↦ λ _ none. absurd (cc)
      | false ↦ λ fails. kept_mapped f test xs (cc)
    ]) refl

-- a value of a table within bounds is there where it isn't told to lack
some_inside : (bounds : Option (ℕ × ℕ)) (table : Table) → has_no_value_inside bounds table ≡ false
    → IfSome bounds (λ pair. filter (is_within (Some pair)) (map (λ p. p.1) (values_of table)) ≢ [])
some_inside None table fine = tt
some_inside (Some pair) table fine = kept_mapped (λ p. p.1) (is_within (Some pair)) (values_of table) (not-false _ fine)

-- a node without a fault of its values has one within its bounds
none_lacks : (nodes : List Node) (r : ℕ) (found : Found) → value_fault nodes found.node r found.desc (is_fixed_rail found) ≡ None → has_no_value_inside (bounds_at nodes found.node) found.desc.table ≡ false
none_lacks nodes r found none =
    let least : ℕ = least_bound nodes found.node in
    let greatest : ℕ = greatest_bound nodes found.node in
    let fixed : Bool = is_fixed_rail found in
    let of_bounds = none-option_or (bounds_fault nodes found.node r found.desc.table fixed) _ none in
    let one_bound = none-option_or (when (not fixed && is_one_bound least greatest) (OneBound r)) _ of_bounds.0 in
    let reversed = none-option_or (when (not fixed && is_reversed least greatest) (Reversed r)) _ one_bound.1 in
    let fixed_range = none-option_or (when (fixed && is_range least greatest) (FixedRange r)) _ reversed.1 in
    let inside = none-option_or (when (has_no_value_inside (given_bounds least greatest) found.desc.table) (NoValueInside r)) None fixed_range.1 in
    none-when (has_no_value_inside (given_bounds least greatest) found.desc.table) (NoValueInside r) inside.0

module _ (nodes : List Node) where
  abbrev found_rails : List Found
  found_rails = rails_in nodes

  no_value_fault : rail_faults nodes found_rails ≡ None → (r : ℕ) (found : Found) → slice_get found_rails r ≡ Some found → value_fault nodes found.node r found.desc (is_fixed_rail found) ≡ None
  no_value_fault none r found is =
      let faults : List (Option BoardFault) = map (λ rail. rail_fault nodes rail.0 rail.1) (enumerate_from 0 found_rails) in
      let each : rail_fault nodes r found ≡ None = from_numbered (λ r found. rail_fault nodes r found ≡ None) found_rails r found
      (all_from_map (λ o. o ≡ None) (λ rail. rail_fault nodes rail.0 rail.1) (enumerate_from 0 found_rails) (none-first_of faults none)) is in
      let behind_forms = (none-option_or (option_map of_rail (form_fault nodes found.node r found.desc)) _ each).1 in
      let behind_supply = (none-option_or (when (is_wrong (supply_form nodes found)) (BadCells r Supply)) _ behind_forms).1 in
      none-option_map of_rail (value_fault nodes found.node r found.desc (is_fixed_rail found))
      (none-option_or (option_map of_rail (value_fault nodes found.node r found.desc (is_fixed_rail found))) None behind_supply).0

  no_rail_fault : first_fault nodes ≡ None → rail_faults nodes found_rails ≡ None
  no_rail_fault none =
      let behind_nodes = (none-option_or (option_map of_nodes (nodes_fault nodes)) _ none).1 in
      let links = (none-option_or (link_fault nodes found_rails) _ behind_nodes).0 in
      (none-option_or (rail_faults nodes found_rails) _ links).0

  sketch_has_values : first_fault nodes ≡ None → All HasValueInside (sketch_of nodes).rails
  sketch_has_values none =
      All-map HasValueInside (λ rail. rail_at nodes found_rails rail.0 rail.1) (enumerate_from 0 found_rails)
      (to_numbered (λ r found. HasValueInside (rail_at nodes found_rails r found)) found_rails
      (λ r found is. some_inside (bounds_at nodes found.node) found.desc.table (none_lacks nodes r found (no_value_fault (no_rail_fault none) r found is))))

pub drafts_have_values : (nodes : List Node) (board : Board) → first_fault nodes ≡ None → IsBoardOf nodes board → All HasValueInside board.rails
drafts_have_values nodes board none is =
    let rails : map trimmed board.rails ≡ (sketch_of nodes).rails = ap (λ (b : Board). b.rails) is in
    all_from_map HasValueInside trimmed board.rails (subst (All HasValueInside) (sym rails) (sketch_has_values nodes none))

-- what each element brings holds of all that they bring
all_brought : {X Y : Type 0} (P : Y → Type 0) (f : X → List Y) (xs : List X) → All (λ x. All P (f x)) xs → All P (flat_map f xs)
all_brought P f [] all = All-nil P
all_brought P f (x ∷ xs) all = All-append P (f x) (flat_map f xs) (All-head (λ x. All P (f x)) x xs all) (all_brought P f xs (All-tail (λ x. All P (f x)) x xs all))

chip_resets_name : (nodes : List Node) (chips chip node : ℕ) → chip < chips → NameChips chips (chip_resets nodes chip node)
chip_resets_name nodes chips chip node below =
    all-flat_map {X = Sheet} (λ new. new.0 < chips) (λ sheet. map (λ reset. (chip, reset.0, reset.1)) sheet.resets) (option_to_list (sheet_at nodes node)) (λ sheet. all-map (λ new. new.0 < chips) (λ reset. (chip, reset.0, reset.1)) sheet.resets (λ reset. below))

pub resets_name_chips : (nodes : List Node) (board : Board) → IsBoardOf nodes board → NameChips board.chips (resets_of nodes)
resets_name_chips nodes board is =
    let chips : board.chips ≡ chip_count nodes = ap (λ (b : Board). b.chips) is in
    let found = chip_nodes nodes in
    subst (λ n. NameChips n (resets_of nodes)) (sym chips)
    (all_brought (λ new. new.0 < chip_count nodes) (λ chip. chip_resets nodes chip.0 chip.1) (enumerate_from 0 found)
    (to_numbered (λ chip node. NameChips (chip_count nodes) (chip_resets nodes chip node)) found
    (λ chip node there. chip_resets_name nodes (chip_count nodes) chip node (omega (arith, slice_get_within found chip node there)))))
