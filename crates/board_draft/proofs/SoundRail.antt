-- A rail whose node has no fault is sound.
use Rattle.std.proofs.Common.{◌≡◌, ◌≢◌, ℕ, Bool, true, false, cond, not, ◌&&◌, ◌==◌, List, [], ◌∷◌, Option, None, Some, refl, sym, ap, subst, ◌∙◌, arith, map, filter, Contains, All, IfSome, IsSome}
use Rattle.std.specs.List.{list_any}
use Rattle.std.specs.Option.{is_some, option_map, option_map_or}
use Rattle.std.proofs.lemmas.Bool.{and_parts, not-false, le-ltb, eqb-true, false≢true}
use Rattle.std.proofs.lemmas.List.Folds.{Any-from_list_any}
use Rattle.linear_range.proofs.Listed as ranges
use Rattle.voltage_table.proofs.Listed as lists
use Rattle.chip_regs.specs.declared.field.Field.{Field}
use Rattle.board.specs.declared.desc.Desc.{Desc}
use Rattle.board.specs.declared.rail.Rail.{Rail}
use Rattle.board.specs.declared.sleep.Sleep.{Sleep}
use Rattle.board.specs.declared.table.Table.{Table}
use Rattle.board.specs.declared.table.Table.TheVariants.{Ranges, List as Listed}
use Rattle.board.specs.Table.{uv_of, values_of}
use Rattle.board.specs.Desc.{HoldsSelectors, IsSoundDesc}
use Rattle.board.specs.Rail.{is_within, allowed}
use Rattle.board.specs.Valid.{is_span, HasSelector, SleepsWell, IsSoundRail}
use Rattle.dts_tree.specs.Tree.{Node}
use Rattle.constraints.specs.declared.fault.RailFault.TheVariants.{OneBound, Reversed, FixedRange, NoValueInside, BadMode, SuspendValue}
use Rattle.constraints.specs.Bounds.{least_bound, greatest_bound, given_bounds, bounds_at, is_one_bound, is_reversed, is_range, has_no_value_inside}
use Rattle.constraints.specs.ModeCells.{bad_mode}
use Rattle.constraints.specs.Sleeps.{is_out_of, is_bad_sleep, has_bad_sleep, has_bad_suspend, sleeps_at}
use Rattle.dts_nodes.specs.Firsts.{when}
use Rattle.constraints.specs.Faults.{bounds_fault, value_fault}
use Rattle.board_nodes.specs.Rails.{Found}
use Rattle.board_draft.specs.Faults.{is_fixed_rail}
use Rattle.board_draft.specs.Sketch.{rail_at}
use Rattle.board_draft.proofs.SoundLists.{some_from, none-option_or, none-when, none-list_any, some_kept}

-- a pair of a table is the value of its selector
listed_value : (table : Table) (sel uv : ℕ) → Contains (values_of table) (sel, uv) → uv_of table sel ≡ Some uv
listed_value (Ranges rs) sel uv has = (ranges.lists_values rs sel uv).0 has
listed_value (Listed uvs) sel uv has = (lists.lists_values uvs sel uv).0 has

-- a value that isn't out of a table has a selector that fits a field as wide as the table
fitting_selector : (rail : Rail) (field : Field) (bounds : Option (ℕ × ℕ)) (uv : ℕ) → HoldsSelectors rail.desc.table field
    → is_out_of rail.desc.table bounds uv ≡ false → HasSelector rail field uv
fitting_selector rail field bounds uv holds fine =
    let listed : list_any (λ pair. pair.1 == uv) (values_of rail.desc.table) ≡ true = (and_parts _ _ (not-false _ fine)).0 in
    let found = Any-from_list_any (λ pair. pair.1 == uv) (values_of rail.desc.table) listed in
    let pair : ℕ × ℕ = found.1 in
    let value : uv_of rail.desc.table pair.0 ≡ Some pair.1 = listed_value rail.desc.table pair.0 pair.1 (found.0, found.2, found.3) in
    let same : pair.1 ≡ uv = eqb-true pair.1 uv found.4 in
    let is : uv_of rail.desc.table pair.0 ≡ Some uv = value ∙ ap Some same in
    record { sel = pair.0; value = is; fits = (holds pair.0).1 (ap is_some is) }

-- a sleep that isn't bad has values with selectors
good_sleep : (rail : Rail) (bounds : Option (ℕ × ℕ)) (sleep : Option Sleep) → IfSome rail.desc.suspend_selector (HoldsSelectors rail.desc.table)
    → ((field : Field) → rail.desc.suspend_selector ≡ Some field → is_bad_sleep rail.desc.table bounds sleep ≡ false) → SleepsWell rail sleep
good_sleep rail bounds None holds fine = tt
good_sleep rail bounds (Some sleep) holds fine =
    some_from sleep.uv (λ uv. IfSome rail.desc.suspend_selector (λ field. HasSelector rail field uv))
    (λ uv value. some_from rail.desc.suspend_selector (λ field. HasSelector rail field uv)
    (λ field is. fitting_selector rail field bounds uv
    (subst (λ o. IfSome o (HoldsSelectors rail.desc.table)) is holds)
    (ap (λ o. option_map_or (is_out_of rail.desc.table bounds) o false) (sym value) ∙ fine field is)))

-- with a suspended selector no sleep is bad
none_bad : (desc : Desc) (bounds : Option (ℕ × ℕ)) (sleeps : List (Option Sleep)) (field : Field) → has_bad_sleep desc bounds sleeps ≡ false
    → desc.suspend_selector ≡ Some field → All (λ sleep. is_bad_sleep desc.table bounds sleep ≡ false) sleeps
none_bad desc bounds sleeps field fine is =
    none-list_any (is_bad_sleep desc.table bounds) sleeps
    (ap (λ o. is_some o && list_any (is_bad_sleep desc.table bounds) sleeps) (sym is) ∙ fine)

-- equal bounds leave no room
no_room : (least greatest : ℕ) → is_range least greatest ≡ false → is_span (given_bounds least greatest) ≡ false
no_room least greatest fixed =
    let same : least ≡ greatest = eqb-true least greatest (not-false _ fixed) in
    elim (least == 0 && greatest == 0) as (λ b. is_span (cond b None (Some (least, greatest))) ≡ false) [
      | true ↦ refl
      | false ↦ le-ltb least greatest (omega arith)
    ]

-- bounds that leave room are given
span_given : (bounds : Option (ℕ × ℕ)) → is_span bounds ≡ true → is_some bounds ≡ true
span_given None span = absurd (cc)
span_given (Some pair) span = refl

-- there is a value that the rail may stand at
some_allowed : (rail : Rail) → rail.changeable ≡ is_span rail.limits.bounds → has_no_value_inside rail.limits.bounds rail.desc.table ≡ false → allowed rail ≢ []
some_allowed rail changeable some =
    (elim rail.changeable as (λ b. rail.changeable ≡ b
    → map (λ (pair : ℕ × ℕ). pair.1) (cond b (filter (λ pair. is_within rail.limits.bounds pair.1) (values_of rail.desc.table)) ((0, rail.kept_uv) ∷ [])) ≢ []) [
      | true ↦ λ changes.
          let given : is_some rail.limits.bounds ≡ true = span_given rail.limits.bounds (sym changeable ∙ changes) in
          let none_outside : not (list_any (λ pair. is_within rail.limits.bounds pair.1) (values_of rail.desc.table)) ≡ false =
          ap (λ b. b && not (list_any (λ pair. is_within rail.limits.bounds pair.1) (values_of rail.desc.table))) (sym given) ∙ some in
          some_kept (λ pair. pair.1) (λ pair. is_within rail.limits.bounds pair.1) (values_of rail.desc.table) (not-false _ none_outside)
      | false ↦ λ _ none. absurd (cc)
    ]) refl

-- what a node without a fault of its values says
record HasNoValueFault (nodes : List Node) (found : Found) : Type 0 where
  fixed : is_fixed_rail found ≡ true → is_range (least_bound nodes found.node) (greatest_bound nodes found.node) ≡ false
  some_value : has_no_value_inside (bounds_at nodes found.node) found.desc.table ≡ false
  sleeps : has_bad_sleep found.desc (bounds_at nodes found.node) (sleeps_at nodes found.node) ≡ false

no_value_fault : (nodes : List Node) (r : ℕ) (found : Found) → value_fault nodes found.node r found.desc (is_fixed_rail found) ≡ None → HasNoValueFault nodes found
no_value_fault nodes r found none =
    let least : ℕ = least_bound nodes found.node in
    let greatest : ℕ = greatest_bound nodes found.node in
    let fixed : Bool = is_fixed_rail found in
    let of_bounds = none-option_or (bounds_fault nodes found.node r found.desc.table fixed) _ none in
    let of_modes = none-option_or (option_map (λ n. BadMode r n) (bad_mode nodes found.node found.desc)) _ of_bounds.1 in
    let of_sleeps = none-option_or (when (has_bad_suspend nodes found.node found.desc) (SuspendValue r)) None of_modes.1 in
    let one_bound = none-option_or (when (not fixed && is_one_bound least greatest) (OneBound r)) _ of_bounds.0 in
    let reversed = none-option_or (when (not fixed && is_reversed least greatest) (Reversed r)) _ one_bound.1 in
    let fixed_range = none-option_or (when (fixed && is_range least greatest) (FixedRange r)) _ reversed.1 in
    let inside = none-option_or (when (has_no_value_inside (given_bounds least greatest) found.desc.table) (NoValueInside r)) None fixed_range.1 in
    record {
      fixed = λ is. ap (λ b. b && is_range least greatest) (sym is) ∙ none-when (fixed && is_range least greatest) (FixedRange r) fixed_range.0;
      some_value = none-when (has_no_value_inside (given_bounds least greatest) found.desc.table) (NoValueInside r) inside.0;
      sleeps = none-when (has_bad_suspend nodes found.node found.desc) (SuspendValue r) of_sleeps.0;
    }

-- without a selector it is a fixed rail, whose bounds are equal
pub rail_is_sound : (nodes : List Node) (rails : List Found) (chips r : ℕ) (found : Found)
    → IsSoundDesc chips found.desc → IfSome found.desc.suspend_selector (HoldsSelectors found.desc.table) → (found.desc.selector ≡ None → found.chip_node ≡ None)
    → value_fault nodes found.node r found.desc (is_fixed_rail found) ≡ None → IsSoundRail chips (rail_at nodes rails r found)
rail_is_sound nodes rails chips r found desc holds fixed none =
    let fine : HasNoValueFault nodes found = no_value_fault nodes r found none in
    let rail : Rail = rail_at nodes rails r found in
    record {
      desc = desc;
      changeable = refl;
      moves = λ changes. moves fine changes;
      sleeps = λ k d within. good_sleep rail (bounds_at nodes found.node) _ holds
          (λ field is. none_bad found.desc (bounds_at nodes found.node) (sleeps_at nodes found.node) field fine.sleeps is k d within);
      some_value = some_allowed rail refl fine.some_value;
    }
  where
    moves : HasNoValueFault nodes found → is_span (bounds_at nodes found.node) ≡ true → IsSome found.desc.selector
    moves fine changes =
        (elim found.desc.selector as (λ o. found.desc.selector ≡ o → is_some o ≡ true) [
          | None ↦ λ is.
              let none_makes : is_fixed_rail found ≡ true = ap (λ o. not (is_some o)) (fixed is) in
              absurd (false≢true (sym (no_room _ _ (fine.fixed none_makes)) ∙ changes))
          | Some field ↦ λ _. refl
        ]) refl
