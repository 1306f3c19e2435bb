-- What is asked of the loads holds of each rail exactly where no fault is told.
use Rattle.std.proofs.Common.{◌≡◌, ℕ, ◌<◌, Bool, true, false, ◌&&◌, Option, Some, None, refl, sym, ap, ◌∙◌, subst, length, get_or}
use Rattle.std.specs.Prelude.{All, ◌↔◌, IsSome, find, option_map, slice_get}
use Rattle.std.specs.Option.{is_none, option_map_or}
use Rattle.std.proofs.lemmas.Option.{slice_get-get_or, slice_get_within, get_or_from_slice_get}
use Rattle.board_checks.specs.declared.fault.CheckFault.TheVariants.{LoadOverModes}
use Rattle.load_modes.specs.Modes.{mode_of_load}
use Rattle.board_graph.specs.Graph.{count_of}
use Rattle.board_graph.specs.Sets.{rails_of}
use Rattle.board.specs.declared.board.Board.{Board}
use Rattle.board.specs.declared.rail.Rail.{Rail}
use Rattle.board.specs.Rail.{counts_loads}
use Rattle.board.specs.Valid.{CarriesSystemLoad, IsGraphOf}
use Rattle.board_checks.specs.Rails.{tests_rail}
use Rattle.board_checks.specs.Loads.{is_overloaded, load_at, load_fault}
use Rattle.board_checks.proofs.Finds.{none_passes}
use Rattle.board_checks.proofs.Rails.{rail_fails, test_at, map_none}

some_from : {X : Type 0} (o : Option X) → is_none o ≡ false → IsSome o
some_from None is = absurd (cc)
some_from (Some x) is = refl

carries_by : (counts : Bool) {X : Type 0} (o : Option X) → (counts && is_none o) ≡ false → counts ≡ true → IsSome o
carries_by true o fits is = some_from o fits
carries_by false o fits is = absurd (cc)

-- a rail at its place
at_place : (board : Board) (k : ℕ) (d : Rail) → k < length board.rails → slice_get board.rails k ≡ Some (get_or board.rails k d)
at_place board k d within = slice_get-get_or board.rails k d within

pub loads_carried : (board : Board) → IsGraphOf board → find (tests_rail is_overloaded board) (rails_of board.graph) ≡ None → All CarriesSystemLoad board.rails
loads_carried board graph none k d within =
    let rail : Rail = get_or board.rails k d in
    let fits : is_overloaded rail ≡ false = sym (test_at is_overloaded board k rail (at_place board k d within))
    ∙ rail_fails board (tests_rail is_overloaded board) k rail graph none (at_place board k d within) in
    carries_by (counts_loads rail) (mode_of_load rail.desc.greatest rail.limits.allowed rail.limits.system_load) fits

carried_by : (counts : Bool) {X : Type 0} (o : Option X) → (counts ≡ true → IsSome o) → (counts && is_none o) ≡ false
carried_by false o carries = refl
carried_by true (Some x) carries = refl
carried_by true None carries = absurd (cc (carries refl))

pub no_load_fault : (board : Board) → IsGraphOf board → load_fault board ≡ None ↔ All CarriesSystemLoad board.rails
no_load_fault board graph = (carried, none) where
  carried : load_fault board ≡ None → All CarriesSystemLoad board.rails
  carried is = loads_carried board graph (map_none (λ r. LoadOverModes r (load_at board r)) (find (tests_rail is_overloaded board) (rails_of board.graph)) is)

  fits : All CarriesSystemLoad board.rails → (r : ℕ) → tests_rail is_overloaded board r ≡ false
  fits all r = by (slice_get board.rails r) refl where
    by : (o : Option Rail) → slice_get board.rails r ≡ o → option_map_or is_overloaded o false ≡ false
    by None here = refl
    by (Some rail) here =
        let carries : CarriesSystemLoad rail = subst CarriesSystemLoad (get_or_from_slice_get board.rails r rail rail here) (all r rail (slice_get_within board.rails r rail here)) in
        carried_by (counts_loads rail) (mode_of_load rail.desc.greatest rail.limits.allowed rail.limits.system_load) carries

  none : All CarriesSystemLoad board.rails → load_fault board ≡ None
  none all = ap (option_map (λ r. LoadOverModes r (load_at board r)))
      (none_passes (tests_rail is_overloaded board) 0 (count_of board.graph) (λ r _ _. fits all r))
