-- Each write of loading puts what its field is to hold, and each field that doesn't hold it is written.
use Rattle.std.proofs.Common.{◌≡◌, ℕ, ◌≤◌, Bool, true, false, cond, List, [], ◌∷◌, ◌++◌, Option, Some, None, refl, sym, ap, ◌∙◌, subst, arith, flat_map, slice_get, slice_index, All, Contains}
use Rattle.std.specs.Prelude.{◌==◌, IfSome, is_some, unwrap_or, option_map, option_and_then, if◌then◌else◌}
use Rattle.std.specs.Option.{option_map_or}
use Rattle.std.proofs.lemmas.List.Elements.{All-nil, All-cons, All-append, All-filter, Contains-append_left, Contains-append_right}
use Rattle.std.proofs.lemmas.Option.{IfSome_then}
use Rattle.chip_regs.specs.Field.{FitsField, greatest_of}
use Rattle.load_modes.specs.declared.mode.Mode.{Mode}
use Rattle.load_modes.specs.declared.mode.Mode.TheVariants.{Fast, Normal, Idle, Standby}
use Rattle.board.specs.declared.board.Board.{Board}
use Rattle.board.specs.declared.part.Part.{Part}
use Rattle.board.specs.declared.part.Part.TheVariants.{Selector, Enable, ModePart, SuspendEnable, SuspendSelector}
use Rattle.board.specs.declared.rail.Rail.{Rail}
use Rattle.board.specs.Fields.{field_at}
use Rattle.board.specs.Rail.{uv, part_field}
use Rattle.board.specs.Valid.{IsSoundRail, IsSoundBoard}
use Rattle.rail_law.specs.Moves.{Move, field_of_move}
use Rattle.rail_law.proofs.Admissible.{in_filtered, in_joined}
use Rattle.rail_law.proofs.Members.{All-flat_map}
use Rattle.plain_board.specs.Plan.{is_other, changing, mode_number, move_for, switch, table_selector}
use Rattle.plain_board.proofs.MovedAlone.{all_at}
use Rattle.board_load.specs.Start.{start_mode, starts_on}
use Rattle.board_load.specs.Writes.{selector_moves, start_mode_moves, value_and_mode, on_moves, loading_moves}
use Rattle.board_load.proofs.AimedMoves.{IsAimed}
use Rattle.board_load.proofs.TableSelectors.{selector_has}

-- what a part of a rail is to hold
abbrev pub aim : Board → List (List ℕ) → List ℕ → ℕ → Part → ℕ
aim board regs values r Selector = option_map_or (λ rail. unwrap_or (table_selector rail (slice_index values r)) 0) (slice_get board.rails r) 0
aim board regs values r Enable = if starts_on board regs r then 1 else 0
aim board regs values r ModePart = option_map_or (λ rail. unwrap_or (option_map mode_number (start_mode rail)) 0) (slice_get board.rails r) 0
aim board regs values r SuspendEnable = 0
aim board regs values r SuspendSelector = 0

-- a number for a part of a rail
abbrev pub move_to : ℕ → Part → ℕ → Move
move_to r part bits = record { rail = record { 0 = r }; part = part; bits = bits }

mode_small : (mode : Mode) → mode_number mode ≤ 3
mode_small Fast = omega arith
mode_small Normal = omega arith
mode_small Idle = omega arith
mode_small Standby = omega arith

module _ (board : Board) (sound : IsSoundBoard board) (regs : List (List ℕ)) (values : List ℕ) where
  abbrev Aimed : Move → Type 0
  Aimed = IsAimed board (aim board regs values)

  own_rail : (r : ℕ) (rail : Rail) → slice_get board.rails r ≡ Some rail → IsSoundRail board.chips rail
  own_rail r rail there = all_at (IsSoundRail board.chips) board.rails r rail sound.rails there

  room_at : (r : ℕ) (part : Part) (rail : Rail) (bits : ℕ) → slice_get board.rails r ≡ Some rail → IfSome (part_field part rail) (λ f. FitsField f bits) → IfSome (field_at board r part) (λ f. FitsField f bits)
  room_at r part rail bits there room = subst (λ (o : Option Rail). IfSome (option_and_then (part_field part) o) (λ f. FitsField f bits)) (sym there) room

  selector_aimed : (r : ℕ) (rail : Rail) (o : Option ℕ) → slice_get board.rails r ≡ Some rail → table_selector rail (slice_index values r) ≡ o → All Aimed (move_for r Selector o)
  selector_aimed r rail None there is = All-nil Aimed
  selector_aimed r rail (Some sel) there is =
      let has = selector_has rail (slice_index values r) sel is in
      let fits : IfSome rail.desc.selector (λ f. FitsField f sel) = IfSome_then rail.desc.selector (own_rail r rail there).desc.selector (λ f holds. (holds sel).1 (ap is_some has)) in
      All-cons Aimed (move_to r Selector sel) [] (record {
        bits = sym (ap (λ (o : Option Rail). option_map_or (λ a. unwrap_or (table_selector a (slice_index values r)) 0) o 0) there ∙ ap (λ (o : Option ℕ). unwrap_or o 0) is);
        room = room_at r Selector rail sel there fits;
      }) (All-nil Aimed)

  mode_aimed : (r : ℕ) (rail : Rail) (o : Option Mode) → slice_get board.rails r ≡ Some rail → start_mode rail ≡ o → All Aimed (move_for r ModePart (option_map mode_number o))
  mode_aimed r rail None there is = All-nil Aimed
  mode_aimed r rail (Some mode) there is =
      let fits : IfSome rail.desc.modes (λ f. FitsField f (mode_number mode)) =
      IfSome_then rail.desc.modes (own_rail r rail there).desc.modes (λ f bits. subst (λ g. mode_number mode ≤ g) (sym bits) (mode_small mode)) in
      All-cons Aimed (move_to r ModePart (mode_number mode)) [] (record {
        bits = sym (ap (λ (o : Option Rail). option_map_or (λ a. unwrap_or (option_map mode_number (start_mode a)) 0) o 0) there ∙ ap (λ (o : Option Mode). unwrap_or (option_map mode_number o) 0) is);
        room = room_at r ModePart rail (mode_number mode) there fits;
      }) (All-nil Aimed)

  all_unless : (t : Bool) (moves : List Move) → All Aimed moves → All Aimed (cond t [] moves)
  all_unless true moves all = All-nil Aimed
  all_unless false moves all = all

  abbrev changes_field : Move → Bool
  changes_field move = is_other regs move.bits (field_of_move board move)

  values_aimed : (r : ℕ) → All Aimed (value_and_mode board regs values r)
  values_aimed r = by (slice_get board.rails r) refl where
    by : (o : Option Rail) → slice_get board.rails r ≡ o
        → All Aimed (option_map_or (λ rail. changing board regs (selector_moves regs (slice_index values r) r rail ++ start_mode_moves r rail)) o [])
    by None there = All-nil Aimed
    by (Some rail) there =
        All-filter changes_field Aimed (selector_moves regs (slice_index values r) r rail ++ start_mode_moves r rail)
        (All-append Aimed (selector_moves regs (slice_index values r) r rail) (start_mode_moves r rail)
        (all_unless (uv rail regs == slice_index values r) (move_for r Selector (table_selector rail (slice_index values r)))
        (selector_aimed r rail (table_selector rail (slice_index values r)) there refl))
        (mode_aimed r rail (start_mode rail) there refl))

  one_fits : (r : ℕ) → IfSome (field_at board r Enable) (λ f. FitsField f 1)
  one_fits r = by (slice_get board.rails r) refl where
    by : (o : Option Rail) → slice_get board.rails r ≡ o → IfSome (option_and_then (part_field Enable) o) (λ f. FitsField f 1)
    by None there = tt
    by (Some rail) there = let bits : greatest_of rail.desc.enable ≡ 1 = (own_rail r rail there).desc.enable in subst (λ g. 1 ≤ g) (sym bits) (omega arith)

  on_aimed : (r : ℕ) → All Aimed (on_moves board regs r)
  on_aimed r = by (starts_on board regs r) refl where
    by : (t : Bool) → starts_on board regs r ≡ t → All Aimed (cond t (changing board regs (switch 1 r ∷ [])) [])
    by false is = All-nil Aimed
    by true is =
        All-filter changes_field Aimed (switch 1 r ∷ [])
        (All-cons Aimed (switch 1 r) [] (record { bits = sym (ap (λ (t : Bool). if t then 1 else 0) is); room = one_fits r }) (All-nil Aimed))

  pub all_aimed : All Aimed (loading_moves board regs values)
  all_aimed =
      All-append Aimed (flat_map (value_and_mode board regs values) board.order) (flat_map (on_moves board regs) board.order)
      (All-flat_map Aimed (value_and_mode board regs values) board.order (λ k d within. values_aimed _))
      (All-flat_map Aimed (on_moves board regs) board.order (λ k d within. on_aimed _))

  -- a write of a rail's value or mode is among them
  value_in : (r : ℕ) (rail : Rail) (move : Move) → slice_get board.rails r ≡ Some rail → Contains board.order r
      → Contains (selector_moves regs (slice_index values r) r rail ++ start_mode_moves r rail) move → changes_field move ≡ true → Contains (loading_moves board regs values) move
  value_in r rail move there has among changes =
      let kept : Contains (changing board regs (selector_moves regs (slice_index values r) r rail ++ start_mode_moves r rail)) move =
      in_filtered changes_field (selector_moves regs (slice_index values r) r rail ++ start_mode_moves r rail) move among.0 among.1 among.2 changes in
      let at : Contains (value_and_mode board regs values r) move =
      subst (λ (o : Option Rail). Contains (option_map_or (λ a. changing board regs (selector_moves regs (slice_index values r) r a ++ start_mode_moves r a)) o []) move) (sym there) kept in
      Contains-append_left (flat_map (value_and_mode board regs values) board.order) (flat_map (on_moves board regs) board.order) move
      (in_joined (value_and_mode board regs values) board.order r move has.0 has.1 has.2 at)

  pub selector_in : (r : ℕ) (rail : Rail) (sel : ℕ) → slice_get board.rails r ≡ Some rail → Contains board.order r → (uv rail regs == slice_index values r) ≡ false
      → table_selector rail (slice_index values r) ≡ Some sel → is_other regs sel (field_at board r Selector) ≡ true → Contains (loading_moves board regs values) (move_to r Selector sel)
  selector_in r rail sel there has apart is changes =
      let made : selector_moves regs (slice_index values r) r rail ≡ move_to r Selector sel ∷ [] =
      ap (λ (t : Bool). cond t [] (move_for r Selector (table_selector rail (slice_index values r)))) apart ∙ ap (move_for r Selector) is in
      let here : Contains (selector_moves regs (slice_index values r) r rail) (move_to r Selector sel) = subst (λ (moves : List Move). Contains {X = Move} moves (move_to r Selector sel)) (sym made) (0, omega arith, refl) in
      value_in r rail (move_to r Selector sel) there has (Contains-append_left (selector_moves regs (slice_index values r) r rail) (start_mode_moves r rail) (move_to r Selector sel) here) changes

  pub mode_in : (r : ℕ) (rail : Rail) (mode : Mode) → slice_get board.rails r ≡ Some rail → Contains board.order r → start_mode rail ≡ Some mode
      → is_other regs (mode_number mode) (field_at board r ModePart) ≡ true → Contains (loading_moves board regs values) (move_to r ModePart (mode_number mode))
  mode_in r rail mode there has is changes =
      let made : start_mode_moves r rail ≡ move_to r ModePart (mode_number mode) ∷ [] = ap (λ (o : Option Mode). move_for r ModePart (option_map mode_number o)) is in
      let here : Contains (start_mode_moves r rail) (move_to r ModePart (mode_number mode)) =
      subst (λ (moves : List Move). Contains {X = Move} moves (move_to r ModePart (mode_number mode))) (sym made) (0, omega arith, refl) in
      value_in r rail (move_to r ModePart (mode_number mode)) there has
      (Contains-append_right (selector_moves regs (slice_index values r) r rail) (start_mode_moves r rail) (move_to r ModePart (mode_number mode)) here) changes

  -- and so is that of an on bit
  pub on_in : (r : ℕ) → Contains board.order r → starts_on board regs r ≡ true → is_other regs 1 (field_at board r Enable) ≡ true → Contains (loading_moves board regs values) (switch 1 r)
  on_in r has starts changes =
      let kept : Contains (changing board regs (switch 1 r ∷ [])) (switch 1 r) = in_filtered changes_field (switch 1 r ∷ []) (switch 1 r) 0 (omega arith) refl changes in
      let at : Contains (on_moves board regs r) (switch 1 r) = subst (λ (t : Bool). Contains (cond t (changing board regs (switch 1 r ∷ [])) []) (switch 1 r)) (sym starts) kept in
      Contains-append_right (flat_map (value_and_mode board regs values) board.order) (flat_map (on_moves board regs) board.order) (switch 1 r)
      (in_joined (on_moves board regs) board.order r (switch 1 r) has.0 has.1 has.2 at)
