-- Loading reads no byte of a rail's name.
use Rattle.std.proofs.Common.{◌≡◌, ℕ, zero, suc, ◌+◌, Bool, ◌&&◌, ◌||◌, ◌==◌, if◌then◌else◌, List, [], ◌∷◌, ◌++◌, map, filter, flat_map, find, Option, Some, refl, sym, ap, ◌∙◌}
use Rattle.std.specs.Prelude.{slice_get, slice_index, option_to_list, option_map}
use Rattle.std.specs.List.{enumerate_from, list_any}
use Rattle.std.specs.Option.{is_none, option_and_then, option_map_or}
use Rattle.std.proofs.Math.Path.{fun_ext}
use Rattle.chip_regs.specs.declared.field.Field.{Field}
use Rattle.board_graph.specs.Graph.{supply_at}
use Rattle.board_graph.specs.Loops.{is_above}
use Rattle.board_graph.specs.Sets.{rails_of, is_linked_at, movers}
use Rattle.board.specs.declared.board.Board.{Board}
use Rattle.board.specs.declared.rail.Rail.{Rail}
use Rattle.board.specs.Rail.{part_field, counts_loads}
use Rattle.board_checks.specs.Rails.{is_coupled}
use Rattle.rail_law.specs.BoardTies.{spread_ties, ties_of}
use Rattle.rail_law.specs.Least.{least_vector}
use Rattle.rail_law.specs.Moves.{Move, field_of_move, written, after_moves, update_of_field, writes_of}
use Rattle.rail_law.specs.Ties.{Tie}
use Rattle.plain_board.specs.Plan.{is_other, changing, switch}
use Rattle.board_draft.specs.declared.drafted.Drafted.{Drafted}
use Rattle.board_draft.specs.Sketch.{trimmed}
use Rattle.board_load.specs.Loading.{board_at, plain_at}
use Rattle.board_load.specs.Start.{start_values, targets, choices_within, ties_within, lacks_vector, no_vector, is_asked_on, starts_on}
use Rattle.board_load.specs.Writes.{selector_moves, value_and_mode, on_moves, loading_moves, start_mode_moves}
use Rattle.dts_nodes.specs.Firsts.{first_of, when}
use Rattle.session.specs.declared.fault.SessionFault.{SessionFault}
use Rattle.session.specs.declared.fault.SessionKind.TheVariants.{NotYet, NoVector}
use Rattle.session.specs.declared.setup.Setup.{Setup}
use Rattle.session.specs.Laws.{trimmed_board}
use Rattle.session.specs.Loading.{at_board, bad_register, found_regs, is_unbuilt, setup_fault}

-- what reads no name reads the same of each rail
module _ {A : Type 0} (read : Option Rail → A) (same : (rail : Rail) → read (Some (trimmed rail)) ≡ read (Some rail)) where
  same_read : (rails : List Rail) (r : ℕ) → read (slice_get (map trimmed rails) r) ≡ read (slice_get rails r)
  same_read [] r = refl
  same_read (rail ∷ rails) zero = same rail
  same_read (rail ∷ rails) (suc r) = same_read rails r

  same_reads : (rails : List Rail) → ◌≡◌ {A = ℕ → A} (λ r. read (slice_get (map trimmed rails) r)) (λ r. read (slice_get rails r))
  same_reads rails = fun_ext (same_read rails)

-- and of all rails, with their numbers and without
same_map : {A : Type 0} (f : Rail → A) → ((rail : Rail) → f (trimmed rail) ≡ f rail) → (rails : List Rail) → map f (map trimmed rails) ≡ map f rails
same_map f same [] = refl
same_map f same (rail ∷ rails) = ap (λ a. a ∷ map f (map trimmed rails)) (same rail) ∙ ap (λ rest. f rail ∷ rest) (same_map f same rails)

same_numbered : {A : Type 0} (f : ℕ × Rail → A) → ((n : ℕ) (rail : Rail) → f (n, trimmed rail) ≡ f (n, rail)) → (n : ℕ) (rails : List Rail)
    → map f (enumerate_from n (map trimmed rails)) ≡ map f (enumerate_from n rails)
same_numbered f same n [] = refl
same_numbered f same n (rail ∷ rails) =
    ap (λ a. a ∷ map f (enumerate_from (n + 1) (map trimmed rails))) (same n rail) ∙ ap (λ rest. f (n, rail) ∷ rest) (same_numbered f same (n + 1) rails)

any_map : {X : Type 0} (test : X → Bool) (xs : List X) → list_any test xs ≡ list_any (λ b. b) (map test xs)
any_map test [] = refl
any_map test (x ∷ xs) = ap (λ b. test x || b) (any_map test xs)

same_any : (test : Rail → Bool) → ((rail : Rail) → test (trimmed rail) ≡ test rail) → (rails : List Rail) → list_any test (map trimmed rails) ≡ list_any test rails
same_any test same rails = any_map test (map trimmed rails) ∙ ap (list_any (λ b. b)) (same_map test same rails) ∙ sym (any_map test rails)

same_any_numbered : (test : ℕ × Rail → Bool) → ((n : ℕ) (rail : Rail) → test (n, trimmed rail) ≡ test (n, rail)) → (rails : List Rail)
    → list_any test (enumerate_from 0 (map trimmed rails)) ≡ list_any test (enumerate_from 0 rails)
same_any_numbered test same rails =
    any_map test (enumerate_from 0 (map trimmed rails)) ∙ ap (list_any (λ b. b)) (same_numbered test same 0 rails) ∙ sym (any_map test (enumerate_from 0 rails))

-- the ties of a board by its dropouts
abbrev ties_by : Board → (ℕ → ℕ) → List Tie
ties_by board dropout =
    flat_map (λ i. spread_ties board i ++ (if is_linked_at board.graph i then map (λ s. record { low = i; rise = dropout i; high = s; fall = 0 }) (option_to_list (supply_at board.graph i)) else []))
    (rails_of board.graph)

-- what is refused of a board by whether it is built, and by the rail that can't be placed
abbrev fault_by : ℕ → List Setup → Drafted → Bool → Option ℕ → Option SessionFault
fault_by before setup drafted unbuilt rail =
    first_of (bad_register drafted.board.chips before setup ∷ when unbuilt (at_board NotYet) ∷ option_map (λ r. at_board (NoVector r)) rail ∷ [])

-- the moves of a rail by those that change its fields
abbrev moves_by : (List Move → List Move) → List (List ℕ) → List ℕ → ℕ → Option Rail → List Move
moves_by change regs targets r rail =
    option_map_or (λ rail. change (selector_moves regs (slice_index targets r) r rail ++ start_mode_moves r rail)) rail []

module _ (board : Board) where
  -- the board without its rails' names' spare bytes
  abbrev bare : Board
  bare = trimmed_board board

  ties-bare : ties_of bare ≡ ties_of board
  ties-bare = ap (ties_by board) (same_reads (λ o. option_map_or (λ rail. rail.desc.dropout) o 0) (λ _. refl) board.rails)

  module _ (regs : List (List ℕ)) where
    targets-bare : targets bare regs ≡ targets board regs
    targets-bare =
        ap (λ values. least_vector values (ties_of bare)) (same_map (λ rail. start_values rail regs) (λ _. refl) board.rails)
        ∙ ap (least_vector (map (λ rail. start_values rail regs) board.rails)) ties-bare

    choices-bare : (moving : List ℕ) → choices_within moving bare regs ≡ choices_within moving board regs
    choices-bare moving = same_numbered _ (λ _ _. refl) 0 board.rails

    lacks-bare : (r : ℕ) → lacks_vector bare regs r ≡ lacks_vector board regs r
    lacks-bare r =
        let moving = movers board.graph r in
        ap (λ choices. is_none (least_vector choices (ties_within moving (ties_of bare)))) (choices-bare moving)
        ∙ ap (λ ties. is_none (least_vector (choices_within moving board regs) (ties_within moving ties))) ties-bare

    no_vector-bare : no_vector bare regs ≡ no_vector board regs
    no_vector-bare = ap (λ lacks. find lacks (rails_of board.graph)) (fun_ext lacks-bare)

    starts-bare : (i : ℕ) → starts_on bare regs i ≡ starts_on board regs i
    starts-bare i = same_any_numbered (λ rail. is_asked_on regs rail.1 && (rail.0 == i || is_above board.graph i rail.0)) (λ _ _. refl) board.rails

  field-bare : (move : Move) → field_of_move bare move ≡ field_of_move board move
  field-bare move = same_read (option_and_then (part_field move.part)) (λ _. refl) board.rails move.rail.0

  fields-bare : field_of_move bare ≡ field_of_move board
  fields-bare = fun_ext field-bare

  writes-bare : (moves : List Move) → writes_of bare moves ≡ writes_of board moves
  writes-bare moves = ap (λ (field : Move → Option Field). map (λ move. update_of_field (field move) move.bits) moves) fields-bare

  after-bare : (regs : List (List ℕ)) (moves : List Move) → after_moves bare regs moves ≡ after_moves board regs moves
  after-bare regs [] = refl
  after-bare regs (move ∷ moves) =
      ap (λ field. after_moves bare (written field regs move.bits) moves) (field-bare move) ∙ after-bare (written (field_of_move board move) regs move.bits) moves

  changing-bare : (regs : List (List ℕ)) (moves : List Move) → changing bare regs moves ≡ changing board regs moves
  changing-bare regs moves = ap (λ (field : Move → Option Field). filter (λ move. is_other regs move.bits (field move)) moves) fields-bare

  module _ (regs : List (List ℕ)) (values : List ℕ) where
    value-bare : (r : ℕ) → value_and_mode bare regs values r ≡ value_and_mode board regs values r
    value-bare r =
        ap (λ change. moves_by change regs values r (slice_get (map trimmed board.rails) r)) (fun_ext (changing-bare regs))
        ∙ same_read (moves_by (changing board regs) regs values r) (λ _. refl) board.rails r

    on-bare : (r : ℕ) → on_moves bare regs r ≡ on_moves board regs r
    on-bare r =
        ap (λ on. if on then changing bare regs (switch 1 r ∷ []) else []) (starts-bare regs r)
        ∙ ap (λ moves. if starts_on board regs r then moves else []) (changing-bare regs (switch 1 r ∷ []))

    loading-bare : loading_moves bare regs values ≡ loading_moves board regs values
    loading-bare =
        ap (λ moves. flat_map moves board.order ++ flat_map (on_moves bare regs) board.order) (fun_ext value-bare)
        ∙ ap (λ moves. flat_map (value_and_mode board regs values) board.order ++ flat_map moves board.order) (fun_ext on-bare)

    pub writes_same : writes_of bare (loading_moves bare regs values) ≡ writes_of board (loading_moves board regs values)
    writes_same = writes-bare (loading_moves bare regs values) ∙ ap (writes_of board) loading-bare

    regs_same : after_moves bare regs (loading_moves bare regs values) ≡ after_moves board regs (loading_moves board regs values)
    regs_same = after-bare regs (loading_moves bare regs values) ∙ ap (after_moves board regs) loading-bare

    pub plain_same : plain_at bare regs values ≡ plain_at board regs values
    plain_same =
        ap (λ after. record (plain_at bare regs values) { regs = after }) regs_same
        ∙ ap (λ holds. record (plain_at bare regs values) { regs = after_moves board regs (loading_moves board regs values); holds = holds }) (same_map (is_asked_on regs) (λ _. refl) board.rails)
        ∙ ap (λ events. record (plain_at board regs values) { events = events }) (same_map (λ _. []) (λ _. refl) board.rails)

    kept_later : (n : ℕ) (rails : List Rail)
        → map trimmed (map (λ (rail : ℕ × Rail). record rail.1 { kept_uv = slice_index values rail.0 }) (enumerate_from n rails))
        ≡ map (λ (rail : ℕ × Rail). record rail.1 { kept_uv = slice_index values rail.0 }) (enumerate_from n (map trimmed rails))
    kept_later n [] = refl
    kept_later n (rail ∷ rails) = ap (λ rest. record (trimmed rail) { kept_uv = slice_index values n } ∷ rest) (kept_later (n + 1) rails)

    pub board_same : trimmed_board (board_at board values) ≡ board_at bare values
    board_same = ap (λ rails. record board { rails = rails }) (kept_later 0 board.rails)

  pub targets_same : (regs : List (List ℕ)) → targets bare regs ≡ targets board regs
  targets_same = targets-bare

  unbuilt-bare : is_unbuilt bare ≡ is_unbuilt board
  unbuilt-bare = ap (λ counts. (list_any (is_coupled board.graph) (rails_of board.graph) || list_any (λ link. link) board.graph.link) || counts) (same_any counts_loads (λ _. refl) board.rails)

-- what is refused of a board doesn't read them either
pub fault_same : (before : ℕ) (setup : List Setup) (drafted : Drafted) → setup_fault before setup (record drafted { board = trimmed_board drafted.board }) ≡ setup_fault before setup drafted
fault_same before setup drafted =
    ap (λ unbuilt. fault_by before setup drafted unbuilt (no_vector (trimmed_board drafted.board) (found_regs drafted setup))) (unbuilt-bare drafted.board)
    ∙ ap (fault_by before setup drafted (is_unbuilt drafted.board)) (no_vector-bare drafted.board (found_regs drafted setup))
