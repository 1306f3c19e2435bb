-- A set that isn't refused, on a board on which no value binds another: its rail, its goal and its moves.
use Rattle.std.proofs.Common.{◌≡◌, ℕ, Bool, true, false, cond, List, [], ◌∷◌, Option, Some, None, refl, sym, ap, ◌∙◌, subst, arith, length, filter, find, slice_get, slice_set, All, Contains}
use Rattle.std.specs.Prelude.{nat_lt, option_map, is_none}
use Rattle.std.specs.List.{list_all}
use Rattle.std.proofs.lemmas.Bool.{eq-eqb, and_parts, true≢false}
use Rattle.std.proofs.lemmas.List.{length-map}
use Rattle.std.proofs.lemmas.List.Elements.{All-contains, filter_passes}
use Rattle.std.proofs.lemmas.List.Sums.{AllPass-from_list_all}
use Rattle.std.proofs.lemmas.Option.{slice_get_within}
use Rattle.arrayvec.specs.ArrayString.{ArrayString}
use Rattle.board_graph.specs.Graph.{count_of}
use Rattle.board.specs.declared.board.Board.{Board}
use Rattle.board.specs.declared.rail.Rail.{Rail}
use Rattle.board.specs.declared.rail_id.RailId.{RailId}
use Rattle.board.specs.Fields.{allowed_at}
use Rattle.board.specs.Rail.{allowed, uv, least}
use Rattle.board.specs.Valid.{IsSoundBoard}
use Rattle.board.proofs.BoardGraph.{sound_graph}
use Rattle.rail_law.specs.BoardTies.{standing_values}
use Rattle.rows.specs.declared.answer.Answer.{Answer}
use Rattle.rows.specs.declared.answer.Answer.TheVariants.{BadRange, NoValue, NoHandle, Suspended}
use Rattle.rows.specs.declared.call.Call.TheVariants.{Set}
use Rattle.use_counts.specs.declared.handle_row.HandleRow.{HandleRow}
use Rattle.plain_board.specs.declared.plain.Plain.{Plain}
use Rattle.plain_board.specs.Handles.{Entry, open_of, without_open, on_rail, for_open}
use Rattle.plain_board.specs.Plan.{set_moves, moves_of_call}
use Rattle.plain_board.specs.Refusals.{Reason, open_reasons, refusal}
use Rattle.plain_board.specs.Requests.{meets, requests_on, asked, goal_of}
use Rattle.plain_board.specs.Untied.{IsUntied}
use Rattle.plain_board.proofs.AloneLeast.{least_is, goal_of-alone}
use Rattle.plain_board.proofs.RailMoves.{moves_to, allowed_at-rail, path_is}
use Rattle.plain_board.proofs.Run.{filtered}
use Rattle.plain_board.proofs.ValuesTo.{values_to}

-- what is answered for these reasons, where one holds
abbrev pub refused : List Reason → Option Answer
refused reasons = option_map (λ (reason : Reason). reason.1) (find (λ (reason : Reason). reason.0) reasons)

-- where nothing is refused the first reason doesn't hold, nor do the others
pub first_fails : (holds : Bool) (said : Answer) (rest : List Reason) → refused ((holds, said) ∷ rest) ≡ None → (holds ≡ false) × (refused rest ≡ None)
first_fails true said rest none = absurd (cc)
first_fails false said rest none = (refl, none)

-- a handle that is open, and its rail
pub record IsOpenOn (board : Board) (handles : List Entry) (worker : ℕ) (name : List ℕ) : Type 0 where
  pub entry : Entry
  pub rail : Rail
  pub is_open : open_of handles worker name ≡ Some entry
  pub there : slice_get board.rails entry.0.0 ≡ Some rail

module _ (said : RailId → Rail → HandleRow → List Reason) (board : Board) where
  -- the reasons that aren't for want of a handle
  abbrev pub reasons_on : Entry → Rail → List Reason
  reasons_on entry rail = said entry.0 rail entry.1

  on_by : (entry : Entry) (rail : Option Rail) → refused (on_rail ((true, NoHandle) ∷ []) said entry rail) ≡ None → (a : Rail) × (rail ≡ Some a) × (refused (reasons_on entry a) ≡ None)
  on_by entry None none = absurd (cc)
  on_by entry (Some rail) none = (rail, refl, none)

  open_by : (plain : Plain) (worker : ℕ) (name : List ℕ) (o : Option Entry) → open_of plain.handles worker name ≡ o → refused (for_open ((true, NoHandle) ∷ []) said board o) ≡ None
      → (on : IsOpenOn board plain.handles worker name) × (refused (reasons_on on.entry on.rail) ≡ None)
  open_by plain worker name None is none = absurd (cc)
  open_by plain worker name (Some entry) is none =
      let found = on_by entry (slice_get board.rails entry.0.0) none in
      (record { entry = entry; rail = found.0; is_open = is; there = found.1 }, found.2)

  -- where a call on a handle isn't refused the handle is open, and no other reason holds
  pub open_not_refused : (plain : Plain) (worker : ℕ) (name : List ℕ) → refused (open_reasons said board plain worker name) ≡ None
      → (on : IsOpenOn board plain.handles worker name) × (refused (reasons_on on.entry on.rail) ≡ None)
  open_not_refused plain worker name none = open_by plain worker name (open_of plain.handles worker name) refl none

-- a set that isn't refused has a goal that meets all that is asked, and moves its rail there
pub record IsSetTo (board : Board) (plain : Plain) (worker : ℕ) (handle : ArrayString) (lo hi : ℕ) : Type 0 where
  pub on : IsOpenOn board plain.handles worker handle.bytes
  pub goal : ℕ
  pub among : Contains (allowed on.rail) goal
  pub own : meets goal (lo, hi) ≡ true
  pub others : All (λ request. meets goal request ≡ true) (requests_on (without_open plain.handles worker handle.bytes) on.entry.0.0)
  pub moves : moves_of_call board plain worker (Set handle lo hi) ≡ moves_to board on.entry.0.0 (values_to (allowed on.rail) goal (uv on.rail plain.regs))

module _ (board : Board) (sound : IsSoundBoard board) (untied : IsUntied board) (plain : Plain) (worker : ℕ) (handle : ArrayString) (lo hi : ℕ) where
  module _ (on : IsOpenOn board plain.handles worker handle.bytes) where
    abbrev r : ℕ
    r = on.entry.0.0

    abbrev is_asked : ℕ → Bool
    is_asked uv = list_all (meets uv) (asked plain.handles worker handle.bytes r (lo, hi) r)

    abbrev passing : List ℕ
    passing = filter is_asked (allowed_at board r)

    goal_is : goal_of board plain worker handle.bytes r (lo, hi) ≡ option_map (slice_set (standing_values board plain.regs) r) (least passing)
    goal_is =
        let as_many : length board.rails ≡ count_of board.graph = sym (ap length sound.graph.groups ∙ length-map board.rails _) in
        goal_of-alone board untied (sound_graph board sound) as_many plain worker handle.bytes r (lo, hi) (omega (arith, slice_get_within board.rails r on.rail on.there))

    asked_is : asked plain.handles worker handle.bytes r (lo, hi) r ≡ (lo, hi) ∷ requests_on (without_open plain.handles worker handle.bytes) r
    asked_is =
        ap (λ t. cond t ((lo, hi) ∷ requests_on (without_open plain.handles worker handle.bytes) r) (requests_on (without_open plain.handles worker handle.bytes) r)) (eq-eqb r r refl)

    moves_are : (goal : ℕ) → goal_of board plain worker handle.bytes r (lo, hi) ≡ Some (slice_set (standing_values board plain.regs) r goal) → Contains (allowed on.rail) goal
        → moves_of_call board plain worker (Set handle lo hi) ≡ moves_to board r (values_to (allowed on.rail) goal (uv on.rail plain.regs))
    moves_are goal is has =
        ap (for_open [] (λ id rail row. set_moves board plain (goal_of board plain worker handle.bytes id.0 (lo, hi))) board) on.is_open
        ∙ ap (on_rail [] (λ id rail row. set_moves board plain (goal_of board plain worker handle.bytes id.0 (lo, hi))) on.entry) on.there
        ∙ ap (set_moves board plain) is
        ∙ path_is board sound untied r on.rail plain.regs goal on.there has

    set_by : (o : Option ℕ) → least passing ≡ o → is_none (goal_of board plain worker handle.bytes r (lo, hi)) ≡ false → IsSetTo board plain worker handle lo hi
    set_by None none some_goal =
        let nowhere : goal_of board plain worker handle.bytes r (lo, hi) ≡ None = goal_is ∙ ap (option_map (slice_set (standing_values board plain.regs) r)) none in
        absurd (true≢false (sym (ap is_none nowhere) ∙ some_goal))
    set_by (Some goal) is some_goal =
        let first = least_is passing goal is in
        let has : Contains (allowed on.rail) goal =
        subst (λ (ns : List ℕ). Contains {X = ℕ} ns goal) (allowed_at-rail board r on.rail on.there) (filtered is_asked (allowed_at board r) goal first.among) in
        let passes : is_asked goal ≡ true = All-contains (λ v. is_asked v ≡ true) passing goal (filter_passes is_asked (allowed_at board r)) first.among in
        let both = and_parts _ _ (sym (ap (list_all (meets goal)) asked_is) ∙ passes) in
        record {
          on = on;
          goal = goal;
          among = has;
          own = both.0;
          others = AllPass-from_list_all (meets goal) (requests_on (without_open plain.handles worker handle.bytes) r) both.1;
          moves = moves_are goal (goal_is ∙ ap (option_map (slice_set (standing_values board plain.regs) r)) is) has;
        }

  -- what may be said against a set of an open handle
  abbrev no_value : ℕ → Reason
  no_value i = (is_none (goal_of board plain worker handle.bytes i (lo, hi)), NoValue)

  abbrev set_reasons : RailId → Rail → HandleRow → List Reason
  set_reasons id rail row = (plain.suspended, Suspended) ∷ (nat_lt hi lo, BadRange lo hi) ∷ no_value id.0 ∷ []

  pub set_not_refused : refusal board plain worker (Set handle lo hi) ≡ None → IsSetTo board plain worker handle lo hi
  set_not_refused none =
      let opened = open_not_refused set_reasons board plain worker handle.bytes none in
      let last = no_value opened.0.entry.0.0 in
      let awake = first_fails plain.suspended Suspended ((nat_lt hi lo, BadRange lo hi) ∷ last ∷ []) opened.1 in
      let straight = first_fails (nat_lt hi lo) (BadRange lo hi) (last ∷ []) awake.1 in
      let some_goal = first_fails last.0 NoValue [] straight.1 in
      set_by opened.0 (least (passing opened.0)) refl some_goal.0
