-- The moves of one rail to its goal: after each of them it stands between, and after all of them at the goal.
use Rattle.std.proofs.Common.{◌≡◌, ℕ, ◌<◌, true, false, cond, List, [], ◌∷◌, Some, refl, sym, ap, ◌∙◌, subst, arith, map, length, take, slice_get, slice_set, inl, inr, All, Contains}
use Rattle.std.proofs.lemmas.Bool.{cases_Bool, cases_lt}
use Rattle.std.proofs.lemmas.List.{length-map}
use Rattle.std.proofs.lemmas.List.Elements.{All-nil, All-cons, All-head, All-tail, All-contains}
use Rattle.std.proofs.lemmas.Option.{slice_get_within}
use Rattle.board_graph.specs.Graph.{count_of}
use Rattle.board_graph.proofs.Growth.{from_taken}
use Rattle.board.specs.declared.board.Board.{Board}
use Rattle.board.specs.declared.rail.Rail.{Rail}
use Rattle.board.specs.Fields.{allowed_at, choices_of}
use Rattle.board.specs.Rail.{allowed, uv, is_within}
use Rattle.board.specs.Table.{values_of}
use Rattle.board.specs.Valid.{IsSoundBoard}
use Rattle.rail_law.specs.BoardTies.{standing_values}
use Rattle.rail_law.specs.Law.{Law}
use Rattle.rail_law.specs.Moves.{Move, after_moves}
use Rattle.rail_law.specs.Way.{move_of, path}
use Rattle.rail_law.proofs.Members.{mapped_at}
use Rattle.plain_board.specs.Law.{Throughout}
use Rattle.plain_board.specs.Untied.{IsUntied, HoldFields}
use Rattle.plain_board.proofs.Throughout.{Throughout-take, Throughout-after}
use Rattle.plain_board.proofs.Run.{end_of}
use Rattle.plain_board.proofs.ValuesTo.{values_to, values_to-same, values_to-stops, end_of-values_to, IsBetween, IsStop}
use Rattle.plain_board.proofs.AlonePath.{path-alone}
use Rattle.plain_board.proofs.MovedAlone.{IsMovedAlone, unmoved, moved_on}
use Rattle.std.specs.Prelude.{filter}

-- the moves of rail r to these values, one after another
abbrev pub moves_to : Board → ℕ → List ℕ → List Move
moves_to board r vs = map (λ v. move_of board (r, v)) vs

-- rail r alone may stand elsewhere: at one of its values between where it stood and the goal
pub record StandsBetween (board : Board) (r : ℕ) (rail : Rail) (first : List (List ℕ)) (goal : ℕ) (regs : List (List ℕ)) : Type 0 where
  pub at : ℕ
  pub among : Contains (allowed rail) at
  pub between : IsBetween (uv rail first) goal at
  pub moved : IsMovedAlone board r rail first at regs

-- a rail that can't change has one value
one_value : (rail : Rail) (v : ℕ) → rail.changeable ≡ false → Contains (allowed rail) v → v ≡ rail.kept_uv
one_value rail v fixed has =
    let same : allowed rail ≡ rail.kept_uv ∷ [] = ap (λ t. map (λ (pair : ℕ × ℕ). pair.1) (cond t (filter (λ (pair : ℕ × ℕ). is_within rail.limits.bounds pair.1) (values_of rail.desc.table)) ((0, rail.kept_uv) ∷ []))) fixed in
    let only : Contains {X = ℕ} (rail.kept_uv ∷ []) v = subst (λ (ns : List ℕ). Contains {X = ℕ} ns v) same has in
    All-contains (λ n. n ≡ rail.kept_uv) (rail.kept_uv ∷ []) v (All-cons (λ n. n ≡ rail.kept_uv) rail.kept_uv [] refl (All-nil (λ n. n ≡ rail.kept_uv))) only

module _ (board : Board) (sound : IsSoundBoard board) (r : ℕ) (rail : Rail) (there : slice_get board.rails r ≡ Some rail) (first : List (List ℕ)) (chips : length first ≡ board.chips) (hold : HoldFields board first) (goal : ℕ) (has : Contains (allowed rail) goal) where
  module _ (changeable : rail.changeable ≡ true) where
    stops_between : (vs : List ℕ) (u : ℕ) (regs : List (List ℕ)) → All (IsStop (allowed rail) goal has (uv rail first)) vs
        → Contains (allowed rail) u → IsBetween (uv rail first) goal u → IsMovedAlone board r rail first u regs
        → Throughout (StandsBetween board r rail first goal) board regs (moves_to board r vs)
    stops_between [] u regs all among between moved = record { at = u; among = among; between = between; moved = moved }
    stops_between (v ∷ vs) u regs all among between moved =
        let stop = All-head (IsStop (allowed rail) goal has (uv rail first)) v vs all in (
          record { at = u; among = among; between = between; moved = moved },
          stops_between vs v _ (All-tail (IsStop (allowed rail) goal has (uv rail first)) v vs all) stop.among stop.between
              (moved_on board sound r rail there changeable first chips hold u v regs moved stop.among),
        )

    ends_at : (vs : List ℕ) (u : ℕ) (regs : List (List ℕ)) → All (IsStop (allowed rail) goal has (uv rail first)) vs → IsMovedAlone board r rail first u regs
        → IsMovedAlone board r rail first (end_of u vs) (after_moves board regs (moves_to board r vs))
    ends_at [] u regs all moved = moved
    ends_at (v ∷ vs) u regs all moved =
        let stop = All-head (IsStop (allowed rail) goal has (uv rail first)) v vs all in
        ends_at vs v _ (All-tail (IsStop (allowed rail) goal has (uv rail first)) v vs all)
        (moved_on board sound r rail there changeable first chips hold u v regs moved stop.among)

  module _ (law : Law board first) where
    -- where it stands is one of its values
    stands_among : Contains (allowed rail) (uv rail first)
    stands_among = from_taken (allowed rail) (uv rail first) (law.values r rail there)

    stays : uv rail first ≡ goal → (vs : List ℕ) → vs ≡ [] → Throughout (StandsBetween board r rail first goal) board first (moves_to board r vs)
    stays same vs none = rw none (record {
      at = uv rail first;
      among = stands_among;
      between = inl (omega arith, omega arith);
      moved = unmoved board sound r rail there first hold.image;
    })

    stays_at : uv rail first ≡ goal → (vs : List ℕ) → vs ≡ [] → IsMovedAlone board r rail first goal (after_moves board first (moves_to board r vs))
    stays_at same vs none = rw none (subst (λ v. IsMovedAlone board r rail first v first) same (unmoved board sound r rail there first hold.image))

    no_values : rail.changeable ≡ false → (uv rail first ≡ goal) × (values_to (allowed rail) goal (uv rail first) ≡ [])
    no_values fixed =
        let same : uv rail first ≡ goal = one_value rail (uv rail first) fixed stands_among ∙ sym (one_value rail goal fixed has) in
        (same, ap (values_to (allowed rail) goal) same ∙ values_to-same (allowed rail) goal)

    -- after each of its moves the rail stands between
    pub moves_between : Throughout (StandsBetween board r rail first goal) board first (moves_to board r (values_to (allowed rail) goal (uv rail first)))
    moves_between = elim (cases_Bool rail.changeable) [
      | inl changeable ↦
          let stands : IsBetween (uv rail first) goal (uv rail first) = from_here (uv rail first) goal in
          stops_between changeable (values_to (allowed rail) goal (uv rail first)) (uv rail first) first
          (values_to-stops (allowed rail) goal has (uv rail first)) stands_among stands (unmoved board sound r rail there first hold.image)
      | inr fixed ↦ let none = no_values fixed in stays none.0 (values_to (allowed rail) goal (uv rail first)) none.1
    ]
      where
        from_here : (u g : ℕ) → IsBetween u g u
        from_here u g = elim (cases_lt u g) [ inl less ↦ inl (omega arith, omega arith) | inr most ↦ inr (most, omega arith) ]

    -- after all of them it stands at the goal
    pub moves_end : IsMovedAlone board r rail first goal (after_moves board first (moves_to board r (values_to (allowed rail) goal (uv rail first))))
    moves_end = elim (cases_Bool rail.changeable) [
      | inl changeable ↦
          subst (λ v. IsMovedAlone board r rail first v (after_moves board first (moves_to board r (values_to (allowed rail) goal (uv rail first)))))
          (end_of-values_to (allowed rail) goal has (uv rail first))
          (ends_at changeable (values_to (allowed rail) goal (uv rail first)) (uv rail first) first
          (values_to-stops (allowed rail) goal has (uv rail first)) (unmoved board sound r rail there first hold.image))
      | inr fixed ↦ let none = no_values fixed in stays_at none.0 (values_to (allowed rail) goal (uv rail first)) none.1
    ]

    -- and so it does after the first so many
    pub stop_between : (made : ℕ) → StandsBetween board r rail first goal (after_moves board first (take made (moves_to board r (values_to (allowed rail) goal (uv rail first)))))
    stop_between made =
        Throughout-after (StandsBetween board r rail first goal) board first (take made (moves_to board r (values_to (allowed rail) goal (uv rail first))))
        (Throughout-take (StandsBetween board r rail first goal) board first (moves_to board r (values_to (allowed rail) goal (uv rail first))) made moves_between)

-- the values that a rail may stand at, by its number
pub allowed_at-rail : (board : Board) (r : ℕ) (rail : Rail) → slice_get board.rails r ≡ Some rail → allowed_at board r ≡ allowed rail
allowed_at-rail board r rail there = ap (λ o. map (λ (pair : ℕ × ℕ). pair.1) (choices_of o)) there

-- the way to values that differ at rail r alone is the moves of that rail
pub path_is : (board : Board) (sound : IsSoundBoard board) (untied : IsUntied board) (r : ℕ) (rail : Rail) (regs : List (List ℕ)) (goal : ℕ) → slice_get board.rails r ≡ Some rail
    → Contains (allowed rail) goal → path board (standing_values board regs) (slice_set (standing_values board regs) r goal) ≡ moves_to board r (values_to (allowed rail) goal (uv rail regs))
path_is board sound untied r rail regs goal there has =
    let below : r < length board.rails = slice_get_within board.rails r rail there in
    let as_many : count_of board.graph ≡ length board.rails = ap length sound.graph.groups ∙ length-map board.rails _ in
    let among : Contains (allowed_at board r) goal = subst (λ (ns : List ℕ). Contains {X = ℕ} ns goal) (sym (allowed_at-rail board r rail there)) has in
    let within : r < length (standing_values board regs) = omega (arith, length-map board.rails (λ a. uv a regs)) in
    path-alone board untied r (omega arith) (sound.order.all r (omega arith)) goal among (standing_values board regs) within
    ∙ ap (λ u. moves_to board r (values_to (allowed_at board r) goal u)) (mapped_at (λ a. uv a regs) board.rails r rail there)
    ∙ ap (λ ns. moves_to board r (values_to ns goal (uv rail regs))) (allowed_at-rail board r rail there)
