-- The least values when a rail moves alone, and the goal of its request.
use Rattle.std.proofs.Common.{◌≡◌, ℕ, zero, suc, ◌<◌, ◌≤◌, Bool, true, false, cond, ◌||◌, leb, List, [], ◌∷◌, Option, Some, None, MatchOption, inl, inr, refl, sym, ap, ◌∙◌, subst, arith, map, length, get_or, filter, slice_index, slice_set, All, Contains}
use Rattle.std.specs.Prelude.{option_map, if◌then◌else◌}
use Rattle.std.specs.List.{AllZip, list_all}
use Rattle.std.proofs.lemmas.Bool.{eq-eqb, eqb-true, leb-true, leb-false, or_cases}
use Rattle.std.proofs.lemmas.List.{length-map, length-set, get_or-set_same, get_or-set_other, same_lists, get_or_default}
use Rattle.std.proofs.lemmas.List.Elements.{All-nil, All-cons, All-weaker, All-contains}
use Rattle.std.proofs.lemmas.List.FromFn.{length-map-range_with_len, get_or-map-range_with_len}
use Rattle.std.proofs.lemmas.Option.{same_Some}
use Rattle.board_graph.specs.Graph.{count_of, IsGraph}
use Rattle.board_graph.specs.Order.{is_taken}
use Rattle.board_graph.specs.Sets.{rails_of, movers}
use Rattle.board.specs.declared.board.Board.{Board}
use Rattle.board.specs.Fields.{allowed_at}
use Rattle.board.specs.Rail.{lesser, least}
use Rattle.rail_law.specs.BoardTies.{standing_values, ties_at}
use Rattle.rail_law.specs.Least.{choices_among, least_vector, least_of, IsAdmissible, IsAtMost, IsLeast}
use Rattle.rail_law.proofs.LeastValues.{least_exists_lem, least_is_found}
use Rattle.plain_board.specs.declared.plain.Plain.{Plain}
use Rattle.plain_board.specs.Requests.{meets, asked, with_moved, goal_of}
use Rattle.plain_board.specs.Untied.{IsUntied}
use Rattle.plain_board.proofs.Untied.{movers_alone, ties_at_none}

-- the least of a list is in it, and no number of it is less
pub record IsLeastIn (ns : List ℕ) (v : ℕ) : Type 0 where
  pub among : Contains ns v
  pub least : All (λ n. v ≤ n) ns

first_least : (n v : ℕ) (ns : List ℕ) → n ≡ v → All (λ m. n ≤ m) ns → IsLeastIn (n ∷ ns) v
first_least n v ns is all = record {
  among = (0, omega arith, is);
  least = All-cons (λ m. v ≤ m) n ns (omega arith) (All-weaker (λ m. n ≤ m) (λ m. v ≤ m) (λ m at. omega arith) ns all);
}

later_least : (n v : ℕ) (ns : List ℕ) → v ≤ n → IsLeastIn ns v → IsLeastIn (n ∷ ns) v
later_least n v ns less is = record {
  among = (suc is.among.0, omega (arith, is.among.1), is.among.2);
  least = All-cons (λ m. v ≤ m) n ns less is.least;
}

least_of_two : (n m v : ℕ) (ns : List ℕ) (t : Bool) → leb n m ≡ t → cond t n m ≡ v → IsLeastIn ns m → IsLeastIn (n ∷ ns) v
least_of_two n m v ns true is chosen rest =
    let below = leb-true n m is in first_least n v ns chosen (All-weaker (λ k. m ≤ k) (λ k. n ≤ k) (λ k at. omega arith) ns rest.least)
least_of_two n m v ns false is chosen rest =
    let above = leb-false n m is in later_least n v ns (omega arith) (subst (IsLeastIn ns) chosen rest)

no_least : (ns : List ℕ) → least ns ≡ None → ns ≡ []
no_least [] is = refl
no_least (n ∷ ns) is = absurd (cc)

least_step : (n v : ℕ) (ns : List ℕ) (rest : Option ℕ) → least ns ≡ rest → ((m : ℕ) → rest ≡ Some m → IsLeastIn ns m) → lesser n rest ≡ v → IsLeastIn (n ∷ ns) v
least_step n v ns None is each chosen = let none = no_least ns is in first_least n v ns chosen (rw none (All-nil (λ m. n ≤ m)))
least_step n v ns (Some m) is each chosen = least_of_two n m v ns (leb n m) refl chosen (each m refl)

pub least_is : (ns : List ℕ) (v : ℕ) → least ns ≡ Some v → IsLeastIn ns v
least_is [] v is = absurd (cc)
least_is (n ∷ ns) v is = least_step n v ns (least ns) refl (λ m. least_is ns m) (same_Some _ _ is)

-- values chosen by the rails of a list
chosen_each : (f : ℕ → List ℕ) (g : ℕ → ℕ) (xs : List ℕ) → ((i : ℕ) → Contains (f i) (g i)) → AllZip Contains (map f xs) (map g xs)
chosen_each f g [] each = tt
chosen_each f g (x ∷ xs) each = (each x, chosen_each f g xs each)

at_most_each : (f : ℕ → List ℕ) (g : ℕ → ℕ) (xs other : List ℕ) → ((i v : ℕ) → Contains (f i) v → g i ≤ v) → AllZip Contains (map f xs) other → IsAtMost (map g xs) other
at_most_each f g [] other each chosen i = omega arith
at_most_each f g (x ∷ xs) [] each chosen i = absurd chosen
at_most_each f g (x ∷ xs) (v ∷ other) each chosen zero = each x v chosen.0
at_most_each f g (x ∷ xs) (v ∷ other) each chosen (suc i) = at_most_each f g xs other each chosen.1 i

picked : (choices : List (List ℕ)) (vector : List ℕ) (i : ℕ) → AllZip Contains choices vector → i < length choices → Contains {X = ℕ} (get_or choices i []) (get_or vector i 0)
picked [] vector i chosen within = absurd (omega arith)
picked (values ∷ choices) [] i chosen within = absurd chosen
picked (values ∷ choices) (v ∷ vector) zero chosen within = chosen.0
picked (values ∷ choices) (v ∷ vector) (suc i) chosen within = picked choices vector i chosen.1 (omega arith)

-- the values of all rails, where those of all but one are 0
abbrev pub alone_at : ℕ → ℕ → ℕ → ℕ
alone_at r v i = if is_taken (r ∷ []) i then v else 0

same_by : (i r : ℕ) → is_taken (r ∷ []) i ≡ true → i ≡ r
same_by i r is = elim (or_cases _ _ is) [
  | inl same ↦ eqb-true i r same
  | inr more ↦ absurd (cc)
]

taken_itself : (r : ℕ) → is_taken (r ∷ []) r ≡ true
taken_itself r = ap (λ b. b || false) (eq-eqb r r refl)

module _ (board : Board) (now : List ℕ) (ok : ℕ → ℕ → Bool) (r : ℕ) where
  -- the values among which each rail is chosen
  abbrev among : ℕ → List ℕ
  among = choices_among (r ∷ []) [] now ok board

  abbrev asked_of : List ℕ
  asked_of = filter (ok r) (allowed_at board r)

  chosen_at : (v i : ℕ) (t : Bool) → is_taken (r ∷ []) i ≡ t → Contains asked_of v → Contains (cond t (filter (ok i) (allowed_at board i)) (0 ∷ [])) (cond t v 0)
  chosen_at v i true is has = subst (λ k. Contains (filter (ok k) (allowed_at board k)) v) (sym (same_by i r is)) has
  chosen_at v i false is has = (0, omega arith, refl)

  at_most_at : (v i w : ℕ) (t : Bool) → is_taken (r ∷ []) i ≡ t → All (λ u. v ≤ u) asked_of → Contains (cond t (filter (ok i) (allowed_at board i)) (0 ∷ [])) w → cond t v 0 ≤ w
  at_most_at v i w true is all has = All-contains (λ u. v ≤ u) asked_of w all (subst (λ k. Contains (filter (ok k) (allowed_at board k)) w) (same_by i r is) has)
  at_most_at v i w false is all has = omega arith

  least_alone : (v : ℕ) → IsLeastIn asked_of v → IsLeast (map among (rails_of board.graph)) [] (map (alone_at r v) (rails_of board.graph))
  least_alone v is = record {
    itself = record { chosen = chosen_each among (alone_at r v) (rails_of board.graph) (λ i. chosen_at v i (is_taken (r ∷ []) i) refl is.among); kept = refl };
    least = λ other admissible. at_most_each among (alone_at r v) (rails_of board.graph) other
        (λ i w. at_most_at v i w (is_taken (r ∷ []) i) refl is.least) admissible.chosen;
  }

  module _ (below : r < count_of board.graph) where
    choice_at : get_or (map among (rails_of board.graph)) r [] ≡ asked_of
    choice_at =
        get_or-map-range_with_len among 0 (count_of board.graph) r r [] below (omega arith)
        ∙ ap (λ t. cond t (filter (ok r) (allowed_at board r)) (0 ∷ [])) (taken_itself r)

    no_choice : (vector : List ℕ) → asked_of ≡ [] → IsAdmissible (map among (rails_of board.graph)) [] vector → ⊥
    no_choice vector none is =
        let within : r < length (map among (rails_of board.graph)) = omega (arith, length-map-range_with_len among 0 (count_of board.graph)) in
        let has : Contains {X = ℕ} (get_or (map among (rails_of board.graph)) r []) (get_or vector r 0) = picked (map among (rails_of board.graph)) vector r is.chosen within in
        let nowhere : Contains {X = ℕ} [] (get_or vector r 0) = subst (λ (ns : List ℕ). Contains {X = ℕ} ns (get_or vector r 0)) (choice_at ∙ none) has in
        absurd (omega (arith, nowhere.1))

    none_by : (answer : Option (List ℕ)) → asked_of ≡ [] → MatchOption answer ((vector : List ℕ) → ¬ IsAdmissible (map among (rails_of board.graph)) [] vector) (IsLeast (map among (rails_of board.graph)) []) → answer ≡ None
    none_by None none is = refl
    none_by (Some vector) none is = absurd (no_choice vector none is.itself)

    vector_by : (o : Option ℕ) → least asked_of ≡ o → least_vector (map among (rails_of board.graph)) [] ≡ option_map (λ v. map (alone_at r v) (rails_of board.graph)) o
    vector_by None is = none_by _ (no_least asked_of is) (least_exists_lem (map among (rails_of board.graph)) [])
    vector_by (Some v) is = least_is_found (map among (rails_of board.graph)) [] (map (alone_at r v) (rails_of board.graph)) (least_alone v (least_is asked_of v is))

    -- on a board on which no value binds another, a rail has the least of its own values, and the others are at 0
    pub least_of-alone : IsUntied board → IsGraph board.graph → least_of board now ok r ≡ option_map (λ v. map (alone_at r v) (rails_of board.graph)) (least (filter (ok r) (allowed_at board r)))
    least_of-alone untied graph =
        let moving : movers board.graph r ≡ r ∷ [] = movers_alone board untied r graph below in
        let free : ties_at board r ≡ [] = ties_at_none board untied r in
        ap (λ set. least_vector (map (choices_among set (ties_at board r) now ok board) (rails_of board.graph)) (ties_at board r)) moving
        ∙ ap (λ ties. least_vector (map (choices_among (r ∷ []) ties now ok board) (rails_of board.graph)) ties) free
        ∙ vector_by (least asked_of) refl

module _ (board : Board) (now : List ℕ) (r v : ℕ) (whole : length now ≡ count_of board.graph) where
  moved_at : (i : ℕ) (t : Bool) → i < count_of board.graph → is_taken (r ∷ []) i ≡ t
      → cond t (slice_index (map (alone_at r v) (rails_of board.graph)) i) (slice_index now i) ≡ slice_index (slice_set now r v) i
  moved_at i true below is =
      let same = same_by i r is in
      get_or-map-range_with_len (alone_at r v) 0 (count_of board.graph) i i 0 below (omega arith)
      ∙ ap (λ t. cond t v 0) is
      ∙ sym (rw same (get_or-set_same now r v 0 (omega arith)))
  moved_at i false below is = sym (get_or-set_other now r i v 0 (λ same. absurd (cc (taken_itself r))))

  abbrev moved : ℕ → ℕ
  moved i = if is_taken (r ∷ []) i then slice_index (map (alone_at r v) (rails_of board.graph)) i else slice_index now i

  moved_alone : map moved (rails_of board.graph) ≡ slice_set now r v
  moved_alone =
      let long : length (map moved (rails_of board.graph)) ≡ count_of board.graph = length-map-range_with_len moved 0 (count_of board.graph) in
      same_lists (map moved (rails_of board.graph)) (slice_set now r v) (long ∙ sym (length-set now r v ∙ whole))
      (λ k d within.
      let below : k < count_of board.graph = omega (arith, long) in
      get_or_default (map moved (rails_of board.graph)) k d 0 within
      ∙ get_or-map-range_with_len moved 0 (count_of board.graph) k k 0 below (omega arith)
      ∙ moved_at k (is_taken (r ∷ []) k) below refl
      ∙ get_or_default (slice_set now r v) k 0 d (omega (arith, length-set now r v)))

-- the goal of a request there: all stand where they stood, but for the rail, which has the least value that meets all that is asked
module _ (board : Board) (untied : IsUntied board) (graph : IsGraph board.graph) (count : length board.rails ≡ count_of board.graph) where
  goal_by : (plain : Plain) (r : ℕ) (o : Option ℕ) → r < count_of board.graph
      → option_map (with_moved board (standing_values board plain.regs) r) (option_map (λ v. map (alone_at r v) (rails_of board.graph)) o)
      ≡ option_map (slice_set (standing_values board plain.regs) r) o
  goal_by plain r None below = refl
  goal_by plain r (Some v) below =
      ap (λ set. Some (map (λ i. if is_taken set i then slice_index (map (alone_at r v) (rails_of board.graph)) i else slice_index (standing_values board plain.regs) i) (rails_of board.graph))) (movers_alone board untied r graph below)
      ∙ ap Some (moved_alone board (standing_values board plain.regs) r v (length-map board.rails _ ∙ count))

  pub goal_of-alone : (plain : Plain) (worker : ℕ) (name : List ℕ) (r : ℕ) (request : ℕ × ℕ) → r < count_of board.graph
      → goal_of board plain worker name r request
      ≡ option_map (slice_set (standing_values board plain.regs) r) (least (filter (λ uv. list_all (meets uv) (asked plain.handles worker name r request r)) (allowed_at board r)))
  goal_of-alone plain worker name r request below =
      ap (option_map (with_moved board (standing_values board plain.regs) r))
      (least_of-alone board (standing_values board plain.regs) (λ i uv. list_all (meets uv) (asked plain.handles worker name r request i)) r below untied graph)
      ∙ goal_by plain r (least (filter (λ uv. list_all (meets uv) (asked plain.handles worker name r request r)) (allowed_at board r))) below
