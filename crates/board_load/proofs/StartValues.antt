-- A rail has a value that it may be given, and the least of them is where it is to stand.
use Rattle.std.proofs.Common.{◌≡◌, ◌≢◌, ℕ, zero, suc, ◌+◌, ◌≤◌, Bool, true, false, cond, leb, max, List, [], ◌∷◌, Option, Some, None, inl, inr, refl, ap, ◌∙◌, subst, arith, map, filter, All, Contains, le-leb}
use Rattle.std.specs.Prelude.{IfSome, MatchOption, find, unwrap_or, is_none}
use Rattle.std.specs.List.{AllZip, enumerate_from}
use Rattle.std.specs.Option.{option_map_or}
use Rattle.std.proofs.lemmas.Bool.{cases_lt}
use Rattle.std.proofs.lemmas.List.Elements.{All-nil, All-cons, All-head, All-tail, All-map, All-weaker, All-contains}
use Rattle.std.proofs.lemmas.Option.{same_Some}
use Rattle.board_graph.specs.Order.{is_taken}
use Rattle.board_graph.specs.Sets.{rails_of, movers}
use Rattle.board.specs.declared.board.Board.{Board}
use Rattle.board.specs.declared.rail.Rail.{Rail}
use Rattle.board.specs.Rail.{uv, is_on, lesser, least}
use Rattle.rail_law.specs.Ties.{Tie}
use Rattle.rail_law.specs.Least.{least_vector, IsAdmissible, IsAtMost, IsLeast}
use Rattle.rail_law.proofs.Admissible.{in_more, in_filtered}
use Rattle.rail_law.proofs.LeastValues.{least_exists_lem, least_is_found}
use Rattle.rail_law.proofs.Members.{All-rails}
use Rattle.plain_board.specs.Untied.{IsUntied}
use Rattle.plain_board.proofs.AloneLeast.{IsLeastIn, least_is}
use Rattle.plain_board.proofs.Run.{filtered}
use Rattle.plain_board.proofs.Untied.{ties_none}
use Rattle.board_load.specs.Start.{values_inside, loadable, greatest, floor, start_values, targets, choices_within, ties_within, lacks_vector, no_vector}
use Rattle.board_load.specs.Loading.{HasValueInside}
use Rattle.board_load.specs.Inside.Targets.{start_of}

-- there is a number in the list
abbrev pub HasSome : List ℕ → Type 0
HasSome ns = (v : ℕ) × Contains ns v

has_first : (ns : List ℕ) → ns ≢ [] → HasSome ns
has_first [] some = absurd (some refl)
has_first (n ∷ ns) some = (n, (0, omega arith, refl))

-- the values that a rail may be given: one at the least
pub some_loadable : (rail : Rail) (regs : List (List ℕ)) → HasValueInside rail → loadable rail regs ≢ []
some_loadable rail regs has = by rail.limits.bounds has where
  by : (o : Option (ℕ × ℕ)) → IfSome o (λ bounds. values_inside rail bounds ≢ []) → option_map_or (values_inside rail) o (uv rail regs ∷ []) ≢ []
  by None some = λ is. cc
  by (Some bounds) some = some

-- the greatest of some numbers is one of them
greatest_by : (n g : ℕ) (ns : List ℕ) (o : Option ℕ) → ((m : ℕ) → o ≡ Some m → Contains ns m) → Some (option_map_or (max n) o n) ≡ Some g → Contains (n ∷ ns) g
greatest_by n g ns None rest is = (0, omega arith, same_Some n g is)
greatest_by n g ns (Some m) rest is =
    let same : max n m ≡ g = same_Some (max n m) g is in
    elim (cases_lt n m) [
      | inl less ↦ let e : m ≡ g = omega (arith, same) in in_more g ns n (subst (λ (k : ℕ). Contains {X = ℕ} ns k) e (rest m refl))
      | inr most ↦ let e : n ≡ g = omega (arith, same) in (0, omega arith, e)
    ]

pub greatest_in : (ns : List ℕ) (g : ℕ) → greatest ns ≡ Some g → Contains ns g
greatest_in [] g is = absurd (cc)
greatest_in (n ∷ ns) g is = greatest_by n g ns (greatest ns) (λ m. greatest_in ns m) is

-- one of them isn't below the floor
from_floor : (ns : List ℕ) (u : ℕ) (on : Bool) → ns ≢ [] → HasSome (filter (leb (cond on (unwrap_or (greatest (filter (λ n. leb n u) ns)) 0) 0)) ns)
from_floor ns u false some =
    let first = has_first ns some in
    let has = first.1 in
    (first.0, in_filtered (leb 0) ns first.0 has.0 has.1 has.2 (le-leb 0 first.0 (omega arith)))
from_floor ns u true some = by (greatest (filter (λ n. leb n u) ns)) refl where
  by : (o : Option ℕ) → greatest (filter (λ n. leb n u) ns) ≡ o → HasSome (filter (leb (unwrap_or o 0)) ns)
  by None none =
      let first = has_first ns some in
      let has = first.1 in
      (first.0, in_filtered (leb 0) ns first.0 has.0 has.1 has.2 (le-leb 0 first.0 (omega arith)))
  by (Some g) is =
      let has = filtered (λ n. leb n u) ns g (greatest_in (filter (λ n. leb n u) ns) g is) in
      (g, in_filtered (leb g) ns g has.0 has.1 has.2 (le-leb g g (omega arith)))

pub some_start : (rail : Rail) (regs : List (List ℕ)) → HasValueInside rail → HasSome (start_values rail regs)
some_start rail regs has = from_floor (loadable rail regs) (uv rail regs) (is_on rail regs) (some_loadable rail regs has)

-- the least of some numbers
least_of_some : (ns : List ℕ) → HasSome ns → IsLeastIn ns (unwrap_or (least ns) 0)
least_of_some [] some = let within = some.1.1 in absurd (omega (arith, within))
least_of_some (n ∷ ns) some = least_is (n ∷ ns) (lesser n (least ns)) refl

pub start_is_least : (rail : Rail) (regs : List (List ℕ)) → HasValueInside rail → IsLeastIn (start_values rail regs) (start_of regs rail)
start_is_least rail regs has = least_of_some (start_values rail regs) (some_start rail regs has)

pub start_is_loadable : (rail : Rail) (regs : List (List ℕ)) → HasValueInside rail → Contains (loadable rail regs) (start_of regs rail)
start_is_loadable rail regs has = filtered (leb (floor rail regs)) (loadable rail regs) (start_of regs rail) (start_is_least rail regs has).among

-- one value of each list, and the least of each
chosen_each : (f : Rail → List ℕ) (g : Rail → ℕ) (rails : List Rail) → All (λ rail. IsLeastIn (f rail) (g rail)) rails → AllZip Contains (map f rails) (map g rails)
chosen_each f g [] all = tt
chosen_each f g (rail ∷ rails) all =
    ((All-head (λ r. IsLeastIn (f r) (g r)) rail rails all).among, chosen_each f g rails (All-tail (λ r. IsLeastIn (f r) (g r)) rail rails all))

at_most_each : (f : Rail → List ℕ) (g : Rail → ℕ) (rails : List Rail) (other : List ℕ) → All (λ rail. IsLeastIn (f rail) (g rail)) rails
    → AllZip Contains (map f rails) other → IsAtMost (map g rails) other
at_most_each f g [] other all chosen i = omega arith
at_most_each f g (rail ∷ rails) [] all chosen i = absurd chosen
at_most_each f g (rail ∷ rails) (v ∷ other) all chosen zero =
    All-contains (λ n. g rail ≤ n) (f rail) v (All-head (λ r. IsLeastIn (f r) (g r)) rail rails all).least chosen.0
at_most_each f g (rail ∷ rails) (v ∷ other) all chosen (suc i) =
    at_most_each f g rails other (All-tail (λ r. IsLeastIn (f r) (g r)) rail rails all) chosen.1 i

-- where no value binds another, each rail is to stand at its least value
pub targets_are : (board : Board) (regs : List (List ℕ)) → IsUntied board → All HasValueInside board.rails → targets board regs ≡ Some (map (start_of regs) board.rails)
targets_are board regs untied inside =
    let starts : Rail → List ℕ = λ rail. start_values rail regs in
    let all : All (λ rail. IsLeastIn (starts rail) (start_of regs rail)) board.rails =
    All-weaker HasValueInside (λ rail. IsLeastIn (starts rail) (start_of regs rail)) (λ rail. start_is_least rail regs) board.rails inside in
    ap (least_vector (map starts board.rails)) (ties_none board untied)
    ∙ least_is_found (map starts board.rails) [] (map (start_of regs) board.rails) (record {
      itself = record { chosen = chosen_each starts (start_of regs) board.rails all; kept = refl };
      least = λ other admissible. at_most_each starts (start_of regs) board.rails other all admissible.chosen;
    })

-- where each list has a value, there are least values without ties
some_chosen : (choices : List (List ℕ)) → All HasSome choices → (vector : List ℕ) × AllZip Contains choices vector
some_chosen [] all = ([], tt)
some_chosen (ns ∷ choices) all =
    let first = All-head HasSome ns choices all in
    let rest = some_chosen choices (All-tail HasSome ns choices all) in
    (first.0 ∷ rest.0, (first.1, rest.1))

some_least : (choices : List (List ℕ)) → All HasSome choices → is_none (least_vector choices []) ≡ false
some_least choices all = by (least_vector choices []) (least_exists_lem choices []) where
  by : (o : Option (List ℕ)) → MatchOption o ((vector : List ℕ) → ¬ IsAdmissible choices [] vector) (IsLeast choices []) → is_none o ≡ false
  by None none = let some = some_chosen choices all in absurd (none some.0 (record { chosen = some.1; kept = refl }))
  by (Some vector) least = refl

pub all_numbered : {X : Type 0} (P : X → Type 0) (n : ℕ) (xs : List X) → All P xs → All (λ p. P p.1) (enumerate_from n xs)
all_numbered P n [] all = All-nil (λ p. P p.1)
all_numbered P n (x ∷ xs) all = All-cons (λ p. P p.1) (n, x) (enumerate_from (n + 1) xs) (All-head P x xs all) (all_numbered P (n + 1) xs (All-tail P x xs all))

pub find_none : {X : Type 0} (test : X → Bool) (xs : List X) → All (λ x. test x ≡ false) xs → find test xs ≡ None
find_none test [] all = refl
find_none test (x ∷ xs) all = let head = All-head (λ y. test y ≡ false) x xs all in rw head (find_none test xs (All-tail (λ y. test y ≡ false) x xs all))

one_choice : (t : Bool) (ns : List ℕ) → HasSome ns → HasSome (cond t ns (0 ∷ []))
one_choice true ns some = some
one_choice false ns some = (0, (0, omega arith, refl))

pub no_vector_none : (board : Board) (regs : List (List ℕ)) → IsUntied board → All HasValueInside board.rails → no_vector board regs ≡ None
no_vector_none board regs untied inside = find_none (lacks_vector board regs) (rails_of board.graph) (All-rails (λ r. lacks_vector board regs r ≡ false) board.graph (λ r below. at r)) where
  each : (moving : List ℕ) → All HasSome (choices_within moving board regs)
  each moving =
      All-map HasSome (λ (rail : ℕ × Rail). cond (is_taken moving rail.0) (start_values rail.1 regs) (0 ∷ [])) (enumerate_from 0 board.rails)
      (All-weaker (λ (rail : ℕ × Rail). HasValueInside rail.1) (λ (rail : ℕ × Rail). HasSome (cond (is_taken moving rail.0) (start_values rail.1 regs) (0 ∷ [])))
      (λ rail has. one_choice (is_taken moving rail.0) (start_values rail.1 regs) (some_start rail.1 regs has)) (enumerate_from 0 board.rails)
      (all_numbered HasValueInside 0 board.rails inside))

  at : (r : ℕ) → lacks_vector board regs r ≡ false
  at r =
      let moving = movers board.graph r in
      ap (λ (ties : List Tie). is_none (least_vector (choices_within moving board regs) (ties_within moving ties))) (ties_none board untied)
      ∙ some_least (choices_within moving board regs) (each moving)
