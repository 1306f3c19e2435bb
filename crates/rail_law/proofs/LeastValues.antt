-- The least admissible values: where any are admissible there are least ones, and only one list of them.
use Rattle.std.proofs.Common.{◌≡◌, ℕ, zero, suc, ◌<◌, List, [], ◌∷◌, Option, Some, None, MatchOption, ap, subst, arith, length, get_or, ext_get_or, fold, All, Contains}
use Rattle.std.specs.List.{AllZip}
use Rattle.std.proofs.lemmas.List.Elements.{All-head, All-tail, All-contains}
use Rattle.rail_law.specs.Ties.{Tie}
use Rattle.rail_law.specs.Least.{admissible, lower, lowest, least_vector, IsAdmissible, IsAtMost, IsLeast, AreFewer}
use Rattle.rail_law.proofs.Admissible.{all_admissible, has_admissible, lower_at, as_long, admissible_lower}

-- the lowest of some values is admissible where they are
lowest_admissible : (choices : List (List ℕ)) (ties : List Tie) (v : List ℕ) (vs : List (List ℕ)) → IsAdmissible choices ties v → All (IsAdmissible choices ties) vs
    → IsAdmissible choices ties (fold lower v vs)
lowest_admissible choices ties v [] first others = first
lowest_admissible choices ties v (w ∷ vs) first others =
    lowest_admissible choices ties (lower v w) vs (admissible_lower choices ties v w first (All-head (IsAdmissible choices ties) w vs others)) (All-tail (IsAdmissible choices ties) w vs others)

-- and at most each of them
lowest_at_first : (v : List ℕ) (vs : List (List ℕ)) → IsAtMost (fold lower v vs) v
lowest_at_first v [] i = omega arith
lowest_at_first v (w ∷ vs) i = omega (arith, lowest_at_first (lower v w) vs i, lower_at v w i)

lowest_at : (v : List ℕ) (vs : List (List ℕ)) (w : List ℕ) (k : ℕ) → k < length (v ∷ vs) → get_or (v ∷ vs) k w ≡ w → IsAtMost (fold lower v vs) w
lowest_at v vs w zero within is = subst (IsAtMost (fold lower v vs)) is (lowest_at_first v vs)
lowest_at v [] w (suc k) within is = absurd (omega arith)
lowest_at v (x ∷ vs) w (suc zero) within is =
    let below : IsAtMost (fold lower (lower v x) vs) x = λ i. omega (arith, lowest_at_first (lower v x) vs i, lower_at v x i) in
    subst (IsAtMost (fold lower (lower v x) vs)) is below
lowest_at v (x ∷ vs) w (suc (suc k)) within is = lowest_at (lower v x) vs w (suc k) (omega arith) is

answered : (choices : List (List ℕ)) (ties : List Tie) (vs : List (List ℕ)) → All (IsAdmissible choices ties) vs → ((v : List ℕ) → IsAdmissible choices ties v → Contains vs v)
    → MatchOption (lowest vs) ((v : List ℕ) → ¬ IsAdmissible choices ties v) (IsLeast choices ties)
answered choices ties [] all has = λ v is. let there = has v is in absurd (omega (arith, there.1))
answered choices ties (v ∷ vs) all has = record {
  itself = lowest_admissible choices ties v vs (All-head (IsAdmissible choices ties) v vs all) (All-tail (IsAdmissible choices ties) v vs all);
  least = λ w is. let there = has w is in lowest_at v vs w there.0 there.1 there.2;
}

pub least_exists_lem : (choices : List (List ℕ)) (ties : List Tie) → MatchOption (least_vector choices ties) ((v : List ℕ) → ¬ IsAdmissible choices ties v) (IsLeast choices ties)
least_exists_lem choices ties = answered choices ties (admissible choices ties) (all_admissible choices ties) (has_admissible choices ties)

-- two least lists are one
pub one_least_lem : (choices : List (List ℕ)) (ties : List Tie) (us vs : List ℕ) → IsLeast choices ties us → IsLeast choices ties vs → us ≡ vs
one_least_lem choices ties us vs first second =
    ext_get_or 0 us vs (as_long choices ties us vs first.itself second.itself)
    (λ i within. omega (arith, first.least vs second.itself i, second.least us first.itself i))

found : (choices : List (List ℕ)) (ties : List Tie) (vs : List ℕ) (answer : Option (List ℕ)) → MatchOption answer ((v : List ℕ) → ¬ IsAdmissible choices ties v) (IsLeast choices ties)
    → IsLeast choices ties vs → answer ≡ Some vs
found choices ties vs None none is = absurd (none vs is.itself)
found choices ties vs (Some us) least is = ap Some (one_least_lem choices ties us vs least is)

pub least_is_found : (choices : List (List ℕ)) (ties : List Tie) (vs : List ℕ) → IsLeast choices ties vs → least_vector choices ties ≡ Some vs
least_is_found choices ties vs is = found choices ties vs (least_vector choices ties) (least_exists_lem choices ties) is

-- what is chosen from fewer values is chosen from more
chosen_of_more : (fewer choices : List (List ℕ)) (vs : List ℕ) → AreFewer fewer choices → AllZip Contains fewer vs → AllZip Contains choices vs
chosen_of_more [] [] vs are chosen = chosen
chosen_of_more [] (many ∷ choices) vs are chosen = absurd are
chosen_of_more (few ∷ fewer) [] vs are chosen = absurd are
chosen_of_more (few ∷ fewer) (many ∷ choices) [] are chosen = absurd chosen
chosen_of_more (few ∷ fewer) (many ∷ choices) (v ∷ vs) are chosen = (All-contains (Contains many) few v are.0 chosen.0, chosen_of_more fewer choices vs are.1 chosen.1)

pub fewer_choices_lem : (fewer choices : List (List ℕ)) (ties : List Tie) (us vs : List ℕ) → AreFewer fewer choices → IsLeast fewer ties us → IsLeast choices ties vs → IsAtMost vs us
fewer_choices_lem fewer choices ties us vs are few many =
    many.least us (record { chosen = chosen_of_more fewer choices us are few.itself.chosen; kept = few.itself.kept })
