-- What is admissible, at most, least and fewer, worked out by hand.
use Rattle.std.proofs.Common.{◌≡◌, ℕ, zero, suc, ◌<◌, List, [], ◌∷◌, refl, sym, arith, get_or, Contains}
use Rattle.std.specs.List.{AllZip}
use Rattle.std.proofs.lemmas.List.Elements.{All-from_recursion}
use Rattle.board_graph.proofs.FailsBy.{FailsBy}
use Rattle.rail_law.specs.Ties.{Tie, KeepsAll}
use Rattle.rail_law.specs.Least.{IsAdmissible, IsAtMost, IsLeast, AreFewer}
use Rattle.rail_law.proofs.WorkedBoardTies.{at_most_above}
use Rattle.rail_law.proofs.LeastValues.{least_exists_lem}

-- a number isn't in a list of one or of two others
not_in_one : (n m : ℕ) → ¬ (n ≡ m) → ¬ Contains (m ∷ []) n
not_in_one n m differ has = at has.0 has.1 has.2 where
  at : (k : ℕ) → k < 1 → get_or (m ∷ []) k n ≡ n → ⊥
  at zero within is = differ (sym is)
  at (suc k) within is = absurd (omega arith)

not_in_two : (n m l : ℕ) → ¬ (n ≡ m) → ¬ (n ≡ l) → ¬ Contains (m ∷ l ∷ []) n
not_in_two n m l differ other has = at has.0 has.1 has.2 where
  at : (k : ℕ) → k < 2 → get_or (m ∷ l ∷ []) k n ≡ n → ⊥
  at zero within is = differ (sym is)
  at (suc zero) within is = other (sym is)
  at (suc (suc k)) within is = absurd (omega arith)

-- rail 0 at 5 or 4, rail 1 at 3, and rail 0 at most so much above it
abbrev two_choices : List (List ℕ)
two_choices = (5 ∷ 4 ∷ []) ∷ (3 ∷ []) ∷ []

abbrev within : ℕ → List Tie
within fall = at_most_above 0 1 fall ∷ []

-- where rail 0 stands at 4 all is well, at 2 it stands at no value of its own, and at 5 it may be too high
at_four : IsAdmissible two_choices (within 1) (4 ∷ 3 ∷ [])
at_four = record { chosen = ((1, omega arith, refl), ((0, omega arith, refl), tt)); kept = refl }

not_chosen : FailsBy (AllZip Contains two_choices (2 ∷ 3 ∷ [])) (IsAdmissible two_choices (within 1) (2 ∷ 3 ∷ []))
not_chosen = record {
  needs = λ is. is.chosen;
  suffices = λ chosen. record { chosen = chosen; kept = refl };
  fails = λ chosen. not_in_two 2 5 4 (λ same. absurd (omega arith)) (λ same. absurd (omega arith)) chosen.0;
}

not_kept : FailsBy (KeepsAll (5 ∷ 3 ∷ []) (within 1)) (IsAdmissible two_choices (within 1) (5 ∷ 3 ∷ []))
not_kept = record {
  needs = λ is. is.kept;
  suffices = λ kept. record { chosen = ((0, omega arith, refl), ((0, omega arith, refl), tt)); kept = kept };
  fails = λ kept. cc;
}

-- as much is at most as much
at_most : IsAtMost (1 ∷ 2 ∷ []) (1 ∷ 3 ∷ [])
at_most zero = omega arith
at_most (suc zero) = omega arith
at_most (suc (suc i)) = omega arith

not_at_most : ¬ IsAtMost (1 ∷ 3 ∷ []) (9 ∷ 2 ∷ [])
not_at_most is = absurd (omega (arith, is 1))

-- what is least is admissible, and what is admissible isn't least where something has less
least_of_two : IsLeast two_choices (within 2) (4 ∷ 3 ∷ [])
least_of_two = least_exists_lem two_choices (within 2)

least_is_chosen : ¬ IsLeast two_choices (within 2) (2 ∷ 3 ∷ [])
least_is_chosen is = not_in_two 2 5 4 (λ same. absurd (omega arith)) (λ same. absurd (omega arith)) is.itself.chosen.0

more_than_least : FailsBy ((other : List ℕ) → IsAdmissible two_choices (within 2) other → IsAtMost (5 ∷ 3 ∷ []) other) (IsLeast two_choices (within 2) (5 ∷ 3 ∷ []))
more_than_least = record {
  needs = λ is. is.least;
  suffices = λ least. record { itself = record { chosen = ((0, omega arith, refl), ((0, omega arith, refl), tt)); kept = refl }; least = least };
  fails = λ least. absurd (omega (arith, least (4 ∷ 3 ∷ []) (record { chosen = ((1, omega arith, refl), ((0, omega arith, refl), tt)); kept = refl }) 0));
}

-- a list is fewer than one that has it all, and not than one that lacks one of its values
fewer : AreFewer ((2 ∷ []) ∷ (7 ∷ 6 ∷ []) ∷ []) ((1 ∷ 2 ∷ []) ∷ (6 ∷ 7 ∷ []) ∷ [])
fewer = (
  All-from_recursion (Contains (1 ∷ 2 ∷ [])) (2 ∷ []) ((1, omega arith, refl), tt),
  (All-from_recursion (Contains (6 ∷ 7 ∷ [])) (7 ∷ 6 ∷ []) ((1, omega arith, refl), ((0, omega arith, refl), tt)), tt),
)

not_fewer : ¬ AreFewer ((2 ∷ 1 ∷ []) ∷ []) ((2 ∷ []) ∷ [])
not_fewer are = not_in_one 1 2 (λ same. absurd (omega arith)) (are.0 1 0 (omega arith))
