-- What a board tells of its rails by their numbers, worked out by hand.
use Rattle.std.specs.Prelude.{◌≡◌, ℕ, ◌<◌, ◌≤◌, List, [], ◌∷◌, Some, None, All, Contains}
use Rattle.std.proofs.Common.{refl, arith, zero, suc, length, get_or}
use Rattle.std.proofs.lemmas.Option.{same_Some}
use Rattle.std.proofs.lemmas.List.Elements.{All-from_recursion}
use Rattle.board_graph.proofs.FailsBy.{FailsBy}
use Rattle.board.specs.declared.part.Part.TheVariants.{Selector, Enable, ModePart}
use Rattle.board.specs.Fields.{field_at, choices_at, allowed_at, HasValueAt, IsLeastAbove, IsGreatestBelow}
use Rattle.board.proofs.Boards.{low_bits, supplied_board}

field_of_second : field_at supplied_board 1 Selector ≡ Some (low_bits 0x13 0x07)
field_of_second = refl

no_field_of_third : field_at supplied_board 2 ModePart ≡ None
no_field_of_third = refl

no_field_of_fourth : field_at supplied_board 3 Enable ≡ None
no_field_of_fourth = refl

choices_of_third : choices_at supplied_board 2 ≡ (0, 5000000) ∷ []
choices_of_third = refl

choices_of_fourth : choices_at supplied_board 3 ≡ []
choices_of_fourth = refl

allowed_of_second : allowed_at supplied_board 1 ≡ 1200000 ∷ 1500000 ∷ 1800000 ∷ 2500000 ∷ 2800000 ∷ 3000000 ∷ 3200000 ∷ 3300000 ∷ []
allowed_of_second = refl

-- the selector 3 of the second rail has 2500000 µV; of the third no selector tells anything
has_value : HasValueAt supplied_board 1 3 2500000
has_value changes = refl

has_other_value : ¬ HasValueAt supplied_board 1 3 2500001
has_other_value has = absurd (omega (arith, same_Some 2500000 2500001 (has refl)))

tells_nothing : (sel uv : ℕ) → HasValueAt supplied_board 2 sel uv
tells_nothing sel uv changes = absurd (cc)

-- of 30, 10, 20 and 20 the nearest to 15 from above is 20
abbrev some_values : List ℕ
some_values = 30 ∷ 10 ∷ 20 ∷ 20 ∷ []

abbrev no_less : ℕ → ℕ → ℕ → Type 0
no_less u least v = u ≤ v → least ≤ v

least_above : IsLeastAbove some_values 15 20
least_above = record {
  among = (2, omega arith, refl);
  not_below = omega arith;
  no_lesser = All-from_recursion (no_less 15 20) some_values ((λ _. omega arith), ((λ above. absurd (omega arith)), ((λ _. omega arith), ((λ _. omega arith), tt))));
}

-- a value is above itself
least_above_itself : IsLeastAbove some_values 20 20
least_above_itself = record {
  among = (2, omega arith, refl);
  not_below = omega arith;
  no_lesser = All-from_recursion (no_less 20 20) some_values ((λ _. omega arith), ((λ above. absurd (omega arith)), ((λ _. omega arith), ((λ _. omega arith), tt))));
}

abbrev thirty : List ℕ
thirty = 30 ∷ []

only_30 : (k : ℕ) → k < length thirty → get_or thirty k 20 ≡ 20 → ⊥
only_30 zero within is = absurd (omega arith)
only_30 (suc k) within is = absurd (omega arith)

not_among : FailsBy (Contains thirty 20) (IsLeastAbove thirty 15 20)
not_among = record {
  needs = λ best. best.among;
  suffices = λ among. record { among = among; not_below = omega arith; no_lesser = All-from_recursion (no_less 15 20) thirty ((λ _. omega arith), tt) };
  fails = λ here. absurd (only_30 here.0 here.1 here.2);
}

below_asked : FailsBy (15 ≤ 10) (IsLeastAbove some_values 15 10)
below_asked = record {
  needs = λ best. best.not_below;
  suffices = λ above. record { among = (1, omega arith, refl); not_below = above; no_lesser = All-from_recursion (no_less 15 10) some_values ((λ _. omega arith), ((λ above. omega arith), ((λ _. omega arith), ((λ _. omega arith), tt)))) };
  fails = λ above. absurd (omega arith);
}

lesser_there : FailsBy (All (no_less 20 30) some_values) (IsLeastAbove some_values 20 30)
lesser_there = record {
  needs = λ best. best.no_lesser;
  suffices = λ least. record { among = (0, omega arith, refl); not_below = omega arith; no_lesser = least };
  fails = λ least. absurd (omega (arith, least 2 20 (omega arith) (omega arith)));
}

-- and from below it is 10
abbrev no_more : ℕ → ℕ → ℕ → Type 0
no_more u greatest v = v ≤ u → v ≤ greatest

greatest_below : IsGreatestBelow some_values 15 10
greatest_below = record {
  among = (1, omega arith, refl);
  not_above = omega arith;
  no_greater = All-from_recursion (no_more 15 10) some_values ((λ below. absurd (omega arith)), ((λ _. omega arith), ((λ below. absurd (omega arith)), ((λ below. absurd (omega arith)), tt))));
}

greatest_below_itself : IsGreatestBelow some_values 20 20
greatest_below_itself = record {
  among = (2, omega arith, refl);
  not_above = omega arith;
  no_greater = All-from_recursion (no_more 20 20) some_values ((λ below. absurd (omega arith)), ((λ _. omega arith), ((λ _. omega arith), ((λ _. omega arith), tt))));
}

not_among_lesser : FailsBy (Contains thirty 20) (IsGreatestBelow thirty 25 20)
not_among_lesser = record {
  needs = λ best. best.among;
  suffices = λ among. record { among = among; not_above = omega arith; no_greater = All-from_recursion (no_more 25 20) thirty ((λ below. absurd (omega arith)), tt) };
  fails = λ here. absurd (only_30 here.0 here.1 here.2);
}

above_asked : FailsBy (30 ≤ 25) (IsGreatestBelow some_values 25 30)
above_asked = record {
  needs = λ best. best.not_above;
  suffices = λ below. record { among = (0, omega arith, refl); not_above = below; no_greater = All-from_recursion (no_more 25 30) some_values ((λ _. omega arith), ((λ _. omega arith), ((λ _. omega arith), ((λ _. omega arith), tt)))) };
  fails = λ below. absurd (omega arith);
}

greater_there : FailsBy (All (no_more 20 10) some_values) (IsGreatestBelow some_values 20 10)
greater_there = record {
  needs = λ best. best.no_greater;
  suffices = λ greatest. record { among = (1, omega arith, refl); not_above = omega arith; no_greater = greatest };
  fails = λ greatest. absurd (omega (arith, greatest 2 20 (omega arith) (omega arith)));
}
