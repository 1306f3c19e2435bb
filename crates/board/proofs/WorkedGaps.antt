-- Gaps worked out by hand.
use Rattle.std.specs.Prelude.{◌≡◌, ℕ, ◌+◌, ◌<◌, ◌≤◌, ◌⊎◌, List, [], ◌∷◌, Some, All, Contains, slice_get}
use Rattle.std.proofs.Common.{refl, arith, inl, inr, subst, sym, ap, ◌∙◌, zero, suc, true, length, get_or, leb, ◌||◌}
use Rattle.std.specs.List.{list_all}
use Rattle.std.proofs.lemmas.Bool.{leb-true, or_cases}
use Rattle.std.proofs.lemmas.List.Elements.{All-from_recursion, All-weaker}
use Rattle.std.proofs.lemmas.List.Sums.{AllPass-from_list_all}
use Rattle.linear_range.specs.Values.{values}
use Rattle.board_graph.specs.Graph.{AreCoupled}
use Rattle.board_graph.proofs.FailsBy.{FailsBy}
use Rattle.board.specs.declared.board.Board.{Board}
use Rattle.board.specs.declared.rail.Rail.{Rail}
use Rattle.board.specs.Rail.{allowed}
use Rattle.board.specs.Gaps.{AreNeighbours, IsSpreadOf, HasNarrowGaps}
use Rattle.board.proofs.Boards.{first_buck, coupled_board, supplied_board, low_rail, gaping_board}
use Rattle.board.proofs.Tested.{rises_by, tested_narrow}

-- in 30, 10, 20 the values 10 and 20 are neighbours
abbrev three : List ℕ
three = 30 ∷ 10 ∷ 20 ∷ []

abbrev outside : ℕ → ℕ → ℕ → Type 0
outside low high v = (v ≤ low) ⊎ (high ≤ v)

neighbours : AreNeighbours three 10 20
neighbours = record {
  has_low = (1, omega arith, refl);
  has_high = (2, omega arith, refl);
  rising = omega arith;
  none_between = All-from_recursion (outside 10 20) three (inr (omega arith), (inl (omega arith), (inr (omega arith), tt)));
}

none_of_three : (v k : ℕ) → k < length three → get_or three k v ≡ v → ¬ (30 ≡ v) → ¬ (10 ≡ v) → ¬ (20 ≡ v) → ⊥
none_of_three v zero within is first second third = first is
none_of_three v (suc zero) within is first second third = second is
none_of_three v (suc (suc zero)) within is first second third = third is
none_of_three v (suc (suc (suc k))) within is first second third = absurd (omega arith)

not_low : FailsBy (Contains three 15) (AreNeighbours three 15 20)
not_low = record {
  needs = λ next. next.has_low;
  suffices = λ low. record { has_low = low; has_high = (2, omega arith, refl); rising = omega arith; none_between = All-from_recursion (outside 15 20) three (inr (omega arith), (inl (omega arith), (inr (omega arith), tt))) };
  fails = λ here. none_of_three 15 here.0 here.1 here.2 (λ e. absurd (omega arith)) (λ e. absurd (omega arith)) (λ e. absurd (omega arith));
}

not_high : FailsBy (Contains three 15) (AreNeighbours three 10 15)
not_high = record {
  needs = λ next. next.has_high;
  suffices = λ high. record { has_low = (1, omega arith, refl); has_high = high; rising = omega arith; none_between = All-from_recursion (outside 10 15) three (inr (omega arith), (inl (omega arith), (inr (omega arith), tt))) };
  fails = λ here. none_of_three 15 here.0 here.1 here.2 (λ e. absurd (omega arith)) (λ e. absurd (omega arith)) (λ e. absurd (omega arith));
}

not_rising : FailsBy (10 < 10) (AreNeighbours three 10 10)
not_rising = record {
  needs = λ next. next.rising;
  suffices = λ rising. record { has_low = (1, omega arith, refl); has_high = (1, omega arith, refl); rising = rising; none_between = All-from_recursion (outside 10 10) three (inr (omega arith), (inl (omega arith), (inr (omega arith), tt))) };
  fails = λ rising. absurd (omega arith);
}

one_between : FailsBy (All (outside 10 30) three) (AreNeighbours three 10 30)
one_between = record {
  needs = λ next. next.none_between;
  suffices = λ none. record { has_low = (1, omega arith, refl); has_high = (0, omega arith, refl); rising = omega arith; none_between = none };
  fails = λ none. elim (none 2 20 (omega arith)) [ inl under ↦ absurd (omega arith) | inr over ↦ absurd (omega arith) ];
}

-- the spread of two coupled rails is that of their group
spread_of_pair : IsSpreadOf coupled_board 0 100000
spread_of_pair = record {
  other = 1;
  group = 0;
  coupled = record { apart = λ same. absurd (omega arith); block = record { group = 0; first = refl; second = refl } };
  in_group = refl;
  spread_is = refl;
}

-- two rails of one group, with a spread
abbrev pair_with : ℕ → Board
pair_with spread = record coupled_board { spread = spread ∷ [] }

one_group : (r group : ℕ) → slice_get (0 ∷ 0 ∷ []) r ≡ Some group → 0 ≡ group
one_group zero group is = cc
one_group (suc zero) group is = cc
one_group (suc (suc r)) group is = absurd (cc)

pub only_spread : (board : Board) (n r spread : ℕ) → board.graph.group ≡ 0 ∷ 0 ∷ [] → board.spread ≡ n ∷ [] → IsSpreadOf board r spread → spread ≡ n
only_spread board n r spread groups is of =
    let group : 0 ≡ of.group = one_group r of.group (ap (λ g. slice_get g r) (sym groups) ∙ of.in_group) in
    let there : slice_get (n ∷ []) of.group ≡ Some spread = ap (λ s. slice_get s of.group) (sym is) ∙ of.spread_is in
    let here : slice_get (n ∷ []) 0 ≡ Some spread = subst (λ (g : ℕ). slice_get (n ∷ []) g ≡ Some spread) (sym group) there in
    cc

other_spread : ¬ IsSpreadOf coupled_board 0 99999
other_spread of = absurd (omega (arith, only_spread coupled_board 100000 0 99999 refl refl of))

-- a rail that isn't coupled has none, though its group has an entry
own_group : (r group : ℕ) → slice_get (0 ∷ 1 ∷ 2 ∷ []) r ≡ Some group → r ≡ group
own_group zero group is = cc
own_group (suc zero) group is = cc
own_group (suc (suc zero)) group is = cc
own_group (suc (suc (suc r))) group is = absurd (cc)

pub none_coupled : (a b : ℕ) → ¬ AreCoupled supplied_board.graph a b
none_coupled a b coupled =
    coupled.apart (own_group a coupled.block.group coupled.block.first ∙ sym (own_group b coupled.block.group coupled.block.second))

no_spread : (r spread : ℕ) → ¬ IsSpreadOf supplied_board r spread
no_spread r spread is = none_coupled r is.other is.coupled

-- where no greatest step is given, and no spread binds the rail, gaps may be as wide as they are
pub free_gaps : (r : ℕ) (rail : Rail) → rail.limits.max_step ≡ 0 → HasNarrowGaps supplied_board r rail
free_gaps r rail free = record { steps = λ limited. absurd (limited free); spreads = λ spread is. absurd (no_spread r spread is) }

-- neighbouring values of the bucks are 6250 µV apart: a spread of that much will do, and one of 6249 µV won't
buck_rises : rises_by 6250 (allowed first_buck) ≡ true
unfolding values
buck_rises = refl

pub buck_narrow : (n low high : ℕ) → 6250 ≤ n → AreNeighbours (allowed first_buck) low high → high ≤ low + n
buck_narrow n low high wide next = omega (arith, tested_narrow 6250 (allowed first_buck) low high buck_rises next)

-- the narrow enough spreads of the two bucks
pub pair_narrow : (board : Board) (n r : ℕ) (rail : Rail) → board.graph.group ≡ 0 ∷ 0 ∷ [] → board.spread ≡ n ∷ [] → 6250 ≤ n → rail.limits.max_step ≡ 0
    → allowed rail ≡ allowed first_buck → HasNarrowGaps board r rail
pair_narrow board n r rail groups spread_is wide free same = record {
  steps = λ limited. absurd (limited free);
  spreads = λ spread of low high next.
      let is : spread ≡ n = only_spread board n r spread groups spread_is of in
      let far = buck_narrow n low high wide (subst (λ (values : List ℕ). AreNeighbours values low high) same next) in
      omega arith;
}

narrow_at_6250 : HasNarrowGaps (pair_with 6250) 0 first_buck
narrow_at_6250 = pair_narrow (pair_with 6250) 6250 0 first_buck refl refl (omega arith) refl refl

-- no value stands between two, by a test of each
outside_of : (v low high : ℕ) → (leb v low ≡ true) ⊎ (leb high v ≡ true) → outside low high v
outside_of v low high passed = elim passed [ inl under ↦ inl (leb-true v low under) | inr over ↦ inr (leb-true high v over) ]

all_outside : (low high : ℕ) (vs : List ℕ) → list_all (λ v. leb v low || leb high v) vs ≡ true → All (outside low high) vs
all_outside low high vs tested =
    All-weaker (λ (v : ℕ). (leb v low || leb high v) ≡ true) (outside low high) (λ v passed. outside_of v low high (or_cases (leb v low) (leb high v) passed)) vs
    (AllPass-from_list_all (λ v. leb v low || leb high v) vs tested)

first_gap : AreNeighbours (allowed first_buck) 800000 806250
unfolding values
first_gap = record {
  has_low = (0, omega arith, refl);
  has_high = (1, omega arith, refl);
  rising = omega arith;
  none_between = all_outside 800000 806250 (allowed first_buck) refl;
}

-- the greatest step likewise
abbrev stepping : ℕ → Rail
stepping n = record first_buck { limits = record first_buck.limits { max_step = n } }

step_of_6250 : HasNarrowGaps supplied_board 0 (stepping 6250)
step_of_6250 = record {
  steps = λ limited low high next. buck_narrow 6250 low high (omega arith) next;
  spreads = λ spread is. absurd (no_spread 0 spread is);
}

step_of_6249 : FailsBy (806250 ≤ 800000 + 6249) (HasNarrowGaps supplied_board 0 (stepping 6249))
step_of_6249 = record {
  needs = λ narrow. narrow.steps (λ none. absurd (omega arith)) 800000 806250 first_gap;
  suffices = λ near. absurd (omega arith);
  fails = λ near. absurd (omega arith);
}

a_gap : AreNeighbours (allowed low_rail) 0 100
a_gap = record {
  has_low = (0, omega arith, refl);
  has_high = (1, omega arith, refl);
  rising = omega arith;
  none_between = All-from_recursion (outside 0 100) (0 ∷ 100 ∷ []) (inl (omega arith), (inr (omega arith), tt));
}

-- A {0, 100} is coupled with a spread of 40: its gap is too wide
abbrev pub gap_of_a : Type 0
gap_of_a = (spread : ℕ) → IsSpreadOf gaping_board 0 spread → (low high : ℕ) → AreNeighbours (allowed low_rail) low high → high ≤ low + spread

spread_of_a : IsSpreadOf gaping_board 0 40
spread_of_a = record {
  other = 1;
  group = 0;
  coupled = record { apart = λ same. absurd (omega arith); block = record { group = 0; first = refl; second = refl } };
  in_group = refl;
  spread_is = refl;
}

pub a_gapes : FailsBy gap_of_a (HasNarrowGaps gaping_board 0 low_rail)
a_gapes = record {
  needs = λ narrow. narrow.spreads;
  suffices = λ near. record { steps = λ limited. absurd (limited refl); spreads = near };
  fails = λ near. let far : 100 ≤ 0 + 40 = near 40 spread_of_a 0 100 a_gap in absurd (omega arith);
}
