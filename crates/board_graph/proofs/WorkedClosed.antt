-- Sets worked out by hand that hold what goes with their rails, and that don't in one point alone.
use Rattle.std.proofs.Common.{◌≡◌, ℕ, zero, suc, ◌<◌, ◌⊎◌, inl, inr, Bool, true, false, List, [], ◌∷◌, Some, None, refl, subst, arith, get_or, slice_get, AllPairs, Contains}
use Rattle.std.proofs.lemmas.List.Elements.{All-from_recursion}
use Rattle.std.proofs.lemmas.List.Kept.{AllPairs-cons}
use Rattle.board_graph.specs.declared.graph.Graph.{Graph}
use Rattle.board_graph.specs.Graph.{Supplies, AreOneBlock}
use Rattle.board_graph.specs.Sets.{IsLinked, HoldsGuards, HoldsMovers, IsLeastWith}
use Rattle.board_graph.proofs.FailsBy.{FailsBy}

-- the rail is in the set
abbrev Has : List ℕ → ℕ → Type 0
Has set i = Contains set i

-- rails 1 and 2 are coupled, and rail 1 is linked to its supply, rail 0, or isn't
abbrev coupled_below : Bool → Graph
coupled_below linked = record { supply = None ∷ Some 0 ∷ None ∷ []; group = 0 ∷ 5 ∷ 5 ∷ []; link = false ∷ linked ∷ false ∷ [] }

abbrev Blocks : Bool → List ℕ → Type 0
Blocks linked set = (a b : ℕ) → AreOneBlock (coupled_below linked) a b → Contains set b → Contains set a

abbrev SuppliesIn : List ℕ → Type 0
SuppliesIn set = (upper lower : ℕ) → Supplies (coupled_below true) upper lower → Contains set lower → Contains set upper

-- the blocks of the graph: rail 0, and rails 1 and 2
blocks_are : (linked : Bool) (set : List ℕ) → (Contains set 1 → Contains set 2) → (Contains set 2 → Contains set 1) → Blocks linked set
blocks_are linked set first second a b one has = by a b one.group one.first one.second has where
  by : (a b group : ℕ) → slice_get (0 ∷ 5 ∷ 5 ∷ []) a ≡ Some group → slice_get (0 ∷ 5 ∷ 5 ∷ []) b ≡ Some group → Contains set b → Contains set a
  by zero zero group a_is b_is has = has
  by (suc zero) (suc zero) group a_is b_is has = has
  by (suc (suc zero)) (suc (suc zero)) group a_is b_is has = has
  by (suc zero) (suc (suc zero)) group a_is b_is has = second has
  by (suc (suc zero)) (suc zero) group a_is b_is has = first has
  by zero (suc zero) group a_is b_is has = absurd (cc)
  by zero (suc (suc zero)) group a_is b_is has = absurd (cc)
  by (suc zero) zero group a_is b_is has = absurd (cc)
  by (suc (suc zero)) zero group a_is b_is has = absurd (cc)
  by (suc (suc (suc a))) b group a_is b_is has = absurd (cc)
  by a (suc (suc (suc b))) group a_is b_is has = absurd (cc)

-- its one supply
supplies_are : (set : List ℕ) → (Contains set 1 → Contains set 0) → SuppliesIn set
supplies_are set first upper zero supplies has = absurd (cc)
supplies_are set first upper (suc zero) supplies has = let e : 0 ≡ upper = cc in subst (Contains set) e (first has)
supplies_are set first upper (suc (suc zero)) supplies has = absurd (cc)
supplies_are set first upper (suc (suc (suc lower))) supplies has = absurd (cc)

in_three : Has (0 ∷ 1 ∷ 2 ∷ []) 0
in_three = (0, omega arith, refl)

all_three : HoldsGuards (coupled_below true) (0 ∷ 1 ∷ 2 ∷ [])
all_three = record {
  blocks = blocks_are true (0 ∷ 1 ∷ 2 ∷ []) (λ has. (2, omega arith, refl)) (λ has. (1, omega arith, refl));
  supplies = supplies_are (0 ∷ 1 ∷ 2 ∷ []) (λ has. in_three);
}

-- what is in a set of two
of_two : (m l i : ℕ) → Has (m ∷ l ∷ []) i → (m ≡ i) ⊎ (l ≡ i)
of_two m l i has = at has.0 has.1 has.2 where
  at : (k : ℕ) → k < 2 → get_or (m ∷ l ∷ []) k i ≡ i → (m ≡ i) ⊎ (l ≡ i)
  at zero within is = inl is
  at (suc zero) within is = inr is
  at (suc (suc k)) within is = absurd (omega arith)

not_two : ¬ Has (0 ∷ 1 ∷ []) 2
not_two has = elim (of_two 0 1 2 has) [
  | inl is ↦ absurd (omega arith)
  | inr is ↦ absurd (omega arith)
]

not_zero : ¬ Has (1 ∷ 2 ∷ []) 0
not_zero has = elim (of_two 1 2 0 has) [
  | inl is ↦ absurd (omega arith)
  | inr is ↦ absurd (omega arith)
]

-- rail 2 is missing, which is coupled with rail 1
no_block : FailsBy (Blocks true (0 ∷ 1 ∷ [])) (HoldsGuards (coupled_below true) (0 ∷ 1 ∷ []))
no_block = record {
  needs = λ holds. holds.blocks;
  suffices = λ blocks. record { blocks = blocks; supplies = supplies_are (0 ∷ 1 ∷ []) (λ has. (0, omega arith, refl)) };
  fails = λ blocks. not_two (blocks 2 1 (record { group = 5; first = refl; second = refl }) (1, omega arith, refl));
}

-- rail 0 is missing, which is the supply of rail 1
no_supply : FailsBy (SuppliesIn (1 ∷ 2 ∷ [])) (HoldsGuards (coupled_below true) (1 ∷ 2 ∷ []))
no_supply = record {
  needs = λ holds. holds.supplies;
  suffices = λ supplies. record { blocks = blocks_are true (1 ∷ 2 ∷ []) (λ has. (1, omega arith, refl)) (λ has. (0, omega arith, refl)); supplies = supplies };
  fails = λ supplies. not_zero (supplies 0 1 refl (0, omega arith, refl));
}

-- it is missing where the rail is linked to it, and not where it isn't
pair_moves_alone : HoldsMovers (coupled_below false) (1 ∷ 2 ∷ [])
pair_moves_alone = record { blocks = blocks_are false (1 ∷ 2 ∷ []) (λ has. (1, omega arith, refl)) (λ has. (0, omega arith, refl)); links = unlinked } where
  unlinked : (upper lower : ℕ) → Supplies (coupled_below false) upper lower → IsLinked (coupled_below false) lower → Has (1 ∷ 2 ∷ []) lower → Has (1 ∷ 2 ∷ []) upper
  unlinked upper zero supplies linked has = absurd (cc)
  unlinked upper (suc zero) supplies linked has = absurd (cc)
  unlinked upper (suc (suc zero)) supplies linked has = absurd (cc)
  unlinked upper (suc (suc (suc lower))) supplies linked has = absurd (cc)

abbrev LinksIn : List ℕ → Type 0
LinksIn set = (upper lower : ℕ) → Supplies (coupled_below true) upper lower → IsLinked (coupled_below true) lower → Contains set lower → Contains set upper

no_link : FailsBy (LinksIn (1 ∷ 2 ∷ [])) (HoldsMovers (coupled_below true) (1 ∷ 2 ∷ []))
no_link = record {
  needs = λ holds. holds.links;
  suffices = λ links. record { blocks = blocks_are true (1 ∷ 2 ∷ []) (λ has. (1, omega arith, refl)) (λ has. (0, omega arith, refl)); links = links };
  fails = λ links. not_zero (links 0 1 refl refl (0, omega arith, refl));
}

no_moving_block : FailsBy (Blocks true (0 ∷ 1 ∷ [])) (HoldsMovers (coupled_below true) (0 ∷ 1 ∷ []))
no_moving_block = record {
  needs = λ holds. holds.blocks;
  suffices = λ blocks. record { blocks = blocks; links = λ upper lower supplies linked. supplies_are (0 ∷ 1 ∷ []) (λ has. (0, omega arith, refl)) upper lower supplies };
  fails = λ blocks. not_two (blocks 2 1 (record { group = 5; first = refl; second = refl }) (1, omega arith, refl));
}

-- the least set with rail 0 of those that have rail 1 beside it, of 0 and 1, and each clause that another set breaks alone
abbrev HasOne : List ℕ → Type 0
HasOne set = Contains set 1

one_rises : (n : ℕ) → AllPairs (λ i j. i < j) (n ∷ [])
one_rises n i j d less within = absurd (omega arith)

least_of_both : (set : List ℕ) → ((i : ℕ) → Contains set i → i < 2) → (other : List ℕ) → HasOne other → Contains other 0 → (i : ℕ) → Contains set i → Contains other i
least_of_both set below other such has i in_set = by i (below i in_set) where
  by : (i : ℕ) → i < 2 → Contains other i
  by zero within = has
  by (suc zero) within = such
  by (suc (suc i)) within = absurd (omega arith)

below_two : (i : ℕ) → Has (0 ∷ 1 ∷ []) i → i < 2
below_two i has = elim (of_two 0 1 i has) [
  | inl is ↦ omega arith
  | inr is ↦ omega arith
]

least_both : IsLeastWith HasOne 0 (0 ∷ 1 ∷ [])
least_both = record { has = (0, omega arith, refl); such = (1, omega arith, refl); least = least_of_both (0 ∷ 1 ∷ []) below_two; rising = AllPairs-cons (λ i j. i < j) 0 (1 ∷ []) (All-from_recursion (λ j. 0 < j) (1 ∷ []) (omega arith, tt)) (one_rises 1) }

only : (n i : ℕ) → Has (n ∷ []) i → n ≡ i
only n i has = at has.0 has.1 has.2 where
  at : (k : ℕ) → k < 1 → get_or (n ∷ []) k i ≡ i → n ≡ i
  at zero within is = is
  at (suc k) within is = absurd (omega arith)

without_rail : FailsBy (Has (1 ∷ []) 0) (IsLeastWith HasOne 0 (1 ∷ []))
without_rail = record {
  needs = λ is. is.has;
  suffices = λ has. record { has = has; such = (0, omega arith, refl); least = λ other such rail i in_set. subst (Has other) (only 1 i in_set) such; rising = one_rises 1 };
  fails = λ has. absurd (omega (arith, only 1 0 has));
}

without_other : FailsBy (HasOne (0 ∷ [])) (IsLeastWith HasOne 0 (0 ∷ []))
without_other = record {
  needs = λ is. is.such;
  suffices = λ such. record { has = (0, omega arith, refl); such = such; least = λ other has rail i in_set. subst (Has other) (only 0 i in_set) rail; rising = one_rises 0 };
  fails = λ such. absurd (omega (arith, only 0 1 such));
}

three_rise : AllPairs (λ i j. i < j) (0 ∷ 1 ∷ 2 ∷ [])
three_rise =
    AllPairs-cons (λ i j. i < j) 0 (1 ∷ 2 ∷ []) (All-from_recursion (λ j. 0 < j) (1 ∷ 2 ∷ []) (omega arith, (omega arith, tt)))
    (AllPairs-cons (λ i j. i < j) 1 (2 ∷ []) (All-from_recursion (λ j. 1 < j) (2 ∷ []) (omega arith, tt)) (one_rises 2))

more_than_least : FailsBy ((other : List ℕ) → HasOne other → Contains other 0 → (i : ℕ) → Has (0 ∷ 1 ∷ 2 ∷ []) i → Contains other i) (IsLeastWith HasOne 0 (0 ∷ 1 ∷ 2 ∷ []))
more_than_least = record {
  needs = λ is. is.least;
  suffices = λ least. record { has = (0, omega arith, refl); such = (1, omega arith, refl); least = least; rising = three_rise };
  fails = λ least. not_two (least (0 ∷ 1 ∷ []) (1, omega arith, refl) (0, omega arith, refl) 2 (2, omega arith, refl));
}

swapped_below_two : (i : ℕ) → Has (1 ∷ 0 ∷ []) i → i < 2
swapped_below_two i has = elim (of_two 1 0 i has) [
  | inl is ↦ omega arith
  | inr is ↦ omega arith
]

falling : FailsBy (AllPairs (λ i j. i < j) (1 ∷ 0 ∷ [])) (IsLeastWith HasOne 0 (1 ∷ 0 ∷ []))
falling = record {
  needs = λ is. is.rising;
  suffices = λ rising. record { has = (1, omega arith, refl); such = (0, omega arith, refl); least = least_of_both (1 ∷ 0 ∷ []) swapped_below_two; rising = rising };
  fails = λ rising. absurd (omega (arith, rising 0 1 0 (omega arith) (omega arith)));
}
