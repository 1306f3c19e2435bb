-- What handles ask, worked out by hand: two workers with three handles, of which two ask.
use Rattle.std.proofs.Common.{◌≡◌, ℕ, true, false, List, [], ◌∷◌, Option, Some, None, refl, arith}
use Rattle.std.proofs.lemmas.List.Elements.{All-from_recursion}
use Rattle.std.proofs.lemmas.List.Kept.{AllPairs-cons}
use Rattle.use_counts.specs.declared.handle_row.HandleRow.{HandleRow}
use Rattle.use_counts.specs.Uses.{is_row_of}
use Rattle.rail_state.specs.Requests.{asking_for, asking_of, meets_rows, others_than, DifferInName}

-- `a` and `ab`
abbrev a : List ℕ
a = 97 ∷ []

abbrev ab : List ℕ
ab = 97 ∷ 98 ∷ []

abbrev asks : ℕ → List ℕ → Option (ℕ × ℕ) → HandleRow
asks worker name request = record {
  worker = worker;
  handle = record { bytes = name; spare = [] };
  enables = 0;
  request = request;
  load = 0;
  cursor = None;
  exclusive = false;
}

-- a handle `a` of worker 1 asks for 800000 to 1000000 µV, one `ab` of the same worker for nothing, and one `a` of worker 2 for 900000 to 1200000
abbrev first : HandleRow
first = asks 1 a (Some (800000, 1000000))

abbrev second : HandleRow
second = asks 1 ab None

abbrev third : HandleRow
third = asks 2 a (Some (900000, 1200000))

abbrev three : List HandleRow
three = first ∷ second ∷ third ∷ []

asked_by_first : asking_of first ≡ Some (record { worker = 1; name = a; least = 800000; greatest = 1000000 })
asked_by_first = refl

asked_by_third : asking_of third ≡ Some (record { worker = 2; name = a; least = 900000; greatest = 1200000 })
asked_by_third = refl

asked_by_second : asking_of second ≡ None
asked_by_second = refl

-- a handle asks what is given, and not what stands in it
asked_instead : asking_for first (Some (1, 2)) ≡ Some (record { worker = 1; name = a; least = 1; greatest = 2 })
asked_instead = refl

nothing_instead : asking_for first None ≡ None
nothing_instead = refl

-- both bounds of each request are met themselves
meets_the_greatest_least : meets_rows three 900000 ≡ true
meets_the_greatest_least = refl

below_the_greatest_least : meets_rows three 899999 ≡ false
below_the_greatest_least = refl

meets_the_least_greatest : meets_rows three 1000000 ≡ true
meets_the_least_greatest = refl

above_the_least_greatest : meets_rows three 1000001 ≡ false
above_the_least_greatest = refl

meets_where_nothing_is_asked : meets_rows (second ∷ []) 0 ≡ true
meets_where_nothing_is_asked = refl

meets_without_handles : meets_rows [] 4294967295 ≡ true
meets_without_handles = refl

-- a handle is told by its worker and its name together
others_than_first : others_than 1 a three ≡ second ∷ third ∷ []
others_than_first = refl

others_than_second : others_than 1 ab three ≡ first ∷ third ∷ []
others_than_second = refl

others_than_third : others_than 2 a three ≡ first ∷ second ∷ []
others_than_third = refl

others_than_none : others_than 2 ab three ≡ three
others_than_none = refl

-- without the first, 1200000 µV may be chosen
meets_the_others : meets_rows (others_than 1 a three) 1200000 ≡ true
meets_the_others = refl

above_the_others : meets_rows (others_than 1 a three) 1200001 ≡ false
above_the_others = refl

-- one name of two workers and two names of one differ
abbrev apart : HandleRow → HandleRow → Type 0
apart one other = is_row_of one.worker one.handle.bytes other ≡ false

none_differ : DifferInName []
none_differ i j d before within = absurd (omega (arith, within))

one_differs : DifferInName (third ∷ [])
one_differs = AllPairs-cons apart third [] (All-from_recursion (apart third) [] tt) none_differ

two_differ : DifferInName (second ∷ third ∷ [])
two_differ = AllPairs-cons apart second (third ∷ []) (All-from_recursion (apart second) (third ∷ []) (refl, tt)) one_differs

three_differ : DifferInName three
three_differ = AllPairs-cons apart first (second ∷ third ∷ []) (All-from_recursion (apart first) (second ∷ third ∷ []) (refl, (refl, tt))) two_differ

-- another request makes no other handle
same_twice : ¬ DifferInName (first ∷ second ∷ asks 1 a None ∷ [])
same_twice differ = let same = differ 0 2 first (omega arith) (omega arith) in cc
