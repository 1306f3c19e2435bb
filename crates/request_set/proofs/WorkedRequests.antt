-- Requests on one rail, worked out by hand.
use Rattle.std.proofs.Common.{◌≡◌, true, false, List, [], ◌∷◌, Some, None, refl, arith}
use Rattle.std.specs.Prelude.{map}
use Rattle.std.proofs.lemmas.List.Elements.{All-nil, All-cons}
use Rattle.std.proofs.lemmas.List.Kept.{AllPairs-cons}
use Rattle.request_set.specs.Requests.{Asking, is_asked_by, without, with_asked, asked_by, meets, meets_all, greatest_of, least_of, AskOnce}

-- worker 1 asks by its handles a and b, and worker 2 by its handle a
abbrev first : Asking
first = record { worker = 1; name = 0x61 ∷ []; least = 900000; greatest = 1000000 }

abbrev second : Asking
second = record { worker = 1; name = 0x62 ∷ []; least = 850000; greatest = 950000 }

abbrev third : Asking
third = record { worker = 2; name = 0x61 ∷ []; least = 920000; greatest = 1100000 }

abbrev three : List Asking
three = first ∷ second ∷ third ∷ []

-- worker and name both tell the handle
its_own : is_asked_by 1 (0x61 ∷ []) first ≡ true
its_own = refl

of_another_worker : is_asked_by 2 (0x61 ∷ []) first ≡ false
of_another_worker = refl

of_another_name : is_asked_by 1 (0x62 ∷ []) first ≡ false
of_another_name = refl

-- one request goes, and the others stay in their order
second_withdrawn : without 1 (0x62 ∷ []) three ≡ first ∷ third ∷ []
second_withdrawn = refl

first_withdrawn : without 1 (0x61 ∷ []) three ≡ second ∷ third ∷ []
first_withdrawn = refl

none_withdrawn : without 2 (0x62 ∷ []) three ≡ three
none_withdrawn = refl

-- a handle that asks anew comes last
first_anew : with_asked 1 (0x61 ∷ []) 910000 940000 three ≡ second ∷ third ∷ record { worker = 1; name = 0x61 ∷ []; least = 910000; greatest = 940000 } ∷ []
first_anew = refl

fourth_asks : with_asked 2 (0x62 ∷ []) 0 4294967295 (first ∷ second ∷ []) ≡ first ∷ second ∷ record { worker = 2; name = 0x62 ∷ []; least = 0; greatest = 4294967295 } ∷ []
fourth_asks = refl

-- what a handle asks
asks_first : asked_by 1 (0x61 ∷ []) three ≡ Some (900000, 1000000)
asks_first = refl

asks_third : asked_by 2 (0x61 ∷ []) three ≡ Some (920000, 1100000)
asks_third = refl

asks_nothing : asked_by 2 (0x62 ∷ []) three ≡ None
asks_nothing = refl

-- the bounds of a request are within it
at_least : meets 900000 first ≡ true
at_least = refl

below_least : meets 899999 first ≡ false
below_least = refl

at_greatest : meets 1000000 first ≡ true
at_greatest = refl

above_greatest : meets 1000001 first ≡ false
above_greatest = refl

-- all three share 920000 to 950000 µV
shared : meets_all three 920000 ≡ true
shared = refl

too_low_for_third : meets_all three 919999 ≡ false
too_low_for_third = refl

shared_at_top : meets_all three 950000 ≡ true
shared_at_top = refl

too_high_for_second : meets_all three 950001 ≡ false
too_high_for_second = refl

nothing_asked : meets_all [] 4294967295 ≡ true
nothing_asked = refl

-- these are the bounds
greatest_least : greatest_of (map (λ asking. asking.least) three) ≡ 920000
greatest_least = refl

least_greatest : least_of (map (λ asking. asking.greatest) three) ≡ 950000
least_greatest = refl

greatest_of_none : greatest_of [] ≡ 0
greatest_of_none = refl

least_of_none : least_of [] ≡ 4294967295
least_of_none = refl

-- no handle of the three asks twice
each_once : AskOnce three
each_once =
    AllPairs-cons (λ one other. is_asked_by one.worker one.name other ≡ false) first (second ∷ third ∷ [])
    (All-cons (λ other. is_asked_by 1 (0x61 ∷ []) other ≡ false) second (third ∷ []) refl (All-cons (λ other. is_asked_by 1 (0x61 ∷ []) other ≡ false) third [] refl (All-nil (λ other. is_asked_by 1 (0x61 ∷ []) other ≡ false))))
    (AllPairs-cons (λ one other. is_asked_by one.worker one.name other ≡ false) second (third ∷ [])
    (All-cons (λ other. is_asked_by 1 (0x62 ∷ []) other ≡ false) third [] refl (All-nil (λ other. is_asked_by 1 (0x62 ∷ []) other ≡ false)))
    (λ i j d before within. absurd (omega (arith, before, within))))

-- the first one does here
asks_twice : ¬ AskOnce (first ∷ third ∷ record first { least = 0 } ∷ [])
asks_twice once = let told : true ≡ false = once 0 2 first (omega arith) (omega arith) in cc
