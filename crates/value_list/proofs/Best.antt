-- The best of the pairs that pass a test, at its first place, whichever values are the better ones.
use Rattle.std.proofs.Common.{◌≡◌, ℕ, zero, suc, Bool, true, false, cond, leb, List, [], ◌∷◌, Option, None, Some, refl, sym, subst, arith}
use Rattle.std.proofs.lemmas.Bool.{leb-true, leb-false, le-leb, both_ways}
use Rattle.std.proofs.lemmas.List.Elements.{All-nil, All-cons, All-weaker, Contains-append_right}
use Rattle.std.specs.Prelude.{MatchOption, filter}
use Rattle.std.specs.List.{All, AllPairs, Contains}
use Rattle.value_list.specs.Picks.{least_pair, lesser_pair, greatest_pair, greater_pair, pick_high, pick_low}

-- p is one of the pairs and passes, no other that passes is better, and p stands before all of its value
pub record IsBest (passes : ℕ → Bool) (as_good : ℕ → ℕ → Bool) (Before : ℕ × ℕ → ℕ × ℕ → Type 0) (ps : List (ℕ × ℕ)) (p : ℕ × ℕ) : Type 0 where
  pub among : Contains ps p
  pub within : passes p.1 ≡ true
  pub best : All (λ q. passes q.1 ≡ true → as_good p.1 q.1 ≡ true) ps
  pub first : All (λ q. q.1 ≡ p.1 → Before p q) ps

-- none passes, or this is the best
abbrev pub IsPick : (ℕ → Bool) → (ℕ → ℕ → Bool) → (ℕ × ℕ → ℕ × ℕ → Type 0) → List (ℕ × ℕ) → Option (ℕ × ℕ) → Type 0
IsPick passes as_good Before ps o = MatchOption o (All (λ q. passes q.1 ≡ false) ps) (IsBest passes as_good Before ps)

-- values are compared as on a line
record IsLinear (as_good : ℕ → ℕ → Bool) : Type 0 where
  same : (v w : ℕ) → v ≡ w → as_good v w ≡ true
  through : (u v w : ℕ) → as_good u v ≡ true → as_good v w ≡ true → as_good u w ≡ true
  other : (v w : ℕ) → as_good v w ≡ false → as_good w v ≡ true

module _ (passes : ℕ → Bool) (as_good : ℕ → ℕ → Bool) (linear : IsLinear as_good) (Before : ℕ × ℕ → ℕ × ℕ → Type 0) (itself : (p : ℕ × ℕ) → Before p p) where
  abbrev Best : List (ℕ × ℕ) → ℕ × ℕ → Type 0
  Best ps p = IsBest passes as_good Before ps p

  abbrev Pick : List (ℕ × ℕ) → Option (ℕ × ℕ) → Type 0
  Pick ps o = IsPick passes as_good Before ps o

  module _ (p : ℕ × ℕ) (ps : List (ℕ × ℕ)) where
    passed : passes p.1 ≡ false → (o : Option (ℕ × ℕ)) → Pick ps o → Pick (p ∷ ps) o
    passed fails None later = All-cons (λ q. passes q.1 ≡ false) p ps fails later
    passed fails (Some q) later = record {
      among = Contains-append_right (p ∷ []) ps q later.among;
      within = later.within;
      best = All-cons (λ r. passes r.1 ≡ true → as_good q.1 r.1 ≡ true) p ps (λ is. absurd (both_ways (passes p.1) fails is)) later.best;
      first = All-cons (λ r. r.1 ≡ q.1 → Before q r) p ps
          (λ same. absurd (both_ways (passes p.1) fails (subst (λ v. passes v ≡ true) (sym same) later.within))) later.first;
    }

    here : passes p.1 ≡ true → All (Before p) ps → All (λ r. passes r.1 ≡ true → as_good p.1 r.1 ≡ true) ps → Best (p ∷ ps) p
    here within behind best = record {
      among = (0, omega arith, refl);
      within = within;
      best = All-cons (λ r. passes r.1 ≡ true → as_good p.1 r.1 ≡ true) p ps (λ _. linear.same p.1 p.1 refl) best;
      first = All-cons (λ r. r.1 ≡ p.1 → Before p r) p ps (λ _. itself p)
          (All-weaker (Before p) (λ r. r.1 ≡ p.1 → Before p r) (λ r before _. before) ps behind);
    }

    of_two : passes p.1 ≡ true → All (Before p) ps → (q : ℕ × ℕ) → Best ps q → (b : Bool) → as_good p.1 q.1 ≡ b → Best (p ∷ ps) (cond b p q)
    of_two within behind q later true is = here within behind
        (All-weaker (λ r. passes r.1 ≡ true → as_good q.1 r.1 ≡ true) (λ r. passes r.1 ≡ true → as_good p.1 r.1 ≡ true)
        (λ r best inside. linear.through p.1 q.1 r.1 is (best inside)) ps later.best)
    of_two within behind q later false is = record {
      among = Contains-append_right (p ∷ []) ps q later.among;
      within = later.within;
      best = All-cons (λ r. passes r.1 ≡ true → as_good q.1 r.1 ≡ true) p ps (λ _. linear.other p.1 q.1 is) later.best;
      first = All-cons (λ r. r.1 ≡ q.1 → Before q r) p ps (λ same. absurd (both_ways (as_good p.1 q.1) is (linear.same p.1 q.1 same))) later.first;
    }

  -- the better of a pair and of the pick behind it, and the pick of a list
  module _ (better : ℕ × ℕ → Option (ℕ × ℕ) → ℕ × ℕ) (alone : (p : ℕ × ℕ) → better p None ≡ p) (two : (p q : ℕ × ℕ) → better p (Some q) ≡ cond (as_good p.1 q.1) p q) (best : List (ℕ × ℕ) → Option (ℕ × ℕ)) (none : best [] ≡ None) (more : (p : ℕ × ℕ) (ps : List (ℕ × ℕ)) → best (p ∷ ps) ≡ Some (better p (best ps))) where
    taken : (p : ℕ × ℕ) (ps : List (ℕ × ℕ)) → passes p.1 ≡ true → All (Before p) ps → (o : Option (ℕ × ℕ)) → Pick ps o → Best (p ∷ ps) (better p o)
    taken p ps within behind None later = rw (alone p) (here p ps within behind
        (All-weaker (λ r. passes r.1 ≡ false) (λ r. passes r.1 ≡ true → as_good p.1 r.1 ≡ true) (λ r fails is. absurd (both_ways (passes r.1) fails is)) ps later))
    taken p ps within behind (Some q) later = rw (two p q) (of_two p ps within behind q later (as_good p.1 q.1) refl)

    pick : (ps : List (ℕ × ℕ)) → AllPairs Before ps → Pick ps (best (filter (λ q. passes q.1) ps))
    pick [] pairs = rw none (All-nil (λ q. passes q.1 ≡ false))
    pick (p ∷ ps) pairs = by_test (passes p.1) refl (pick ps (λ i j d h k. pairs (suc i) (suc j) d (omega arith) (omega arith)))
      where
        by_test : (b : Bool) → passes p.1 ≡ b → Pick ps (best (filter (λ q. passes q.1) ps))
            → Pick (p ∷ ps) (best (cond b (p ∷ filter (λ q. passes q.1) ps) (filter (λ q. passes q.1) ps)))
        by_test true is later = rw (more p (filter (λ q. passes q.1) ps))
            (taken p ps is (λ k d h. pairs zero (suc k) d (omega arith) (omega arith)) (best (filter (λ q. passes q.1) ps)) later)
        by_test false is later = passed p ps is (best (filter (λ q. passes q.1) ps)) later

upwards : IsLinear leb
upwards = record {
  same = λ v w is. le-leb v w (omega (arith, is));
  through = λ u v w first second. le-leb u w (omega (arith, leb-true u v first, leb-true v w second));
  other = λ v w is. le-leb w v (omega (arith, leb-false v w is));
}

downwards : IsLinear (λ v w. leb w v)
downwards = record {
  same = λ v w is. le-leb w v (omega (arith, is));
  through = λ u v w first second. le-leb w u (omega (arith, leb-true v u first, leb-true w v second));
  other = λ v w is. le-leb v w (omega (arith, leb-false w v is));
}

pub high_best : (Before : ℕ × ℕ → ℕ × ℕ → Type 0) → ((p : ℕ × ℕ) → Before p p) → (u : ℕ) (ps : List (ℕ × ℕ)) → AllPairs Before ps
    → IsPick (leb u) leb Before ps (pick_high ps u)
high_best Before itself u ps pairs = pick (leb u) leb upwards Before itself lesser_pair (λ p. refl) (λ p q. refl) least_pair refl (λ p ps. refl) ps pairs

pub low_best : (Before : ℕ × ℕ → ℕ × ℕ → Type 0) → ((p : ℕ × ℕ) → Before p p) → (u : ℕ) (ps : List (ℕ × ℕ)) → AllPairs Before ps
    → IsPick (λ v. leb v u) (λ v w. leb w v) Before ps (pick_low ps u)
low_best Before itself u ps pairs = pick (λ v. leb v u) (λ v w. leb w v) downwards Before itself greater_pair (λ p. refl) (λ p q. refl) greatest_pair refl (λ p ps. refl) ps pairs
