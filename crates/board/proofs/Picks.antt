-- A pick among the pairs within bounds is the pick among all pairs, where that lies within them.
use Rattle.std.proofs.Common.{◌≡◌, ◌<◌, subst, ℕ, max, min, Bool, true, false, ◌&&◌, cond, leb, List, [], ◌∷◌, Option, Some, None, refl, sym, ap, ◌∙◌, arith, filter}
use Rattle.std.proofs.lemmas.Bool.Decides.{nat_tests}
use Rattle.std.proofs.lemmas.List.Elements.{filter_agree}
use Rattle.std.specs.Prelude.{All, MatchOption, IfSome, option_map}
use Rattle.linear_range.specs.declared.linear_range.LinearRange.{LinearRange}
use Rattle.linear_range.specs.declared.pick.Pick.{Pick}
use Rattle.linear_range.specs.Laws.{ListsValues, PicksHigh, PicksLow, IsHighPick, IsLowPick}
use Rattle.linear_range.specs.Pick.{pair_of}
use Rattle.linear_range.specs.Values.{value_of, values, least_pair, greatest_pair, lesser_pair, greater_pair, pick_high, pick_low}
use Rattle.board.specs.Table.{passing}
use Rattle.board.specs.Rail.{is_within}

module _ {X : Type 0} (a b : X → Bool) where
  one_test : (x : X) (xs ys : List X) (s t : Bool) → filter a xs ≡ ys → a x ≡ s → filter a (cond t (x ∷ xs) xs) ≡ cond (t && s) (x ∷ ys) ys
  one_test x xs ys s true ih is = rw (is, ih)
  one_test x xs ys s false ih is = ih

  -- two filters in a row are one
  pub filter-filter : (xs : List X) → filter a (filter b xs) ≡ filter (λ x. b x && a x) xs
  filter-filter [] = refl
  filter-filter (x ∷ xs) = one_test x (filter b xs) (filter (λ y. b y && a y) xs) (a x) (b x) (filter-filter xs) refl

-- the best pair of a list: one that is chosen among a pair and the best of the rest
module _ (best : List (ℕ × ℕ) → Option (ℕ × ℕ)) (better : ℕ × ℕ → Option (ℕ × ℕ) → ℕ × ℕ) (ok : ℕ → Bool) (none : best [] ≡ None) (more : (p : ℕ × ℕ) (ps : List (ℕ × ℕ)) → best (p ∷ ps) ≡ Some (better p (best ps))) (passes : (p : ℕ × ℕ) (o : Option (ℕ × ℕ)) → ok p.1 ≡ true → Some (better p (passing ok o)) ≡ passing ok (Some (better p o))) (fails : (p : ℕ × ℕ) (o : Option (ℕ × ℕ)) → ok p.1 ≡ false → passing ok o ≡ passing ok (Some (better p o))) where
  best_step : (p : ℕ × ℕ) (ps : List (ℕ × ℕ)) (t : Bool) → ok p.1 ≡ t → best (filter (λ q. ok q.1) ps) ≡ passing ok (best ps)
      → best (cond t (p ∷ filter (λ q. ok q.1) ps) (filter (λ q. ok q.1) ps)) ≡ passing ok (Some (better p (best ps)))
  best_step p ps true is ih = more p _ ∙ ap (λ o. Some (better p o)) ih ∙ passes p (best ps) is
  best_step p ps false is ih = ih ∙ fails p (best ps) is

  -- the best of those that pass is the best of all, where that passes
  pub best-passing : (ps : List (ℕ × ℕ)) → best (filter (λ p. ok p.1) ps) ≡ passing ok (best ps)
  best-passing [] = rw none
  best-passing (p ∷ ps) = best_step p ps (ok p.1) refl (best-passing ps) ∙ ap (passing ok) (sym (more p ps))

-- a pair more: the lesser one that isn't above hi
lesser_passes : (hi : ℕ) (p : ℕ × ℕ) (o : Option (ℕ × ℕ)) → leb p.1 hi ≡ true → Some (lesser_pair p (passing (λ v. leb v hi) o)) ≡ passing (λ v. leb v hi) (Some (lesser_pair p o))
lesser_passes hi p None h = grind (arith, nat_tests)
lesser_passes hi p (Some q) h = grind (arith, nat_tests)

lesser_fails : (hi : ℕ) (p : ℕ × ℕ) (o : Option (ℕ × ℕ)) → leb p.1 hi ≡ false → passing (λ v. leb v hi) o ≡ passing (λ v. leb v hi) (Some (lesser_pair p o))
lesser_fails hi p None h = grind (arith, nat_tests)
lesser_fails hi p (Some q) h = grind (arith, nat_tests)

-- a pair more: the greater one that isn't below lo
greater_passes : (lo : ℕ) (p : ℕ × ℕ) (o : Option (ℕ × ℕ)) → leb lo p.1 ≡ true → Some (greater_pair p (passing (leb lo) o)) ≡ passing (leb lo) (Some (greater_pair p o))
greater_passes lo p None h = grind (arith, nat_tests)
greater_passes lo p (Some q) h = grind (arith, nat_tests)

greater_fails : (lo : ℕ) (p : ℕ × ℕ) (o : Option (ℕ × ℕ)) → leb lo p.1 ≡ false → passing (leb lo) o ≡ passing (leb lo) (Some (greater_pair p o))
greater_fails lo p None h = grind (arith, nat_tests)
greater_fails lo p (Some q) h = grind (arith, nat_tests)

-- the least pair within bounds
pub least_pair-within : (lo hi : ℕ) (ps : List (ℕ × ℕ)) → least_pair (filter (λ p. is_within (Some (lo, hi)) p.1) ps) ≡ passing (λ v. leb v hi) (pick_high ps lo)
least_pair-within lo hi ps =
    ap least_pair (sym (filter-filter (λ p. leb p.1 hi) (λ p. leb lo p.1) ps))
    ∙ best-passing least_pair lesser_pair (λ v. leb v hi) refl (λ p ps. refl) (lesser_passes hi) (lesser_fails hi) (filter (λ p. leb lo p.1) ps)

pub pick_high-within : (lo hi u : ℕ) (ps : List (ℕ × ℕ)) → pick_high (filter (λ p. is_within (Some (lo, hi)) p.1) ps) u ≡ passing (λ v. leb v hi) (pick_high ps (max u lo))
pick_high-within lo hi u ps =
    ap least_pair (filter-filter (λ p. leb u p.1) (λ p. leb lo p.1 && leb p.1 hi) ps
    ∙ filter_agree _ (λ p. leb (max u lo) p.1 && leb p.1 hi) (λ p. grind (arith, nat_tests)) ps
    ∙ sym (filter-filter (λ p. leb p.1 hi) (λ p. leb (max u lo) p.1) ps))
    ∙ best-passing least_pair lesser_pair (λ v. leb v hi) refl (λ p ps. refl) (lesser_passes hi) (lesser_fails hi) (filter (λ p. leb (max u lo) p.1) ps)

pub pick_low-within : (lo hi u : ℕ) (ps : List (ℕ × ℕ)) → pick_low (filter (λ p. is_within (Some (lo, hi)) p.1) ps) u ≡ passing (leb lo) (pick_low ps (min u hi))
pick_low-within lo hi u ps =
    ap greatest_pair (filter-filter (λ p. leb p.1 u) (λ p. leb lo p.1 && leb p.1 hi) ps
    ∙ filter_agree _ (λ p. leb p.1 (min u hi) && leb lo p.1) (λ p. grind (arith, nat_tests)) ps
    ∙ sym (filter-filter (λ p. leb lo p.1) (λ p. leb p.1 (min u hi)) ps))
    ∙ best-passing greatest_pair greater_pair (leb lo) refl (λ p ps. refl) (greater_passes lo) (greater_fails lo) (filter (λ p. leb p.1 (min u hi)) ps)

-- where all pass, a filter keeps all
pub filter-all : {X : Type 0} (xs : List X) → filter (λ _. true) xs ≡ xs
filter-all [] = refl
filter-all (x ∷ xs) = ap (λ ys. x ∷ ys) (filter-all xs)

-- the selector of a high pick has its value
pub high_value : (rs : List LinearRange) (u : ℕ) (o : Option Pick) → PicksHigh rs → ListsValues rs → option_map pair_of o ≡ pick_high (values rs) u
    → IfSome o (λ pick. value_of rs pick.sel ≡ Some pick.uv)
high_value rs u None high listed is = tt
high_value rs u (Some pick) high listed is =
    let pick_is : MatchOption (Some (pair_of pick)) (All (λ q. q.1 < u) (values rs)) (IsHighPick (values rs) u) =
    subst (λ (o : Option (ℕ × ℕ)). MatchOption o (All (λ q. q.1 < u) (values rs)) (IsHighPick (values rs) u)) (sym is) (high u) in
    (listed pick.sel pick.uv).0 pick_is.among

-- the selector of a low pick has its value
pub low_value : (rs : List LinearRange) (u : ℕ) (o : Option Pick) → PicksLow rs → ListsValues rs → option_map pair_of o ≡ pick_low (values rs) u
    → IfSome o (λ pick. value_of rs pick.sel ≡ Some pick.uv)
low_value rs u None low listed is = tt
low_value rs u (Some pick) low listed is =
    let pick_is : MatchOption (Some (pair_of pick)) (All (λ q. u < q.1) (values rs)) (IsLowPick (values rs) u) =
    subst (λ (o : Option (ℕ × ℕ)). MatchOption o (All (λ q. u < q.1) (values rs)) (IsLowPick (values rs) u)) (sym is) (low u) in
    (listed pick.sel pick.uv).0 pick_is.among
