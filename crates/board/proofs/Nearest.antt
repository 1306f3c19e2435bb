-- A value is among the pairs exactly where the nearest one not below it has it.
use Rattle.std.proofs.Common.{◌≡◌, ℕ, Bool, true, false, ◌||◌, cond, leb, eqb, List, [], ◌∷◌, Option, Some, None, refl, sym, ap, ◌∙◌, map, filter, arith}
use Rattle.std.proofs.lemmas.Bool.Decides.{nat_tests}
use Rattle.std.specs.List.{list_any}
use Rattle.std.specs.Option.{option_map}
use Rattle.linear_range.specs.declared.pick.Pick.{Pick}
use Rattle.linear_range.specs.Pick.{pair_of}
use Rattle.linear_range.specs.Values.{lesser_pair, least_pair, pick_high}

-- the pair has this value
abbrev pub has_value : ℕ → Option (ℕ × ℕ) → Bool
has_value u None = false
has_value u (Some p) = eqb u p.1

-- no value below u
not_below : ℕ → Option (ℕ × ℕ) → Bool
not_below u None = true
not_below u (Some p) = leb u p.1

not_below-lesser : (u : ℕ) (p : ℕ × ℕ) (o : Option (ℕ × ℕ)) → leb u p.1 ≡ true → not_below u o ≡ true → leb u (lesser_pair p o).1 ≡ true
unfolding not_below
not_below-lesser u p None h rest = h
not_below-lesser u p (Some q) h rest = grind (arith, nat_tests)

not_below_step : (u : ℕ) (p : ℕ × ℕ) (ps : List (ℕ × ℕ)) (t : Bool) → leb u p.1 ≡ t → not_below u (least_pair ps) ≡ true → not_below u (least_pair (cond t (p ∷ ps) ps)) ≡ true
unfolding not_below
not_below_step u p ps true h rest = not_below-lesser u p (least_pair ps) h rest
not_below_step u p ps false h rest = rest

not_below-high : (u : ℕ) (ps : List (ℕ × ℕ)) → not_below u (pick_high ps u) ≡ true
unfolding not_below
not_below-high u [] = refl
not_below-high u (p ∷ ps) = not_below_step u p (filter (λ q. leb u q.1) ps) (leb u p.1) refl (not_below-high u ps)

has_value-lesser : (u : ℕ) (p : ℕ × ℕ) (o : Option (ℕ × ℕ)) → leb u p.1 ≡ true → not_below u o ≡ true → (eqb u p.1 || has_value u o) ≡ eqb u (lesser_pair p o).1
unfolding not_below
has_value-lesser u p None h rest = grind (arith, nat_tests)
has_value-lesser u p (Some q) h rest = grind (arith, nat_tests)

passed_over : (u v : ℕ) (b : Bool) → leb u v ≡ false → (eqb u v || b) ≡ b
passed_over u v b h = grind (arith, nat_tests)

has_value_step : (u : ℕ) (p : ℕ × ℕ) (ps : List (ℕ × ℕ)) (b t : Bool) → leb u p.1 ≡ t → not_below u (least_pair ps) ≡ true → b ≡ has_value u (least_pair ps)
    → (eqb u p.1 || b) ≡ has_value u (least_pair (cond t (p ∷ ps) ps))
has_value_step u p ps b true h rest is = ap (λ c. eqb u p.1 || c) is ∙ has_value-lesser u p (least_pair ps) h rest
has_value_step u p ps b false h rest is = passed_over u p.1 b h ∙ is

any-high : (u : ℕ) (ps : List (ℕ × ℕ)) → list_any (eqb u) (map (λ p. p.1) ps) ≡ has_value u (pick_high ps u)
any-high u [] = refl
any-high u (p ∷ ps) =
    has_value_step u p (filter (λ q. leb u q.1) ps) (list_any (eqb u) (map (λ q. q.1) ps)) (leb u p.1) refl (not_below-high u ps) (any-high u ps)

pub nearest_tells : (u : ℕ) (ps : List (ℕ × ℕ)) (pick o : Option Pick) → option_map pair_of pick ≡ pick_high ps u → pick ≡ o
    → has_value u (option_map pair_of o) ≡ list_any (eqb u) (map (λ p. p.1) ps)
nearest_tells u ps pick o is same = ap (λ q. has_value u (option_map pair_of q)) (sym same) ∙ ap (has_value u) is ∙ sym (any-high u ps)
