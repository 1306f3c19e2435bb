-- The least value that meets all that is asked.
use Rattle.std.proofs.Common.{◌≡◌, ℕ, Bool, true, false, cond, ◌||◌, leb, eqb, eq-eqb, List, [], ◌∷◌, Option, Some, None, refl, sym, ap, ◌∙◌, filter}
use Rattle.board.specs.declared.rail.Rail.{Rail}
use Rattle.board.specs.Rail.{allowed, is_within, least, lesser, IsAllowed}
use Rattle.regulator_main.proofs.Ordered.{has, has-filter, or_true}
use Rattle.regulator_main.proofs.Nearest.{right_true}

least_has_either : (n m : ℕ) (ns : List ℕ) (v : ℕ) (t : Bool) → cond t n m ≡ v → has m ns ≡ true → (eqb v n || has v ns) ≡ true
least_has_either n m ns v true chosen rest = ap (λ b. b || has v ns) (eq-eqb v n (sym chosen))
least_has_either n m ns v false chosen rest = ap (λ b. eqb v n || b) (ap (λ w. has w ns) (sym chosen) ∙ rest) ∙ or_true (eqb v n)

least_has_step : (n : ℕ) (ns : List ℕ) (o : Option ℕ) (v : ℕ) → least ns ≡ o → ((m : ℕ) → o ≡ Some m → has m ns ≡ true) → lesser n o ≡ v → has v (n ∷ ns) ≡ true
least_has_step n ns None v is rest chosen = ap (λ b. b || has v ns) (eq-eqb v n (sym chosen))
least_has_step n ns (Some m) v is rest chosen = least_has_either n m ns v (leb n m) chosen (rest m refl)

-- the least value of a list is in it
least_has : (ns : List ℕ) (v : ℕ) → least ns ≡ Some v → has v ns ≡ true
least_has [] v is = cc
least_has (n ∷ ns) v is = let chosen : lesser n (least ns) ≡ v = cc in least_has_step n ns (least ns) v refl (λ m e. least_has ns m e) chosen

-- a target is a value that the rail may stand at
pub target_allowed : (rail : Rail) (bounds : ℕ × ℕ) (target : ℕ) → least (filter (is_within (Some bounds)) (allowed rail)) ≡ Some target → IsAllowed rail target
target_allowed rail bounds target is =
    right_true (is_within (Some bounds) target) (has target (allowed rail))
    (sym (has-filter (is_within (Some bounds)) target (allowed rail)) ∙ least_has (filter (is_within (Some bounds)) (allowed rail)) target is)
