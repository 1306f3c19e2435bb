-- What a look-up in a list of entries gives.
use Rattle.std.proofs.Common.{◌≡◌, ℕ, suc, ◌<◌, List, [], ◌∷◌, Bool, Some, length, map, get_or, sym, ◌∙◌, arith}
use Rattle.std.specs.Map.{lookup}
use Rattle.std.proofs.Math.Logic.{⊎_elim}
use Rattle.std.proofs.lemmas.Bool.{cases_Bool, cond-true, cond-false}

-- a value that is found stands at some place
pub lookup-at : {K : Type 0} (test : K → Bool) (es : List (K × ℕ)) (v : ℕ) → lookup test es ≡ Some v → (k : ℕ) × (k < length es) × (get_or (map (λ e. e.1) es) k 0 ≡ v)
lookup-at test [] v is = absurd (cc)
lookup-at test (e ∷ es) v is =
    ⊎_elim
    (λ here. (let found : Some e.1 ≡ Some v = sym (cond-true (test e.0) (Some e.1) (lookup test es) here) ∙ is in let same : e.1 ≡ v = cc in (0, omega arith, same)))
    (λ other. (let rest = lookup-at test es v (sym (cond-false (test e.0) (Some e.1) (lookup test es) other) ∙ is) in (suc rest.0, omega (arith, rest.1), rest.2)))
    (cases_Bool (test e.0))
