use Rattle.std.proofs.Common.{◌≡◌, ◌≤◌, ◌+◌, ℕ, List, [], ◌++◌, Option, Some, None, Result, Ok, Err, length, take, arith, sym, subst, ap, ◌∙◌, length-append}
use Rattle.std.specs.Prelude.{◌↔◌, IfSome}
use Rattle.reg_outside.specs.Told.{with_before, IsSpent}
use Rattle.reg_outside.proofs.ToldFacts.{with_before-nil, with_before-with_before}
use Rattle.regulator_main.specs.declared.input.InputError.{InputError}
use Rattle.regulator_main.specs.declared.input.InputError.TheVariants.{Failed, Memory}
use Rattle.regulator_main.specs.Input.{TookAtMost}

-- what was taken first, and then some bytes more
pub took_more : (old mid new : Option (List ℕ)) (first : List ℕ) (more most : ℕ) → old ≡ with_before first mid → TookAtMost more mid new → length first + more ≤ most → TookAtMost most old new
took_more old mid new first more most before (taken, few, after) fits =
    (first ++ taken, omega (arith, length-append first taken), before ∙ ap (with_before first) after ∙ with_before-with_before first taken new)

-- nothing was taken
pub took_none : (left : Option (List ℕ)) (most : ℕ) → TookAtMost most left left
took_none left most = ([], omega arith, sym (with_before-nil left))

-- what was taken first, and then the rest
pub took_then : (old mid new : Option (List ℕ)) (first more all : List ℕ) → old ≡ with_before first mid → mid ≡ with_before more new → all ≡ first ++ more → old ≡ with_before all new
took_then old mid new first more all before after is =
    before ∙ ap (with_before first) after ∙ with_before-with_before first more new ∙ ap (λ xs. with_before xs new) (sym is)

-- where nothing came, nothing is left
pub spent_by : (old new : Option (List ℕ)) (n : ℕ) (buf : List ℕ) → old ≡ with_before (take n buf) new → IfSome old (λ bytes. (n ≡ 0) ↔ (bytes ≡ [])) → n ≡ 0 → IsSpent new
spent_by old None n buf moved end zero = tt
spent_by old (Some left) n buf moved end zero =
    let here : IfSome (Some (take n buf ++ left)) (λ bytes. (n ≡ 0) ↔ (bytes ≡ [])) = subst (λ o. IfSome o (λ bytes. (n ≡ 0) ↔ (bytes ≡ []))) moved end in
    subst (λ m. take m buf ++ left ≡ []) zero (here.0 zero)

-- a value is no failure, nor is want of memory
pub ok_is_no_failure : {A : Type 0} (x : A) (e : InputError) → ◌≡◌ {A = Result A InputError} (Ok x) (Err e) → ⊥
ok_is_no_failure x e same = cc

pub memory_is_no_failure : {A : Type 0} (e : InputError) → e ≡ Memory → ◌≡◌ {A = Result A InputError} (Err e) (Err Failed) → ⊥
memory_is_no_failure e is same = cc

-- a failure stays one where it is passed on
pub still_failed : {A B : Type 0} (e : InputError) → ◌≡◌ {A = Result A InputError} (Err e) (Err Failed) → ◌≡◌ {A = Result B InputError} (Err e) (Err Failed)
still_failed e same = cc
