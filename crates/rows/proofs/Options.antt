-- The two sides of a clause on an `Option`, and the one of an `Err`.
use Rattle.std.proofs.Common.{Option, Some, None, Result, Ok, Err}
use Rattle.std.specs.Prelude.{MatchOption, IfSome, IfNone, IfErr}

-- the part of a clause that is said of a value
pub some_part : {X : Type 0} (r : Option X) (P : Type 0) (Q : X → Type 0) → MatchOption r P Q → IfSome r Q
some_part None P Q h = tt
some_part (Some x) P Q h = h

-- the part of a clause that is said where there is none
pub none_part : {X : Type 0} (r : Option X) (P : Type 0) (Q : X → Type 0) → MatchOption r P Q → IfNone r P
none_part None P Q h = h
none_part (Some x) P Q h = tt

-- what follows where there is none
pub none_then : {X : Type 0} (r : Option X) (P Q : Type 0) → IfNone r P → (P → Q) → IfNone r Q
none_then None P Q h f = f h
none_then (Some x) P Q h f = tt

-- what follows of a value
pub some_then : {X : Type 0} (r : Option X) (P Q : X → Type 0) → IfSome r P → ((x : X) → P x → Q x) → IfSome r Q
some_then None P Q h f = tt
some_then (Some x) P Q h f = f x h

-- what follows of an error
pub err_then : {X E : Type 0} (r : Result X E) (P Q : E → Type 0) → IfErr r P → ((e : E) → P e → Q e) → IfErr r Q
err_then (Ok x) P Q h f = tt
err_then (Err e) P Q h f = f e h
