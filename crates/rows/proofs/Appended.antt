-- What a call that appends leaves, by its result.
use Rattle.std.proofs.Common.{◌≡◌, List, Result, Ok, Err, cond}
use Rattle.std.specs.Result.{is_ok, OnOk, OnErr}

pub OnOk-appended : {X T E : Type 0} (r : Result T E) (now more was : List X) → now ≡ cond (is_ok r) more was → OnOk r (now ≡ more)
OnOk-appended (Ok x) now more was is = is
OnOk-appended (Err e) now more was is = tt

pub OnErr-appended : {X T E : Type 0} (r : Result T E) (now more was : List X) → now ≡ cond (is_ok r) more was → OnErr r (now ≡ was)
OnErr-appended (Ok x) now more was is = tt
OnErr-appended (Err e) now more was is = is
