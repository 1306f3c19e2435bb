-- Names in one row of bytes.
use Rattle.std.proofs.Common.{◌≡◌, ℕ, zero, suc, ◌+◌, ◌-◌, ◌<◌, ◌≤◌, List, [], ◌∷◌, ◌++◌, length, Result, Ok, Err, get_or, take, drop, refl, sym, ap, ◌∙◌, arith}
use Rattle.std.proofs.Math.Seq.{drop-append_seam}
use Rattle.std.proofs.lemmas.List.{drop-take, take_all, take_at, take-take, length-append, length-take-le, length-drop, get_or_default}
use Rattle.std.specs.List.{slice_range}
use Rattle.std.specs.Prelude.{OnErr}
use Rattle.name_map.specs.Inside.Listed.{bytes_in}
use Rattle.name_map.specs.Inside.Shelved.{names_from, last_end, begin_of, Rises}

pub on_err : {T E P : Type 0} (r : Result T E) → P → OnErr r P
on_err (Ok x) p = tt
on_err (Err e) p = p

pub names-length : (from : ℕ) (ends bytes : List ℕ) → length (names_from from ends bytes) ≡ length ends
names-length from [] bytes = refl
names-length from (end ∷ ends) bytes = ap suc (names-length end ends bytes)

pub rises-last : (from : ℕ) (ends : List ℕ) → Rises from ends → from ≤ last_end from ends
rises-last from [] rises = omega arith
rises-last from (end ∷ ends) rises = omega (arith, rises.0, rises-last end ends rises.1)

-- names that end early enough lie in the front of the bytes
range-front : (bytes : List ℕ) (from end n : ℕ) → from ≤ end → end ≤ n → slice_range (take n bytes) from end ≡ slice_range bytes from end
range-front bytes from end n up inside =
    let e : n ≡ from + (n - from) = omega arith in
    ap (λ m. slice_range (take m bytes) from end) e
    ∙ ap (take (end - from)) (drop-take from (n - from) bytes)
    ∙ take-take (end - from) (n - from) (drop from bytes) (omega arith)

pub names-front : (from : ℕ) (ends bytes : List ℕ) (n : ℕ) → Rises from ends → last_end from ends ≤ n → names_from from ends (take n bytes) ≡ names_from from ends bytes
names-front from [] bytes n rises inside = refl
names-front from (end ∷ ends) bytes n rises inside =
    ap (λ x. x ∷ names_from end ends (take n bytes)) (range-front bytes from end n rises.0 (omega (arith, inside, rises-last end ends rises.1)))
    ∙ ap (λ xs. slice_range bytes from end ∷ xs) (names-front end ends bytes n rises.1 inside)

-- one name more
names-push : (from : ℕ) (ends bytes : List ℕ) (end : ℕ) → names_from from (ends ++ end ∷ []) bytes ≡ names_from from ends bytes ++ slice_range bytes (last_end from ends) end ∷ []
names-push from [] bytes end = refl
names-push from (e ∷ ends) bytes end = ap (λ xs. slice_range bytes from e ∷ xs) (names-push e ends bytes end)

pub rises-push : (from : ℕ) (ends : List ℕ) (end : ℕ) → Rises from ends → last_end from ends ≤ end → Rises from (ends ++ end ∷ [])
rises-push from [] end rises up = (up, tt)
rises-push from (e ∷ ends) end rises up = (rises.0, rises-push e ends end rises.1 up)

pub last-push : (from : ℕ) (ends : List ℕ) (end : ℕ) → last_end from (ends ++ end ∷ []) ≡ end
last-push from [] end = refl
last-push from (e ∷ ends) end = last-push e ends end

-- other bytes behind those of the last name
pub names-behind : (ends bytes name : List ℕ) → Rises 0 ends → last_end 0 ends ≤ length bytes → names_from 0 ends (take (last_end 0 ends) bytes ++ name) ≡ names_from 0 ends bytes
names-behind ends bytes name rises inside =
    let last = last_end 0 ends in
    let front : List ℕ = take last bytes in
    sym (names-front 0 ends (front ++ name) last rises (omega arith))
    ∙ ap (names_from 0 ends) (take_at front name last (length-take-le last bytes inside))
    ∙ names-front 0 ends bytes last rises (omega arith)

-- and one name more, of these bytes
pub names-more : (ends bytes name : List ℕ) (end : ℕ) → Rises 0 ends → last_end 0 ends ≤ length bytes → end ≡ length (take (last_end 0 ends) bytes ++ name) → names_from 0 (ends ++ end ∷ []) (take (last_end 0 ends) bytes ++ name) ≡ names_from 0 ends bytes ++ name ∷ []
names-more ends bytes name end rises inside is =
    let last = last_end 0 ends in
    let front : List ℕ = take last bytes in
    let long : length front ≡ last = length-take-le last bytes inside in
    let size : end - last ≡ length name = omega (arith, is, long, length-append front name) in
    names-push 0 ends (front ++ name) end
    ∙ ap (λ xs. xs ++ slice_range (front ++ name) last end ∷ []) (names-behind ends bytes name rises inside)
    ∙ ap (λ x. names_from 0 ends bytes ++ x ∷ [])
    (ap (λ n. take n (drop last (front ++ name))) size
    ∙ ap (take (length name)) (ap (λ n. drop n (front ++ name)) (sym long) ∙ drop-append_seam front name)
    ∙ take_all (length name) name (omega arith))

-- one name less
pub names-take : (n from : ℕ) (ends bytes : List ℕ) → names_from from (take n ends) bytes ≡ take n (names_from from ends bytes)
names-take zero from ends bytes = refl
names-take (suc n) from [] bytes = refl
names-take (suc n) from (end ∷ ends) bytes = ap (λ xs. slice_range bytes from end ∷ xs) (names-take n end ends bytes)

pub rises-take : (n from : ℕ) (ends : List ℕ) → Rises from ends → Rises from (take n ends)
rises-take zero from ends rises = tt
rises-take (suc n) from [] rises = tt
rises-take (suc n) from (end ∷ ends) rises = (rises.0, rises-take n end ends rises.1)

pub last-take : (n from : ℕ) (ends : List ℕ) → Rises from ends → last_end from (take n ends) ≤ last_end from ends
last-take zero from ends rises = rises-last from ends rises
last-take (suc n) from [] rises = omega arith
last-take (suc n) from (end ∷ ends) rises = last-take n end ends rises.1

-- where the last name ends
pub last-read : (from : ℕ) (ends : List ℕ) → last_end from ends ≡ get_or ends (length ends - 1) from
last-read from [] = refl
last-read from (end ∷ []) = refl
last-read from (end ∷ next ∷ ends) =
    let e : length (end ∷ next ∷ ends) - 1 ≡ suc (length (next ∷ ends) - 1) = omega arith in
    last-read end (next ∷ ends)
    ∙ get_or_default (next ∷ ends) (length (next ∷ ends) - 1) end from (omega arith)
    ∙ ap (λ i. get_or (end ∷ next ∷ ends) i from) (sym e)

-- the name at a place
pub name-read : (from : ℕ) (ends bytes : List ℕ) (place : ℕ) → place < length ends → get_or (names_from from ends bytes) place [] ≡ slice_range bytes (begin_of from ends place) (get_or ends place 0)
name-read from [] bytes place inside = absurd (omega arith)
name-read from (end ∷ ends) bytes zero inside = refl
name-read from (end ∷ ends) bytes (suc zero) inside = name-read end ends bytes zero (omega (arith, inside))
name-read from (end ∷ ends) bytes (suc (suc k)) inside = name-read end ends bytes (suc k) (omega (arith, inside))

pub begin-end : (from : ℕ) (ends : List ℕ) (place : ℕ) → place < length ends → Rises from ends → begin_of from ends place ≤ get_or ends place 0
begin-end from [] place inside rises = absurd (omega arith)
begin-end from (end ∷ ends) zero inside rises = rises.0
begin-end from (end ∷ ends) (suc zero) inside rises = begin-end end ends zero (omega (arith, inside)) rises.1
begin-end from (end ∷ ends) (suc (suc k)) inside rises = begin-end end ends (suc k) (omega (arith, inside)) rises.1

pub end-last : (from : ℕ) (ends : List ℕ) (place : ℕ) → place < length ends → Rises from ends → get_or ends place 0 ≤ last_end from ends
end-last from [] place inside rises = absurd (omega arith)
end-last from (end ∷ ends) zero inside rises = rises-last end ends rises.1
end-last from (end ∷ ends) (suc k) inside rises = end-last end ends k (omega (arith, inside)) rises.1

-- how many bytes there are up to the end of the last name
range-length : (bytes : List ℕ) (from end : ℕ) → end ≤ length bytes → length (slice_range bytes from end) ≡ end - from
range-length bytes from end inside = length-take-le (end - from) (drop from bytes) (omega (arith, inside, length-drop from bytes))

pub last-bytes : (from : ℕ) (ends bytes : List ℕ) → Rises from ends → last_end from ends ≤ length bytes → last_end from ends ≡ from + bytes_in (names_from from ends bytes)
last-bytes from [] bytes rises inside = omega arith
last-bytes from (end ∷ ends) bytes rises inside =
    omega (arith, rises.0, last-bytes end ends bytes rises.1 inside, range-length bytes from end (omega (arith, inside, rises-last end ends rises.1)))
