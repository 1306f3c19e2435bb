-- Entries, and their names beside them.
use Rattle.std.proofs.Common.{◌≡◌, ℕ, zero, suc, ◌-◌, ◌<◌, ◌≤◌, List, [], ◌∷◌, ◌++◌, length, map, take, set, get_or, refl, ap, arith}
use Rattle.std.proofs.lemmas.List.{length_push, take_at}
use Rattle.name_map.specs.NameEntries.{size_of}
use Rattle.name_map.specs.Inside.Listed.{named, bytes_in}

module _ {V : Type 0} where
  pub named-length : (es : List (ℕ × V)) (names : List (List ℕ)) → length names ≡ length es → length (named es names) ≡ length es
  named-length [] names long = refl
  named-length (e ∷ es) [] long = absurd (omega (arith, long))
  named-length (e ∷ es) (n ∷ names) long = ap suc (named-length es names (omega (arith, long)))

  pub named-owners : (es : List (ℕ × V)) (names : List (List ℕ)) → length names ≡ length es → map (λ (e : (ℕ × List ℕ) × V). e.0.0) (named es names) ≡ map (λ (e : ℕ × V). e.0) es
  named-owners [] names long = refl
  named-owners (e ∷ es) [] long = absurd (omega (arith, long))
  named-owners (e ∷ es) (n ∷ names) long = ap (λ xs. e.0 ∷ xs) (named-owners es names (omega (arith, long)))

  pub named-names : (es : List (ℕ × V)) (names : List (List ℕ)) → length names ≡ length es → map (λ (e : (ℕ × List ℕ) × V). e.0.1) (named es names) ≡ names
  named-names [] [] long = refl
  named-names [] (n ∷ names) long = absurd (omega (arith, long))
  named-names (e ∷ es) [] long = absurd (omega (arith, long))
  named-names (e ∷ es) (n ∷ names) long = ap (λ xs. n ∷ xs) (named-names es names (omega (arith, long)))

  pub named-values : (es : List (ℕ × V)) (names : List (List ℕ)) → length names ≡ length es → map (λ (e : (ℕ × List ℕ) × V). e.1) (named es names) ≡ map (λ (e : ℕ × V). e.1) es
  named-values [] names long = refl
  named-values (e ∷ es) [] long = absurd (omega (arith, long))
  named-values (e ∷ es) (n ∷ names) long = ap (λ xs. e.1 ∷ xs) (named-values es names (omega (arith, long)))

  pub named-push : (es : List (ℕ × V)) (names : List (List ℕ)) (owner : ℕ) (name : List ℕ) (value : V) → length names ≡ length es → named (es ++ (owner, value) ∷ []) (names ++ name ∷ []) ≡ named es names ++ ((owner, name), value) ∷ []
  named-push [] [] owner name value long = refl
  named-push [] (n ∷ names) owner name value long = absurd (omega (arith, long))
  named-push (e ∷ es) [] owner name value long = absurd (omega (arith, long))
  named-push (e ∷ es) (n ∷ names) owner name value long = ap (λ xs. ((e.0, n), e.1) ∷ xs) (named-push es names owner name value (omega (arith, long)))

  pub named-take : (k : ℕ) (es : List (ℕ × V)) (names : List (List ℕ)) → named (take k es) (take k names) ≡ take k (named es names)
  named-take zero es names = refl
  named-take (suc k) [] names = refl
  named-take (suc k) (e ∷ es) [] = refl
  named-take (suc k) (e ∷ es) (n ∷ names) = ap (λ xs. ((e.0, n), e.1) ∷ xs) (named-take k es names)

  pub named-set : (es : List (ℕ × V)) (names : List (List ℕ)) (k : ℕ) (value : V) (d : ℕ × V) (f : (ℕ × List ℕ) × V) → length names ≡ length es → k < length es → named (set es k ((get_or es k d).0, value)) names ≡ set (named es names) k ((get_or (named es names) k f).0, value)
  named-set [] names k value d f long inside = absurd (omega (arith, inside))
  named-set (e ∷ es) [] k value d f long inside = absurd (omega (arith, long))
  named-set (e ∷ es) (n ∷ names) zero value d f long inside = refl
  named-set (e ∷ es) (n ∷ names) (suc k) value d f long inside = ap (λ xs. ((e.0, n), e.1) ∷ xs) (named-set es names k value d f (omega (arith, long)) (omega (arith, inside)))

  -- the names alone have fewer bytes
  pub bytes-size : (es : List (ℕ × V)) (names : List (List ℕ)) → length names ≡ length es → bytes_in names ≤ size_of (named es names)
  bytes-size [] [] long = omega arith
  bytes-size [] (n ∷ names) long = absurd (omega (arith, long))
  bytes-size (e ∷ es) [] long = absurd (omega (arith, long))
  bytes-size (e ∷ es) (n ∷ names) long = omega (arith, bytes-size es names (omega (arith, long)))

-- one item more and then one less
pub pop-push : {X : Type 0} (xs : List X) (x : X) → take (length (xs ++ x ∷ []) - 1) (xs ++ x ∷ []) ≡ xs
pop-push xs x = take_at xs (x ∷ []) (length (xs ++ x ∷ []) - 1) (omega (arith, length_push xs x))
