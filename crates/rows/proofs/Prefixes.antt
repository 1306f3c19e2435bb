-- What stands after a prefix and before a suffix.
use Rattle.std.proofs.Common.{ℕ, ◌≡◌, ◌≢◌, ◌+◌, ◌-◌, List, ◌++◌, length, take, drop, eqb, true, false, Option, Bor, MatchOption, IfSome, IfNone}
use Rattle.std.specs.Cmp.Lexicographic.{pointwise}
use Rattle.std.proofs.lemmas.Bool.Decides.{Decides-eqb}
use Rattle.std.proofs.lemmas.Slice.Eq.{strip_prefix_is, strip_suffix_is}
use Rattle.rows.proofs.Options.{some_part, none_part}

-- what `strip_prefix` says of bytes
module _ (s p : List ℕ) (r : Option (Bor (List ℕ))) (stripped : MatchOption r (pointwise eqb (take (length p) s) p ≡ false) (λ x. (pointwise eqb (take (length p) s) p ≡ true) × (x.now ≡ drop (length p) s) × (length x.now + length p ≡ length s))) where
  pub prefix_some : IfSome r (λ x. s ≡ p ++ x.now)
  prefix_some = some_part r ((rest : List ℕ) → s ≢ p ++ rest) (λ x. s ≡ p ++ x.now) (strip_prefix_is Decides-eqb s p r stripped)

  pub prefix_none : IfNone r ((rest : List ℕ) → s ≢ p ++ rest)
  prefix_none = none_part r ((rest : List ℕ) → s ≢ p ++ rest) (λ x. s ≡ p ++ x.now) (strip_prefix_is Decides-eqb s p r stripped)

-- what `strip_suffix` says of bytes
module _ (s p : List ℕ) (r : Option (Bor (List ℕ))) (stripped : MatchOption r (pointwise eqb (drop (length s - length p) s) p ≡ false) (λ x. (pointwise eqb (drop (length s - length p) s) p ≡ true) × (x.now ≡ take (length s - length p) s) × (length x.now + length p ≡ length s))) where
  pub suffix_some : IfSome r (λ x. s ≡ x.now ++ p)
  suffix_some = some_part r ((front : List ℕ) → s ≢ front ++ p) (λ x. s ≡ x.now ++ p) (strip_suffix_is Decides-eqb s p r stripped)

  pub suffix_none : IfNone r ((front : List ℕ) → s ≢ front ++ p)
  suffix_none = none_part r ((front : List ℕ) → s ≢ front ++ p) (λ x. s ≡ x.now ++ p) (strip_suffix_is Decides-eqb s p r stripped)
