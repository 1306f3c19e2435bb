-- Pairs of numbers, shared out by their first.
use Rattle.std.specs.Prelude.{ℕ, ◌≡◌, ◌<◌, ◌==◌, List, [], length, map, filter, slice_index_or}

-- the second numbers of the pairs with this first one, in their order
abbrev pub listed : List (ℕ × ℕ) → ℕ → List ℕ
listed pairs first = map (λ p. p.1) (filter (λ p. p.0 == first) pairs)

-- for each number below a count the list of the second numbers of its pairs
pub record AreLists (count : ℕ) (pairs : List (ℕ × ℕ)) (lists : List (List ℕ)) : Type 0 where
  pub size : length lists ≡ count
  pub at : (k : ℕ) → k < count → slice_index_or lists k [] ≡ listed pairs k

-- the pairs the other way round
abbrev pub turned : List (ℕ × ℕ) → List (ℕ × ℕ)
turned pairs = map (λ p. (p.1, p.0)) pairs

-- the first numbers of the pairs are below a count
abbrev pub AreBelow : ℕ → List (ℕ × ℕ) → Type 0
AreBelow count pairs = (i : ℕ) → i < length pairs → (slice_index_or pairs i (0, 0)).0 < count
