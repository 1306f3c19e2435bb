-- The picks from a written-out list of pairs (selector, µV).
use Rattle.std.specs.Prelude.{ℕ, nat_le, if◌then◌else◌, List, [], ◌∷◌, Option, None, Some}
use Rattle.std.specs.List.{filter}

-- the earlier of two pairs, unless the later one has fewer µV
abbrev pub lesser_pair : ℕ × ℕ → Option (ℕ × ℕ) → ℕ × ℕ
lesser_pair p None = p
lesser_pair p (Some q) = if nat_le p.1 q.1 then p else q

-- the pair with the least µV, at its first place
abbrev pub least_pair : List (ℕ × ℕ) → Option (ℕ × ℕ)
least_pair [] = None
least_pair (p ∷ ps) = Some (lesser_pair p (least_pair ps))

-- the earlier of two pairs, unless the later one has more µV
abbrev pub greater_pair : ℕ × ℕ → Option (ℕ × ℕ) → ℕ × ℕ
greater_pair p None = p
greater_pair p (Some q) = if nat_le q.1 p.1 then p else q

-- the pair with the most µV, at its first place
abbrev pub greatest_pair : List (ℕ × ℕ) → Option (ℕ × ℕ)
greatest_pair [] = None
greatest_pair (p ∷ ps) = Some (greater_pair p (greatest_pair ps))

-- among the pairs not below u the one with the least µV, at its first place
abbrev pub pick_high : List (ℕ × ℕ) → ℕ → Option (ℕ × ℕ)
pick_high ps u = least_pair (filter (λ p. nat_le u p.1) ps)

-- among the pairs not above u the one with the most µV, at its first place
abbrev pub pick_low : List (ℕ × ℕ) → ℕ → Option (ℕ × ℕ)
pick_low ps u = greatest_pair (filter (λ p. nat_le p.1 u) ps)
