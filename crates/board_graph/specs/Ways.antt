-- Where single steps lead.
use Rattle.std.specs.Prelude.{ℕ, List, [], ◌∷◌}

-- single steps lead from a to b by way of these
abbrev pub IsWay : (ℕ → ℕ → Type 0) → ℕ → List ℕ → ℕ → Type 0
IsWay Step a [] b = Step a b
IsWay Step a (via ∷ rest) b = Step a via × IsWay Step via rest b

-- one step or several lead from a to b
pub record Leads (Step : ℕ → ℕ → Type 0) (a b : ℕ) : Type 0 where
  pub between : List ℕ
  pub way : IsWay Step a between b
