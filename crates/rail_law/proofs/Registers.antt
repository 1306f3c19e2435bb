-- Registers for the boards that are worked out by hand.
use Rattle.std.specs.Prelude.{ℕ, List, [], ◌∷◌, ◌++◌, replicate}

-- chip 0 with these selectors, from its register 0x10 on, and these on bits; chip 1 with an on bit
abbrev pub registers : List ℕ → ℕ → ℕ → List (List ℕ)
registers selectors on battery_on = (replicate 0x10 0 ++ (selectors ++ (replicate 12 0 ++ (on ∷ [])))) ∷ (battery_on ∷ []) ∷ []

-- the coupled bucks at 600000 µV and 6250 µV for each of these selectors, and off
abbrev pub pair_at : ℕ → ℕ → List (List ℕ)
pair_at first second = registers (first ∷ second ∷ 0 ∷ 0 ∷ []) 0 0

-- the buck and the ldo with these selectors, the buck on by bit 2 and the ldo by bit 3, and the battery
abbrev pub chain_at : ℕ → ℕ → ℕ → ℕ → List (List ℕ)
chain_at buck ldo on battery_on = registers (0 ∷ 0 ∷ buck ∷ ldo ∷ []) on battery_on
