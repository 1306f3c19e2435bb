-- What a setup line tells of its parts.
use Rattle.std.proofs.Common.{ℕ, ◌≡◌, ◌^◌, ◌<◌, List, ◌∷◌, ◌++◌, decimal, arith}
use Rattle.std.proofs.lemmas.Fmt.{decimal_injective}
use Rattle.session.specs.declared.setup.Setup.{Setup}
use Rattle.session.specs.Frame.{setup_text, IsSetup}
use Rattle.rows.proofs.Separators.{split_once}
use Rattle.rows.proofs.Spaces.{Lacks-decimal}

-- two numbers with a space between them are spelled in one way
pub numbers_same : (m n m' n' : ℕ) → m < 2 ^ 32 → n < 2 ^ 32 → m' < 2 ^ 32 → n' < 2 ^ 32 → decimal m ++ 32 ∷ decimal n ≡ decimal m' ++ 32 ∷ decimal n' → (m ≡ m') × (n ≡ n')
numbers_same m n m' n' fm fn fm' fn' same =
    let parts = split_once 32 (decimal m) (decimal n) (decimal m') (decimal n') (Lacks-decimal m fm) (Lacks-decimal m' fm') same in
    (decimal_injective m m' (omega arith) (omega arith) parts.0, decimal_injective n n' (omega arith) (omega arith) parts.1)

-- the line is a setup line
abbrev pub IsSetupLine : List ℕ → Type 0
IsSetupLine line = (setup : Setup) × IsSetup setup × (line ≡ setup_text setup)
