-- Numbers that stop at 2 ^ 32.
use Rattle.std.proofs.Common.{◌≡◌, ℕ, ◌+◌, ◌*◌, ◌^◌, ◌<◌, ◌≤◌, min, ⊎_elim, arith}
use Rattle.std.proofs.Math.Nat.{mul-le-mul, min-eq_right}
use Rattle.std.proofs.lemmas.Bool.{cases_lt}

-- one more digit doesn't leave 64 bits
pub digit_fits : (value base digit : ℕ) → value ≤ 2 ^ 32 → base ≤ 16 → digit < 16 → value * base + digit < 2 ^ 64
digit_fits value base digit small low one =
    let product : value * base ≤ 2 ^ 32 * 16 = mul-le-mul small low in
    omega (arith, product)

-- the digits after a number that has stopped leave it there
pub min_step : (value base digit top : ℕ) → 1 ≤ base → min (min value top * base + digit) top ≡ min (value * base + digit) top
min_step value base digit top some =
    ⊎_elim
    (λ below. let e : min value top ≡ value = omega arith in rw e)
    (λ above.
    let stopped : min value top ≡ top = omega arith in
    let large : top * 1 ≤ top * base = mul-le-mul (omega arith) some in
    let larger : top * base ≤ value * base = mul-le-mul above (omega arith) in
    let after : top ≤ top * base + digit = omega (arith, large) in
    let before : top ≤ value * base + digit = omega (arith, large, larger) in
    rw (stopped, min-eq_right after, min-eq_right before))
    (cases_lt value top)
