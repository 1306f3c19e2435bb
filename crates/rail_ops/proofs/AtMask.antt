-- A number at the place of its field's mask.
use Rattle.std.proofs.Common.{◌≡◌, ℕ, ◌*◌, ◌^◌, ◌/◌, ◌%◌, ◌<◌, ◌≤◌, arith}
use Rattle.std.proofs.Math.Nat.{div-mul-le_self, mod-eq_of_lt, mul-le-mul_right}
use Rattle.chip_regs.specs.Width.{register_contents}

-- a number that fits a field, at the mask's place, fits a register
pub at_mask : (bits mask shift : ℕ) → bits ≤ mask / 2 ^ shift → mask < register_contents → bits * 2 ^ shift % register_contents ≡ bits * 2 ^ shift
at_mask bits mask shift fits byte =
    let below = mul-le-mul_right (2 ^ shift) fits in
    let whole = div-mul-le_self mask (2 ^ shift) in
    mod-eq_of_lt (omega arith)
