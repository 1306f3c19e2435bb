use Rattle.std.proofs.Common.{◌≡◌, ℕ, ◌*◌, ◌%◌, ◌^◌, ◌<◌, arith, refl}
use Rattle.std.proofs.lemmas.Nat.{shl_whole}
use Rattle.chip_regs.specs.Width.{register_contents, register_width}
use Rattle.pmic_tables.proofs.layout.Layout.modes.Goals as goal

-- the two bits of one of four rails stay within the register
mode_mask : (k : ℕ) → k < 4 → 3 * 2 ^ (2 * k) % register_contents ≡ 3 * 2 ^ (2 * k)
mode_mask k few = shl_whole 3 2 (2 * k) register_width (omega arith) (omega arith)

pub returns-in-Buck : goal.returns-in-Buck
returns-in-Buck c =
    let few : c.args.place < 4 = rw c.in-Buck.is at c.requires in
    rw (c.in-Buck.is, mode_mask c.args.place few) refl
