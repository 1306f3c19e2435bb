use Rattle.std.proofs.Common.{ℕ, ◌≡◌, ◌<◌, ◌-◌, ◌*◌, ◌^◌}
use Rattle.chip_regs.proofs.field.Field.fits.Given as goal

-- no shorter run is the mask
abbrev pub invariant-loop-width : goal.invariant-loop-width
invariant-loop-width l = (width : ℕ) → width < l.width → 0 < width → l.self.mask ≡ (2 ^ width - 1) * 2 ^ l.self.shift → ⊥
