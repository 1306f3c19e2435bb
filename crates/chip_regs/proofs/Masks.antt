-- a byte with a number put under a mask: what is read back, and what stays
use Rattle.std.proofs.Common.{ℕ, ◌≡◌, ◌+◌, ◌-◌, ◌*◌, ◌/◌, ◌%◌, ◌^◌, ◌<◌, ◌≤◌, ◌≢◌, min, inl, inr, bit_and, bit_or, arith, refl, sym, ◌∙◌, ap, add-zero, lit<}
use Rattle.std.specs.Int.Bits.{and_zero_r, and_zero_l, and_self}
use Rattle.std.proofs.lemmas.Nat.{and_comm, and_assoc, and-not, and_or_apart, and_block, and_mask, or_comm, or_disjoint, and_le_l, shl_below, pow_pos, shr_split, mod_below}
use Rattle.std.proofs.lemmas.Nat.Bits.{ones_shr, bit_at-trailing_zeros, bit_at_and, bit_at-lt, bit_at-zero, and_pow}
use Rattle.std.specs.Int.{bit_at, trailing_zeros, IsBitSet}
use Rattle.std.proofs.lemmas.Bool.{cases_eq}
use Rattle.std.proofs.lemmas.Grind.{and-not_self}
use Rattle.std.proofs.Math.Nat.{pow-le-pow_right, mod-eq_of_lt}
use Rattle.chip_regs.specs.Width.{register_contents, register_width, register_word}

-- what the byte holds outside the mask
abbrev pub kept_of : ℕ → ℕ → ℕ
kept_of byte mask = byte - bit_and byte mask

pub kept_of-not : (byte mask : ℕ) → byte < register_contents → mask < register_contents → bit_and byte (register_contents - 1 - mask) ≡ kept_of byte mask
kept_of-not byte mask b m =
    let whole : bit_and (register_contents - 1 - mask) byte + bit_and mask byte ≡ byte = and-not register_width mask byte m b in
    let turned : bit_and byte (register_contents - 1 - mask) ≡ bit_and (register_contents - 1 - mask) byte = and_comm byte (register_contents - 1 - mask) in
    let other : bit_and byte mask ≡ bit_and mask byte = and_comm byte mask in
    omega arith

-- nothing of it lies under the mask
pub and-kept_of : (byte mask : ℕ) → byte < register_contents → mask < register_contents → bit_and (kept_of byte mask) mask ≡ 0
and-kept_of byte mask b m =
    ap (λ x. bit_and x mask) (sym (kept_of-not byte mask b m)) ∙ and-not_self byte (register_contents - 1) mask mask refl (omega arith) refl

-- two numbers under one mask's complement and under the mask share no bit
and-under : (a byte mask : ℕ) → bit_and a mask ≡ 0 → bit_and a (bit_and byte mask) ≡ 0
and-under a byte mask h =
    ap (bit_and a) (and_comm byte mask) ∙ sym (and_assoc byte a mask) ∙ ap (λ x. bit_and x byte) h ∙ and_zero_l byte

-- a number with all of its bits under the mask has none of them outside
and-outside : (part mask other : ℕ) → bit_and part mask ≡ part → bit_and mask other ≡ 0 → bit_and part other ≡ 0
and-outside part mask other inside apart =
    ap (λ x. bit_and x other) (sym inside) ∙ and_assoc other part mask ∙ ap (bit_and part) apart ∙ and_zero_r part

-- bits that are not under the mask are all kept
pub and-kept_of_apart :
    (byte mask other : ℕ) → byte < register_contents → mask < register_contents → bit_and mask other ≡ 0 → bit_and (kept_of byte mask) other ≡ bit_and byte other
and-kept_of_apart byte mask other b m apart =
    let kept = kept_of byte mask in
    let part = bit_and byte mask in
    let clear : bit_and kept part ≡ 0 = and-under kept byte mask (and-kept_of byte mask b m) in
    let sum : kept + part ≡ byte = let small : part ≤ byte = and_le_l byte mask in omega arith in
    let joined : bit_or kept part ≡ byte = or_disjoint kept part clear ∙ sum in
    let inside : bit_and part mask ≡ part = and_assoc mask byte mask ∙ ap (bit_and byte) (and_self mask) in
    sym (ap (λ x. bit_and x other) (sym joined) ∙ and_or_apart other kept part (and-outside part mask other inside apart))

-- the byte with a part under the mask in the place of the old one
pub merged : (byte mask part : ℕ) → byte < register_contents → mask < register_contents → bit_and part mask ≡ part → bit_or (kept_of byte mask) part ≡ kept_of byte mask + part
merged byte mask part b m inside =
    let kept = kept_of byte mask in
    or_disjoint kept part (ap (bit_and kept) (sym inside) ∙ and-under kept part mask (and-kept_of byte mask b m))

-- under the mask it has the part
pub and-merged : (byte mask part : ℕ) → byte < register_contents → mask < register_contents → bit_and part mask ≡ part → bit_and (kept_of byte mask + part) mask ≡ part
and-merged byte mask part b m inside =
    let kept = kept_of byte mask in
    ap (λ x. bit_and x mask) (sym (merged byte mask part b m inside) ∙ or_comm kept part)
    ∙ and_or_apart mask part kept (and-kept_of byte mask b m)
    ∙ inside

-- elsewhere it is as before
pub and-merged_apart :
    (byte mask part other : ℕ) → byte < register_contents → mask < register_contents → bit_and part mask ≡ part → bit_and mask other ≡ 0
    → bit_and (kept_of byte mask + part) other ≡ bit_and byte other
and-merged_apart byte mask part other b m inside apart =
    let kept = kept_of byte mask in
    ap (λ x. bit_and x other) (sym (merged byte mask part b m inside))
    ∙ and_or_apart other kept part (and-outside part mask other inside apart)
    ∙ and-kept_of_apart byte mask other b m apart

-- a run of ones, and a number of as many bits at its place
pub and-run : (width shift n : ℕ) → n < 2 ^ width → bit_and (n * 2 ^ shift) ((2 ^ width - 1) * 2 ^ shift) ≡ n * 2 ^ shift
and-run width shift n fits =
    let same : bit_and n (2 ^ width - 1) ≡ n = and_mask n width ∙ mod-eq_of_lt fits in
    simp add-zero at (and_block shift n (2 ^ width - 1) 0 0 (pow_pos shift) (pow_pos shift)) ∙ ap (λ x. x * 2 ^ shift) same

pub run_below : (width shift : ℕ) → shift + width ≤ register_width → (2 ^ width - 1) * 2 ^ shift < register_contents
run_below width shift fits =
    let one : 2 ^ width - 1 < 2 ^ width = omega (arith, pow_pos width) in
    let below : (2 ^ width - 1) * 2 ^ shift < 2 ^ (width + shift) = shl_below (2 ^ width - 1) width shift one in
    let within : width + shift ≤ register_width = omega arith in
    let most : 2 ^ (width + shift) ≤ register_contents = pow-le-pow_right {n = 2} (lit< tt) within in
    omega arith

-- the run of ones as `fits` makes it
pub run-shifted : (width shift : ℕ) → shift + width ≤ register_width → (register_contents - 1) / 2 ^ (register_width - width) * 2 ^ shift % register_contents ≡ (2 ^ width - 1) * 2 ^ shift
run-shifted width shift within =
    let short : register_width - width ≤ register_width = omega arith in
    let back : register_width - (register_width - width) ≡ width = omega arith in
    let ones : (register_contents - 1) / 2 ^ (register_width - width) ≡ 2 ^ width - 1 = ones_shr register_width (register_width - width) short ∙ ap (λ k. 2 ^ k - 1) back in
    ap (λ x. x * 2 ^ shift % register_contents) ones ∙ mod-eq_of_lt (run_below width shift within)

-- a byte under a run of ones at a place: its bits from that place on, under the run
pub and-high_run : (byte width shift : ℕ) → bit_and byte ((2 ^ width - 1) * 2 ^ shift) ≡ bit_and (byte / 2 ^ shift) (2 ^ width - 1) * 2 ^ shift
and-high_run byte width shift =
    let ones = 2 ^ width - 1 in
    let split : byte ≡ byte / 2 ^ shift * 2 ^ shift + byte % 2 ^ shift = sym (shr_split byte shift) in
    let low : byte % 2 ^ shift < 2 ^ shift = mod_below byte (2 ^ shift) (pow_pos shift) in
    let whole : ones * 2 ^ shift ≡ ones * 2 ^ shift + 0 = sym (add-zero (ones * 2 ^ shift)) in
    ap (λ b. bit_and b (ones * 2 ^ shift)) split
    ∙ ap (bit_and (byte / 2 ^ shift * 2 ^ shift + byte % 2 ^ shift)) whole
    ∙ and_block shift (byte / 2 ^ shift) ones (byte % 2 ^ shift) 0 low (pow_pos shift)
    ∙ ap (λ x. bit_and (byte / 2 ^ shift) ones * 2 ^ shift + x) (and_zero_r (byte % 2 ^ shift))
    ∙ add-zero (bit_and (byte / 2 ^ shift) ones * 2 ^ shift)

-- a bit that reads 1 is set, and a bit that is set reads 1
bit-set : (n bit : ℕ) → bit_at n bit ≡ 1 → IsBitSet n bit
bit-set n bit one none =
    let product : bit_at n bit * 2 ^ bit ≡ 0 = sym (and_pow n bit) ∙ none in
    let lone : 1 * 2 ^ bit ≡ 0 = ap (λ x. x * 2 ^ bit) (sym one) ∙ product in
    omega (arith, lone, pow_pos bit)

set-bit : (n bit : ℕ) → IsBitSet n bit → bit_at n bit ≡ 1
set-bit n bit set =
    elim (cases_eq (bit_at n bit) 0) [
      | inl none ↦ let clear : bit_and n (2 ^ bit) ≡ 0 * 2 ^ bit = and_pow n bit ∙ ap (λ x. x * 2 ^ bit) none in absurd (set (omega (arith, clear)))
      | inr some ↦ omega (arith, some, bit_at-lt n bit)
    ]

-- two masks that meet have a common bit
pub common-bit : (a b : ℕ) → a < register_contents → bit_and a b ≢ 0 → (bit : ℕ) × IsBitSet a bit × IsBitSet b bit
common-bit a b small meet =
    let both = bit_and a b in
    let positive : 0 < both = omega (arith, meet) in
    let below : both < register_contents = omega (arith, and_le_l a b) in
    let lowest = bit_at-trailing_zeros register_word both positive below in
    let bit = trailing_zeros register_word both in
    let one : min (bit_at a bit) (bit_at b bit) ≡ 1 = sym (bit_at_and a b bit) ∙ lowest.1 in
    let in_a : bit_at a bit ≡ 1 = omega (arith, one, bit_at-lt a bit) in
    let in_b : bit_at b bit ≡ 1 = omega (arith, one, bit_at-lt b bit) in
    (bit, bit-set a bit in_a, bit-set b bit in_b)

-- two masks with a common bit meet
pub meet-common : (a b bit : ℕ) → IsBitSet a bit → IsBitSet b bit → bit_and a b ≢ 0
meet-common a b bit in_a in_b none =
    let both : bit_at (bit_and a b) bit ≡ min (bit_at a bit) (bit_at b bit) = bit_at_and a b bit in
    let zero : bit_at (bit_and a b) bit ≡ 0 = ap (λ x. bit_at x bit) none ∙ bit_at-zero bit in
    omega (arith, both, zero, set-bit a bit in_a, set-bit b bit in_b)
