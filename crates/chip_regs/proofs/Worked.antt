-- registers, fields and clashes worked out by hand: two chips, and the register 0x30 of the second holds 0x15
use Rattle.std.proofs.Common.{ℕ, ◌≡◌, ◌<◌, ◌≤◌, ◌-◌, ◌*◌, ◌^◌, List, [], ◌∷◌, length, replicate, refl, subst, inl, inr, suc, zero, lit<, lit≤, arith}
use Rattle.chip_regs.specs.Width.{chip_registers, register_contents}
use Rattle.chip_regs.specs.declared.field.Field.{Field}
use Rattle.chip_regs.specs.Field.{IsField, greatest_of, FitsField, HasBit, SharesBit}
use Rattle.chip_regs.specs.Registers.{IsImage, HasChip, byte_of, with_byte, field_of, with_field, CanPut}
use Rattle.chip_regs.specs.Clash.{ClashesAt, NoneClash, IsFirstClash}
use Rattle.chip_regs.proofs.Image.{IsImage-replicate, IsImage-with_byte, length-with_byte}
use Rattle.chip_regs.proofs.Clashes.{Meets-SharesBit, clash_within, apart-at, first-clash, none-clash, clash-not_none}

-- the bits of a mask in the register 0x30 of the second chip
abbrev bits : ℕ → ℕ → Field
bits mask shift = record { chip = 1; reg = 0x30; mask = mask; shift = shift }

abbrev blank : List (List ℕ)
blank = replicate 2 (replicate chip_registers 0)

abbrev image : List (List ℕ)
image = with_byte blank 1 0x30 0x15

bits_4_to_6 : IsField (bits 0x70 4)
bits_4_to_6 = record { width = 3; some_bit = lit< tt; within = lit≤ tt; run = refl }

-- no run of ones is 5 times a power
no_run : (width : ℕ) → width ≤ 4 → 80 ≡ (2 ^ width - 1) * 16 → ⊥
no_run zero few is = omega arith
no_run (suc zero) few is = omega arith
no_run (suc (suc zero)) few is = omega arith
no_run (suc (suc (suc zero))) few is = omega arith
no_run (suc (suc (suc (suc zero)))) few is = omega arith
no_run (suc (suc (suc (suc (suc width))))) few is = omega arith

a_hole_is_no_field : IsField (bits 0x50 4) → ⊥
a_hole_is_no_field field = let within = field.within in no_run field.width (omega arith) field.run

three_bits_hold_7 : greatest_of (bits 0x70 4) ≡ 7
three_bits_hold_7 = refl

seven_fits : FitsField (bits 0x70 4) 7
seven_fits = lit≤ tt

eight_does_not : FitsField (bits 0x70 4) 8 → ⊥
eight_does_not fits = omega arith

bit_3_is_in_it : HasBit (bits 0x0c 2) 1 0x30 3
bit_3_is_in_it = (refl, refl, λ clear. omega arith)

bit_4_is_not : HasBit (bits 0x0c 2) 1 0x30 4 → ⊥
bit_4_is_not has = has.2 refl

no_bit_of_another_register : HasBit (bits 0x0c 2) 1 0x31 3 → ⊥
no_bit_of_another_register has = let same = has.1 in omega arith

no_bit_of_another_chip : HasBit (bits 0x0c 2) 0 0x30 3 → ⊥
no_bit_of_another_chip has = let same = has.0 in omega arith

bit_3_is_shared : SharesBit (bits 0x0c 2) (bits 0x18 3)
bit_3_is_shared = record { chip = 1; reg = 0x30; bit = 3; in_first = (refl, refl, λ clear. omega arith); in_second = (refl, refl, λ clear. omega arith) }

none_is_shared : SharesBit (bits 0x0c 2) (bits 0x30 4) → ⊥
none_is_shared shared = (Meets-SharesBit (bits 0x0c 2) (bits 0x30 4) shared).masks refl

none_with_another_register : SharesBit (bits 0x0c 2) (record { chip = 1; reg = 0x31; mask = 0x0c; shift = 2 }) → ⊥
none_with_another_register shared =
    let same : 0x30 ≡ 0x31 = (Meets-SharesBit (bits 0x0c 2) (record { chip = 1; reg = 0x31; mask = 0x0c; shift = 2 }) shared).reg in omega arith

none_with_another_chip : SharesBit (bits 0x0c 2) (record { chip = 0; reg = 0x30; mask = 0x0c; shift = 2 }) → ⊥
none_with_another_chip shared =
    let same : 1 ≡ 0 = (Meets-SharesBit (bits 0x0c 2) (record { chip = 0; reg = 0x30; mask = 0x0c; shift = 2 }) shared).chip in omega arith

two_chips_are_an_image : IsImage image
two_chips_are_an_image = IsImage-with_byte blank 1 0x30 0x15 (lit< tt) (lit< tt) (IsImage-replicate 2)

one_register_is_no_chip : IsImage ((0 ∷ []) ∷ []) → ⊥
one_register_is_no_chip is = let few : 1 ≡ chip_registers = (is 0 [] (lit< tt)).0 in omega arith

nine_bits_are_no_content : IsImage (replicate chip_registers register_contents ∷ []) → ⊥
nine_bits_are_no_content is = let small : register_contents < register_contents = (is 0 [] (lit< tt)).1 0 0 (lit< tt) in omega arith

two_chips : length image ≡ 2
two_chips = length-with_byte blank 1 0x30 0x15

second_chip_is_there : HasChip image 1
second_chip_is_there = omega (arith, two_chips)

third_chip_is_not : HasChip image 2 → ⊥
third_chip_is_not has = omega (arith, two_chips)

what_was_written : byte_of image 1 0x30 ≡ 0x15
unfolding byte_of with_byte
what_was_written = refl

beside_it : byte_of image 1 0x31 ≡ 0
unfolding byte_of with_byte
beside_it = refl

in_the_first_chip : byte_of image 0 0x30 ≡ 0
unfolding byte_of with_byte
in_the_first_chip = refl

-- 0x15 is 10101 in binary
bits_2_and_3 : field_of image (bits 0x0c 2) ≡ 1
unfolding field_of byte_of with_byte
bits_2_and_3 = refl

bits_4_and_5 : field_of image (bits 0x30 4) ≡ 1
unfolding field_of byte_of with_byte
bits_4_and_5 = refl

after_a_put_of_3 : with_field image (bits 0x0c 2) 3 ≡ with_byte blank 1 0x30 0x1d
unfolding with_field byte_of with_byte
after_a_put_of_3 = refl

after_a_put_of_0 : with_field image (bits 0x30 4) 0 ≡ with_byte blank 1 0x30 0x05
unfolding with_field byte_of with_byte
after_a_put_of_0 = refl

three_can_be_put : CanPut image (bits 0x0c 2) 3
three_can_be_put = record {
  image = two_chips_are_an_image;
  chip = second_chip_is_there;
  reg = lit< tt;
  field = record { width = 2; some_bit = lit< tt; within = lit≤ tt; run = refl };
  room = lit≤ tt;
}

four_can_not : CanPut image (bits 0x0c 2) 4 → ⊥
four_can_not can = let fits = can.room in omega arith

not_beyond_the_registers : CanPut image (record { chip = 1; reg = chip_registers; mask = 0x0c; shift = 2 }) 3 → ⊥
not_beyond_the_registers can = let within = can.reg in omega arith

not_beyond_the_chips : CanPut image (record { chip = 2; reg = 0x30; mask = 0x0c; shift = 2 }) 3 → ⊥
not_beyond_the_chips can = let within = can.chip in omega (arith, two_chips)

not_into_a_hole : CanPut image (bits 0x50 4) 1 → ⊥
not_into_a_hole can = a_hole_is_no_field can.field

not_without_an_image : CanPut ([] ∷ [] ∷ []) (bits 0x0c 2) 3 → ⊥
not_without_an_image can = let few : 0 ≡ chip_registers = (can.image 1 [] (lit< tt)).0 in omega arith

-- the first and the second share no bit, the first and the third bits 2 and 3, the second and the third bit 4
abbrev three : List Field
three = bits 0x0f 0 ∷ bits 0x70 4 ∷ bits 0x1c 2 ∷ []

first_and_third : ClashesAt three 0 2
first_and_third = record {
  before = lit< tt;
  one = bits 0x0f 0;
  other = bits 0x1c 2;
  at_first = refl;
  at_second = refl;
  shared = record { chip = 1; reg = 0x30; bit = 2; in_first = (refl, refl, λ clear. omega arith); in_second = (refl, refl, λ clear. omega arith) };
}

first_and_second_do_not : ClashesAt three 0 1 → ⊥
first_and_second_do_not =
    apart-at three 0 1 (bits 0x0f 0) (bits 0x70 4) refl refl (λ shared. (Meets-SharesBit (bits 0x0f 0) (bits 0x70 4) shared).masks refl)

not_a_place_with_itself : ClashesAt three 0 0 → ⊥
not_a_place_with_itself clash = let before = clash.before in omega arith

not_backwards : ClashesAt three 2 0 → ⊥
not_backwards clash = let before = clash.before in omega arith

earlier : (j : ℕ) → j < 2 → ClashesAt three 0 j → ⊥
earlier zero few = not_a_place_with_itself
earlier (suc zero) few = first_and_second_do_not
earlier (suc (suc j)) few = absurd (omega arith)

they_are_the_first_to_clash : IsFirstClash three (record { first = 0; second = 2 })
they_are_the_first_to_clash = first-clash three (record { first = 0; second = 2 }) (λ i few. absurd (omega arith)) earlier first_and_third

second_and_third_come_later : IsFirstClash three (record { first = 1; second = 2 }) → ⊥
second_and_third_come_later is = elim (is.least 0 2 first_and_third) [ inl later ↦ omega arith | inr same ↦ let at = same.0 in omega arith ]

first_and_second_are_no_clash : IsFirstClash three (record { first = 0; second = 1 }) → ⊥
first_and_second_are_no_clash is = first_and_second_do_not is.clashes

some_clash : NoneClash three → ⊥
some_clash = clash-not_none three 0 2 first_and_third

abbrev two : List Field
two = bits 0x0f 0 ∷ bits 0x70 4 ∷ []

two_do_not : NoneClash two
two_do_not = none-clash two (λ i j clash.
    let within : j < 2 = clash_within two i j clash in
    let before : i < j = clash.before in
    let one : i ≡ 0 = omega arith in
    let other : j ≡ 1 = omega arith in
    apart-at two 0 1 (bits 0x0f 0) (bits 0x70 4) refl refl (λ shared. (Meets-SharesBit (bits 0x0f 0) (bits 0x70 4) shared).masks refl)
    (subst (λ k. ClashesAt two k 1) one (subst (λ k. ClashesAt two i k) other clash)))
