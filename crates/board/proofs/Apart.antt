-- Fields that a test finds apart share no bit.
use Rattle.std.proofs.Common.{◌≡◌, ◌≢◌, ℕ, ◌*◌, ◌^◌, ◌<◌, min, Bool, true, cond, ◌&&◌, eqb, List, [], ◌∷◌, Option, Some, None, bit_and, sym, ap, ◌∙◌, arith, inl, inr, zero, suc, eq-eqb, subst}
use Rattle.std.specs.Int.{bit_at, IsBitSet}
use Rattle.std.specs.List.{list_all, AllPass, slice_get}
use Rattle.std.proofs.lemmas.Bool.{and_parts, eqb-true, cases_eq, cases_order}
use Rattle.std.proofs.lemmas.List.Sums.{AllPass-from_list_all}
use Rattle.std.proofs.lemmas.Nat.Bits.{bit_at_and, bit_at-lt, bit_at-zero, and_pow}
use Rattle.std.proofs.lemmas.Option.{slice_get_within, get_or_from_slice_get}
use Rattle.chip_regs.specs.declared.field.Field.{Field}
use Rattle.chip_regs.specs.Field.{SharesBit}
use Rattle.chip_regs.specs.Clash.{NoneClash}

-- the fields stand in different registers, or have no bit in common
abbrev pub apart : Field → Field → Bool
apart f g = cond (eqb f.reg g.reg) (eqb (bit_and f.mask g.mask) 0) true

set-bit : (n bit : ℕ) → IsBitSet n bit → bit_at n bit ≡ 1
set-bit n bit set =
    elim (cases_eq (bit_at n bit) 0) [
      | inl none ↦ let clear : bit_and n (2 ^ bit) ≡ 0 * 2 ^ bit = and_pow n bit ∙ ap (λ x. x * 2 ^ bit) none in absurd (set (omega (arith, clear)))
      | inr some ↦ omega (arith, some, bit_at-lt n bit)
    ]

meet : (a b bit : ℕ) → IsBitSet a bit → IsBitSet b bit → bit_and a b ≢ 0
meet a b bit in_a in_b none =
    let both : bit_at (bit_and a b) bit ≡ min (bit_at a bit) (bit_at b bit) = bit_at_and a b bit in
    let clear : bit_at (bit_and a b) bit ≡ 0 = ap (λ x. bit_at x bit) none ∙ bit_at-zero bit in
    omega (arith, both, clear, set-bit a bit in_a, set-bit b bit in_b)

unshared : (f g : Field) → apart f g ≡ true → ¬ SharesBit f g
unshared f g test shared =
    let same : eqb f.reg g.reg ≡ true = eq-eqb f.reg g.reg (shared.in_first.1 ∙ sym shared.in_second.1) in
    let none : eqb (bit_and f.mask g.mask) 0 ≡ true = rw same at test in
    meet f.mask g.mask shared.bit shared.in_first.2 shared.in_second.2 (eqb-true (bit_and f.mask g.mask) 0 none)

turned : (f g : Field) → SharesBit f g → SharesBit g f
turned f g shared = record { chip = shared.chip; reg = shared.reg; bit = shared.bit; in_first = shared.in_second; in_second = shared.in_first }

module _ {X : Type 0} (test : X → X → Bool) where
  -- the test passes at each element and each later one
  abbrev pub all_pairs : List X → Bool
  all_pairs [] = true
  all_pairs (x ∷ xs) = list_all (test x) xs && all_pairs xs

  passes : (p : X → Bool) (xs : List X) (k : ℕ) (x : X) → list_all p xs ≡ true → slice_get xs k ≡ Some x → p x ≡ true
  passes p xs k x tested at =
      let passed : AllPass p xs = AllPass-from_list_all p xs tested in
      subst (λ (y : X). p y ≡ true) (get_or_from_slice_get xs k x x at) (passed k x (slice_get_within xs k x at))

  pub later : (xs : List X) (i j : ℕ) (x y : X) → all_pairs xs ≡ true → i < j → slice_get xs i ≡ Some x → slice_get xs j ≡ Some y → test x y ≡ true
  later [] i j x y tested rises at_i at_j = absurd (omega (arith, slice_get_within [] i x at_i))
  later (z ∷ xs) zero zero x y tested rises at_i at_j = absurd (omega arith)
  later (z ∷ xs) zero (suc j) x y tested rises at_i at_j =
      let first : z ≡ x = cc in
      subst (λ (w : X). test w y ≡ true) first (passes (test z) xs j y ((and_parts (list_all (test z) xs) (all_pairs xs) tested).0) at_j)
  later (z ∷ xs) (suc i) zero x y tested rises at_i at_j = absurd (omega arith)
  later (z ∷ xs) (suc i) (suc j) x y tested rises at_i at_j = later xs i j x y ((and_parts (list_all (test z) xs) (all_pairs xs) tested).1) (omega arith) at_i at_j

pub none_clash : (fields : List Field) → all_pairs apart fields ≡ true → NoneClash fields
none_clash fields tested i j f g other at_i at_j shared =
    elim (cases_order i j) [
      | inl same ↦ other same
      | inr (inl rises) ↦ unshared f g (later apart fields i j f g tested rises at_i at_j) shared
      | inr (inr falls) ↦ unshared g f (later apart fields j i g f tested falls at_j at_i) (turned f g shared)
    ]

-- the same where a place may have no field
abbrev pub both_apart : Option Field → Option Field → Bool
both_apart None g = true
both_apart (Some f) None = true
both_apart (Some f) (Some g) = apart f g

pub none_shared : (places : List (Option Field)) (i j : ℕ) (f g : Field) → all_pairs both_apart places ≡ true → i ≢ j
    → slice_get places i ≡ Some (Some f) → slice_get places j ≡ Some (Some g) → ¬ SharesBit f g
none_shared places i j f g tested other at_i at_j shared =
    elim (cases_order i j) [
      | inl same ↦ other same
      | inr (inl rises) ↦ unshared f g (later both_apart places i j (Some f) (Some g) tested rises at_i at_j) shared
      | inr (inr falls) ↦ unshared g f (later both_apart places j i (Some g) (Some f) tested falls at_j at_i) (turned f g shared)
    ]
