-- the registers as a list of lists, after a write of one register
use Rattle.std.proofs.Common.{ℕ, ◌≡◌, ◌<◌, ◌≢◌, ◌⊎◌, List, [], length, slice_index_or, slice_set, replicate, refl, sym, ◌∙◌, ap, subst, lit<}
use Rattle.std.proofs.lemmas.List.{length-set, get_or-set_same, get_or-set_other, length-replicate, get_or-replicate, get_or_past}
use Rattle.std.proofs.lemmas.List.Elements.{All-set}
use Rattle.std.proofs.lemmas.Bool.{cases_eq, cases_lt}
use Rattle.std.specs.Prelude.{All}
use Rattle.std.proofs.Common.{inl, inr}
use Rattle.chip_regs.specs.Width.{chip_registers, register_contents}
use Rattle.chip_regs.specs.Registers.{IsImage, HasChip, chip_of, byte_of, with_byte}

-- a chip has all its registers
abbrev pub IsChip : List ℕ → Type 0
IsChip chip = (length chip ≡ chip_registers) × All (λ byte. byte < register_contents) chip

pub IsImage-replicate : (chips : ℕ) → IsImage (replicate chips (replicate chip_registers 0))
IsImage-replicate chips k d within =
    let blank : List ℕ = replicate chip_registers 0 in
    let chip : k < chips = subst (λ n. k < n) (length-replicate chips blank) within in
    let whole : IsChip blank = (refl, λ j e inside. rw (get_or-replicate chip_registers j 0 e) (lit< tt)) in
    rw (get_or-replicate chips k blank d chip) whole

pub length-with_byte : (R : List (List ℕ)) (chip reg byte : ℕ) → length (with_byte R chip reg byte) ≡ length R
unfolding with_byte
length-with_byte R chip reg byte = length-set R chip (slice_set (chip_of R chip) reg byte)

pub IsImage-with_byte : (R : List (List ℕ)) (chip reg byte : ℕ) → HasChip R chip → byte < register_contents → IsImage R → IsImage (with_byte R chip reg byte)
unfolding with_byte
IsImage-with_byte R chip reg byte has small image =
    let old : IsChip (chip_of R chip) = image chip [] has in
    let new : IsChip (slice_set (chip_of R chip) reg byte) =
    (length-set (chip_of R chip) reg byte ∙ old.0, All-set (λ b. b < register_contents) (chip_of R chip) reg byte small old.1) in
    All-set IsChip R chip (slice_set (chip_of R chip) reg byte) new image

-- a register of the image is a byte
pub byte_of-lt : (R : List (List ℕ)) (chip reg : ℕ) → IsImage R → HasChip R chip → byte_of R chip reg < chip_registers
unfolding byte_of
byte_of-lt R chip reg image has =
    let old : IsChip (chip_of R chip) = image chip [] has in
    elim (cases_lt reg (length (chip_of R chip))) [
      | inl within ↦ old.1 reg 0 within
      | inr past ↦ rw (get_or_past (chip_of R chip) reg 0 past) (lit< tt)
    ]

pub byte_of-with_byte : (R : List (List ℕ)) (chip reg byte : ℕ) → IsImage R → HasChip R chip → reg < chip_registers → byte_of (with_byte R chip reg byte) chip reg ≡ byte
unfolding byte_of with_byte
byte_of-with_byte R chip reg byte image has within =
    let old : IsChip (chip_of R chip) = image chip [] has in
    ap (λ c. slice_index_or c reg 0) (get_or-set_same R chip (slice_set (chip_of R chip) reg byte) [] has)
    ∙ get_or-set_same (chip_of R chip) reg byte 0 (subst (λ n. reg < n) (sym old.0) within)

pub byte_of-with_byte_other :
    (R : List (List ℕ)) (chip reg byte other at : ℕ) → HasChip R chip → (other ≢ chip) ⊎ (at ≢ reg)
    → byte_of (with_byte R chip reg byte) other at ≡ byte_of R other at
unfolding byte_of with_byte
byte_of-with_byte_other R chip reg byte other at has apart =
    let new = slice_set (chip_of R chip) reg byte in
    elim (cases_eq other chip) [
      | inl same ↦ elim apart [
        | inl differs ↦ absurd (differs same)
        | inr differs ↦
            ap (λ x. slice_index_or (slice_index_or (slice_set R chip new) x []) at 0) same
            ∙ ap (λ c. slice_index_or c at 0) (get_or-set_same R chip new [] has)
            ∙ get_or-set_other (chip_of R chip) reg at byte 0 differs
            ∙ ap (λ x. slice_index_or (slice_index_or R x []) at 0) (sym same)
      ]
      | inr differs ↦ ap (λ c. slice_index_or c at 0) (get_or-set_other R chip other new [] differs)
    ]

-- what `set_byte` leaves: one register of one chip written
pub set-registers :
    (R : List (List ℕ)) (chip reg byte at_chip at_reg : ℕ) (line : List ℕ) → at_chip ≡ chip → at_reg ≡ reg → line ≡ chip_of R chip
    → slice_set R at_chip (slice_set line at_reg byte) ≡ with_byte R chip reg byte
unfolding with_byte
set-registers R chip reg byte at_chip at_reg line same_chip same_reg is =
    ap (λ c. slice_set R c (slice_set line at_reg byte)) same_chip
    ∙ ap (λ r. slice_set R chip (slice_set line r byte)) same_reg
    ∙ ap (λ l. slice_set R chip (slice_set l reg byte)) is
