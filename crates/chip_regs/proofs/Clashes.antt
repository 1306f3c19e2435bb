-- when two fields share a bit, and when two places of a list clash
use Rattle.std.proofs.Common.{ℕ, ◌≡◌, ◌≢◌, ◌<◌, ◌≤◌, ◌↔◌, List, Some, bit_and, arith, refl, sym, ◌∙◌, subst, inl, inr, ◌⊎◌, not, nat_eq, length, slice_index_or}
use Rattle.std.specs.Prelude.{slice_get, IsTrue}
use Rattle.std.proofs.lemmas.Option.{same_Some, slice_get-get_or, slice_get_within}
use Rattle.std.proofs.lemmas.Bool.{cases_lt, cases_order}
use Rattle.std.proofs.lemmas.Bool.Decides.{nat_tests}
use Rattle.chip_regs.specs.Width.{register_contents}
use Rattle.chip_regs.specs.declared.clash.Clash.{Clash}
use Rattle.chip_regs.specs.declared.field.Field.{Field}
use Rattle.chip_regs.specs.Field.{SharesBit}
use Rattle.chip_regs.specs.Clash.{ClashesAt, IsFirstClash, NoneClash}
use Rattle.chip_regs.proofs.Masks.{common-bit, meet-common}

-- two fields that share a bit are of one register, and their masks meet
pub record Meets (f g : Field) : Type 0 where
  pub chip : f.chip ≡ g.chip
  pub reg : f.reg ≡ g.reg
  pub masks : bit_and f.mask g.mask ≢ 0

pub Meets-SharesBit : (f g : Field) → SharesBit f g → Meets f g
Meets-SharesBit f g common = record {
  chip = common.in_first.0 ∙ sym common.in_second.0;
  reg = common.in_first.1 ∙ sym common.in_second.1;
  masks = meet-common f.mask g.mask common.bit common.in_first.2 common.in_second.2;
}

pub SharesBit-Meets : (f g : Field) → f.mask < register_contents → Meets f g → SharesBit f g
SharesBit-Meets f g small meets =
    let common = common-bit f.mask g.mask small meets.masks in
    record {
      chip = g.chip;
      reg = g.reg;
      bit = common.0;
      in_first = (meets.chip, meets.reg, common.1);
      in_second = (refl, refl, common.2);
    }

-- two places do not clash where their fields share no bit
pub apart-at :
    (fields : List Field) (i j : ℕ) (f g : Field) → slice_get fields i ≡ Some f → slice_get fields j ≡ Some g → ¬ SharesBit f g
    → ¬ ClashesAt fields i j
apart-at fields i j f g at_i at_j apart clash =
    let first : clash.one ≡ f = same_Some clash.one f (sym clash.at_first ∙ at_i) in
    let second : clash.other ≡ g = same_Some clash.other g (sym clash.at_second ∙ at_j) in
    apart (subst (λ x. SharesBit x g) first (subst (λ y. SharesBit clash.one y) second clash.shared))

not_zero : (n : ℕ) → (IsTrue (not (nat_eq n 0)) → n ≢ 0) × (n ≢ 0 → IsTrue (not (nat_eq n 0)))
not_zero n = grind (arith, nat_tests)

-- the test of the masks decides it in one register
pub tested :
    (f g : Field) → f.mask < register_contents → f.chip ≡ g.chip → f.reg ≡ g.reg → IsTrue (not (nat_eq (bit_and f.mask g.mask) 0)) ↔ SharesBit f g
tested f g small chip reg =
    let zero = not_zero (bit_and f.mask g.mask) in (
      λ t. SharesBit-Meets f g small (record { chip = chip; reg = reg; masks = zero.0 t }),
      λ common. zero.1 ((Meets-SharesBit f g common).masks),
    )

-- what a default stands for where the list is read within its length
abbrev pub no_field : Field
no_field = record { chip = 0; reg = 0; mask = 0; shift = 0 }

pub clash-at :
    (fields : List Field) (i j : ℕ) → i < j → j < length fields → SharesBit (slice_index_or fields i no_field) (slice_index_or fields j no_field)
    → ClashesAt fields i j
clash-at fields i j before within shared = record {
  before = before;
  one = slice_index_or fields i no_field;
  other = slice_index_or fields j no_field;
  at_first = slice_get-get_or fields i no_field (omega arith);
  at_second = slice_get-get_or fields j no_field within;
  shared = shared;
}

pub apart-read :
    (fields : List Field) (i j : ℕ) → i < length fields → j < length fields
    → ¬ SharesBit (slice_index_or fields i no_field) (slice_index_or fields j no_field) → ¬ ClashesAt fields i j
apart-read fields i j first second =
    apart-at fields i j (slice_index_or fields i no_field) (slice_index_or fields j no_field)
    (slice_get-get_or fields i no_field first) (slice_get-get_or fields j no_field second)

-- the second place is within the list
pub clash_within : (fields : List Field) (i j : ℕ) → ClashesAt fields i j → j < length fields
clash_within fields i j clash = slice_get_within fields j clash.other clash.at_second

later :
    (fields : List Field) (clash : Clash) → ((i : ℕ) → i < clash.first → (j : ℕ) → ¬ ClashesAt fields i j)
    → ((j : ℕ) → j < clash.second → ¬ ClashesAt fields clash.first j) → (i j : ℕ) → ClashesAt fields i j
    → (clash.first < i) ⊎ ((clash.first ≡ i) × (clash.second ≤ j))
later fields clash earlier here i j other =
    elim (cases_order i clash.first) [
      | inl same ↦ elim (cases_lt j clash.second) [
        | inl before ↦ absurd (here j before (subst (λ k. ClashesAt fields k j) same other))
        | inr past ↦ inr (sym same, past)
      ]
      | inr (inl before) ↦ absurd (earlier i before j other)
      | inr (inr after) ↦ inl after
    ]

-- a clash that no earlier one precedes is the first
pub first-clash :
    (fields : List Field) (clash : Clash) → ((i : ℕ) → i < clash.first → (j : ℕ) → ¬ ClashesAt fields i j)
    → ((j : ℕ) → j < clash.second → ¬ ClashesAt fields clash.first j) → ClashesAt fields clash.first clash.second → IsFirstClash fields clash
first-clash fields clash earlier here found = record {
  clashes = found;
  least = λ i j other. later fields clash earlier here i j other;
}

pub SharesBit-swap : (f g : Field) → SharesBit f g → SharesBit g f
SharesBit-swap f g common = record {
  chip = common.chip;
  reg = common.reg;
  bit = common.bit;
  in_first = common.in_second;
  in_second = common.in_first;
}

-- no fields share a bit where no two places clash
pub none-clash : (fields : List Field) → ((i j : ℕ) → ¬ ClashesAt fields i j) → NoneClash fields
none-clash fields none i j f g differ at_i at_j shared =
    elim (cases_order i j) [
      | inl same ↦ differ same
      | inr (inl before) ↦ none i j (record { before = before; one = f; other = g; at_first = at_i; at_second = at_j; shared = shared })
      | inr (inr after) ↦ none j i (record { before = after; one = g; other = f; at_first = at_j; at_second = at_i; shared = SharesBit-swap f g shared })
    ]

pub clash-not_none : (fields : List Field) (i j : ℕ) → ClashesAt fields i j → ¬ NoneClash fields
clash-not_none fields i j clash none = none i j clash.one clash.other (omega (arith, clash.before)) clash.at_first clash.at_second clash.shared
