-- Descriptions no two of whose fields share a bit.
use Rattle.std.proofs.Common.{◌≡◌, ◌≢◌, ℕ, zero, suc, ◌<◌, ◌≤◌, List, [], ◌∷◌, ◌++◌, Option, Some, None, map, refl, sym, ap, ◌∙◌, arith, inl, inr}
use Rattle.std.specs.Prelude.{IfSome}
use Rattle.std.specs.List.{AllByRecursion, cons_option, filter_map, flat_map}
use Rattle.chip_regs.specs.declared.field.Field.{Field}
use Rattle.chip_regs.specs.Field.{SharesBit}
use Rattle.chip_regs.specs.Clash.{NoneClash}
use Rattle.board.specs.declared.desc.Desc.{Desc}
use Rattle.board.specs.declared.part.Part.{Part}
use Rattle.board.specs.declared.part.Part.TheVariants.{Selector, Enable, ModePart, SuspendEnable, SuspendSelector}
use Rattle.board.specs.Desc.{described_field}
use Rattle.pmic_tables.specs.Sound.{fields_of}
use Rattle.board_nodes.specs.Sound.{field_in, NoneShare}
use Rattle.board_nodes.proofs.ListFacts.{all-append, all-split, all-weaker, all-any, all-from_gets}

turned : (f g : Field) → SharesBit f g → SharesBit g f
turned f g shared = record { chip = shared.chip; reg = shared.reg; bit = shared.bit; in_first = shared.in_second; in_second = shared.in_first }

-- where there are two fields, they share no bit
abbrev pub Share0 : Option Field → Option Field → Type 0
Share0 o p = (f g : Field) → o ≡ Some f → p ≡ Some g → ¬ SharesBit f g

share-turned : (o p : Option Field) → Share0 o p → Share0 p o
share-turned o p h f g is_f is_g shared = h g f is_g is_f (turned f g shared)

-- no field of the one shares a bit with one of the other
abbrev pub AreSeparate : Desc → Desc → Type 0
AreSeparate d e = (part other : Part) → Share0 (described_field part d) (described_field other e)

-- no two fields of one share a bit
abbrev pub IsApart : Desc → Type 0
IsApart d = (part other : Part) → part ≢ other → Share0 (described_field part d) (described_field other d)

-- no two fields of all share a bit
abbrev pub AreApartBy : {X : Type 0} → (X → Desc) → List X → Type 0
AreApartBy d [] = Unit {0}
AreApartBy d (x ∷ xs) = IsApart (d x) × (AllByRecursion (λ y. AreSeparate (d x) (d y)) xs × AreApartBy d xs)

-- ---- from a list of fields

abbrev ArePairs : List Field → Type 0
ArePairs [] = Unit {0}
ArePairs (f ∷ fs) = AllByRecursion (λ g. ¬ SharesBit f g) fs × ArePairs fs

pairs-from_none : (fs : List Field) → NoneClash fs → ArePairs fs
pairs-from_none [] none = tt
pairs-from_none (f ∷ fs) none = (
  all-from_gets (λ g. ¬ SharesBit f g) fs (λ k g at. none 0 (suc k) f g (λ e. absurd (omega (arith, e))) refl at),
  pairs-from_none fs (λ i j g h other at_i at_j. none (suc i) (suc j) g h (λ e. other (omega (arith, e))) at_i at_j),
)

pairs-split : (fs gs : List Field) → ArePairs (fs ++ gs) → ArePairs fs × (AllByRecursion (λ f. AllByRecursion (λ g. ¬ SharesBit f g) gs) fs × ArePairs gs)
pairs-split [] gs h = (tt, (tt, h))
pairs-split (f ∷ fs) gs h =
    let first = all-split (λ g. ¬ SharesBit f g) fs gs h.0 in
    let rest = pairs-split fs gs h.1 in
    ((first.0, rest.0), ((first.1, rest.1.0), rest.1.1))

module _ (P : Field → Type 0) (h : Part → Option Field) where
  all-fields : (parts : List Part) → AllByRecursion P (filter_map h parts) → AllByRecursion (λ part. IfSome (h part) P) parts
  all-fields [] all = tt
  all-fields (part ∷ parts) all = by (h part) (all-fields parts) all
    where
      by : (o : Option Field) → (AllByRecursion P (filter_map h parts) → AllByRecursion (λ part. IfSome (h part) P) parts)
          → AllByRecursion P (cons_option o (filter_map h parts)) → IfSome o P × AllByRecursion (λ part. IfSome (h part) P) parts
      by None rest all = (tt, rest all)
      by (Some f) rest all = (all.0, rest all.1)

-- of each part
all-of : (P : Field → Type 0) (d : Desc) → AllByRecursion P (fields_of d) → (part : Part) → IfSome (described_field part d) P
all-of P d all part = by part (all-fields P (λ part. described_field part d) (Enable ∷ Selector ∷ ModePart ∷ SuspendEnable ∷ SuspendSelector ∷ []) all)
  where
    by : (part : Part) → AllByRecursion (λ part. IfSome (described_field part d) P) (Enable ∷ Selector ∷ ModePart ∷ SuspendEnable ∷ SuspendSelector ∷ []) → IfSome (described_field part d) P
    by Enable h = h.0
    by Selector h = h.1.0
    by ModePart h = h.1.1.0
    by SuspendEnable h = h.1.1.1.0
    by SuspendSelector h = h.1.1.1.1.0

if-some : (P : Field → Type 0) (o : Option Field) (f : Field) → o ≡ Some f → IfSome o P → P f
if-some P o f is h = rw is at h

-- the fields of parts, two by two
abbrev ArePairsOf : (Part → Option Field) → List Part → Type 0
ArePairsOf h [] = Unit {0}
ArePairsOf h (part ∷ parts) = AllByRecursion (λ other. Share0 (h part) (h other)) parts × ArePairsOf h parts

pairs-of : (h : Part → Option Field) (parts : List Part) → ArePairs (filter_map h parts) → ArePairsOf h parts
pairs-of h [] pairs = tt
pairs-of h (part ∷ parts) pairs = by (h part) refl (pairs-of h parts) pairs
  where
    by : (o : Option Field) → h part ≡ o → (ArePairs (filter_map h parts) → ArePairsOf h parts) → ArePairs (cons_option o (filter_map h parts)) → ArePairsOf h (part ∷ parts)
    by None is rest pairs = (all-any (λ other. Share0 (h part) (h other)) (λ other f g is_f is_g shared. let e : None ≡ Some f = sym is ∙ is_f in cc) parts, rest pairs)
    by (Some x) is rest pairs = (
      all-weaker (λ other. IfSome (h other) (λ g. ¬ SharesBit x g)) (λ other. Share0 (h part) (h other))
          (λ other apart f g is_f is_g shared.
          let same : f ≡ x = (let e : Some f ≡ Some x = sym is_f ∙ is in cc) in
          if-some (λ g. ¬ SharesBit x g) (h other) g is_g apart (rw same at shared))
          parts (all-fields (λ g. ¬ SharesBit x g) h parts pairs.0),
      rest pairs.1,
    )

is_apart : (d : Desc) → ArePairs (fields_of d) → IsApart d
is_apart d pairs part other = by part other (pairs-of (λ part. described_field part d) (Enable ∷ Selector ∷ ModePart ∷ SuspendEnable ∷ SuspendSelector ∷ []) pairs)
  where
    by : (part other : Part) → ArePairsOf (λ part. described_field part d) (Enable ∷ Selector ∷ ModePart ∷ SuspendEnable ∷ SuspendSelector ∷ []) → part ≢ other → Share0 (described_field part d) (described_field other d)
    by Enable Enable h differ = absurd (differ refl)
    by Enable Selector h differ = h.0.0
    by Enable ModePart h differ = h.0.1.0
    by Enable SuspendEnable h differ = h.0.1.1.0
    by Enable SuspendSelector h differ = h.0.1.1.1.0
    by Selector Enable h differ = share-turned (described_field Enable d) (described_field Selector d) h.0.0
    by Selector Selector h differ = absurd (differ refl)
    by Selector ModePart h differ = h.1.0.0
    by Selector SuspendEnable h differ = h.1.0.1.0
    by Selector SuspendSelector h differ = h.1.0.1.1.0
    by ModePart Enable h differ = share-turned (described_field Enable d) (described_field ModePart d) h.0.1.0
    by ModePart Selector h differ = share-turned (described_field Selector d) (described_field ModePart d) h.1.0.0
    by ModePart ModePart h differ = absurd (differ refl)
    by ModePart SuspendEnable h differ = h.1.1.0.0
    by ModePart SuspendSelector h differ = h.1.1.0.1.0
    by SuspendEnable Enable h differ = share-turned (described_field Enable d) (described_field SuspendEnable d) h.0.1.1.0
    by SuspendEnable Selector h differ = share-turned (described_field Selector d) (described_field SuspendEnable d) h.1.0.1.0
    by SuspendEnable ModePart h differ = share-turned (described_field ModePart d) (described_field SuspendEnable d) h.1.1.0.0
    by SuspendEnable SuspendEnable h differ = absurd (differ refl)
    by SuspendEnable SuspendSelector h differ = h.1.1.1.0.0
    by SuspendSelector Enable h differ = share-turned (described_field Enable d) (described_field SuspendSelector d) h.0.1.1.1.0
    by SuspendSelector Selector h differ = share-turned (described_field Selector d) (described_field SuspendSelector d) h.1.0.1.1.0
    by SuspendSelector ModePart h differ = share-turned (described_field ModePart d) (described_field SuspendSelector d) h.1.1.0.1.0
    by SuspendSelector SuspendEnable h differ = share-turned (described_field SuspendEnable d) (described_field SuspendSelector d) h.1.1.1.0.0
    by SuspendSelector SuspendSelector h differ = absurd (differ refl)

module _ {X : Type 0} (d : X → Desc) where
  abbrev fields : List X → List Field
  fields xs = flat_map (λ x. fields_of (d x)) xs

  separate : (x : X) (xs : List X) → AllByRecursion (λ f. AllByRecursion (λ g. ¬ SharesBit f g) (fields xs)) (fields_of (d x)) → AllByRecursion (λ y. AreSeparate (d x) (d y)) xs
  separate x [] all = tt
  separate x (y ∷ ys) all = (
    λ part other f g is_f is_g.
        let of_f = if-some (λ f. AllByRecursion (λ g. ¬ SharesBit f g) (fields_of (d y) ++ fields ys)) (described_field part (d x)) f is_f (all-of (λ f. AllByRecursion (λ g. ¬ SharesBit f g) (fields_of (d y) ++ fields ys)) (d x) all part) in
        let here = all-split (λ g. ¬ SharesBit f g) (fields_of (d y)) (fields ys) of_f in
        if-some (λ g. ¬ SharesBit f g) (described_field other (d y)) g is_g (all-of (λ g. ¬ SharesBit f g) (d y) here.0 other),
    separate x ys (all-weaker (λ f. AllByRecursion (λ g. ¬ SharesBit f g) (fields_of (d y) ++ fields ys)) (λ f. AllByRecursion (λ g. ¬ SharesBit f g) (fields ys))
        (λ f of_f. (all-split (λ g. ¬ SharesBit f g) (fields_of (d y)) (fields ys) of_f).1) (fields_of (d x)) all),
  )

  apart-by : (xs : List X) → ArePairs (fields xs) → AreApartBy d xs
  apart-by [] pairs = tt
  apart-by (x ∷ xs) pairs =
      let parts = pairs-split (fields_of (d x)) (fields xs) pairs in
      (is_apart (d x) parts.0, (separate x xs parts.1.0, apart-by xs parts.1.1))

  pub apart-from_none : (xs : List X) → NoneClash (fields xs) → AreApartBy d xs
  apart-from_none xs none = apart-by xs (pairs-from_none (fields xs) none)

  -- ---- to rails by their numbers

  shared-later : (x : X) (xs : List X) (s : ℕ) (part other : Part) (f g : Field) → AllByRecursion (λ y. AreSeparate (d x) (d y)) xs
      → described_field part (d x) ≡ Some f → field_in (map d xs) s other ≡ Some g → ¬ SharesBit f g
  shared-later x [] s part other f g all is_f is_g shared = let e : None ≡ Some g = is_g in cc
  shared-later x (y ∷ ys) zero part other f g all is_f is_g shared = all.0 part other f g is_f is_g shared
  shared-later x (y ∷ ys) (suc s) part other f g all is_f is_g shared = shared-later x ys s part other f g all.1 is_f is_g shared

  pub none-share : (xs : List X) → AreApartBy d xs → NoneShare (map d xs)
  none-share [] apart r s part other f g differ is_f is_g shared = let e : None ≡ Some f = is_f in cc
  none-share (x ∷ xs) apart zero zero part other f g (inl differ) is_f is_g shared = absurd (differ refl)
  none-share (x ∷ xs) apart zero zero part other f g (inr differ) is_f is_g shared = apart.0 part other differ f g is_f is_g shared
  none-share (x ∷ xs) apart zero (suc s) part other f g differ is_f is_g shared = shared-later x xs s part other f g apart.1.0 is_f is_g shared
  none-share (x ∷ xs) apart (suc r) zero part other f g differ is_f is_g shared = shared-later x xs r other part g f apart.1.0 is_g is_f (turned f g shared)
  none-share (x ∷ xs) apart (suc r) (suc s) part other f g (inl differ) is_f is_g shared = none-share xs apart.1.1 r s part other f g (inl (λ e. differ (ap suc e))) is_f is_g shared
  none-share (x ∷ xs) apart (suc r) (suc s) part other f g (inr differ) is_f is_g shared = none-share xs apart.1.1 r s part other f g (inr differ) is_f is_g shared

  -- ---- fields of different chips

  -- the fields are in chips from low on, below high
  abbrev pub AreWithin : ℕ → ℕ → X → Type 0
  AreWithin low high x = (part : Part) → IfSome (described_field part (d x)) (λ f. (low ≤ f.chip) × (f.chip < high))

  pub within-wider : (low high least most : ℕ) → least ≤ low → high ≤ most → (x : X) → AreWithin low high x → AreWithin least most x
  within-wider low high least most below above x within part = by (described_field part (d x)) (within part)
    where
      by : (o : Option Field) → IfSome o (λ f. (low ≤ f.chip) × (f.chip < high)) → IfSome o (λ f. (least ≤ f.chip) × (f.chip < most))
      by None h = tt
      by (Some f) h = (omega (arith, h.0, below), omega (arith, h.1, above))

  apart-chips : (low mid high : ℕ) (x y : X) → AreWithin low mid x → AreWithin mid high y → AreSeparate (d x) (d y)
  apart-chips low mid high x y of_x of_y part other f g is_f is_g shared =
      let in_f : (low ≤ f.chip) × (f.chip < mid) = if-some (λ f. (low ≤ f.chip) × (f.chip < mid)) (described_field part (d x)) f is_f (of_x part) in
      let in_g : (mid ≤ g.chip) × (g.chip < high) = if-some (λ g. (mid ≤ g.chip) × (g.chip < high)) (described_field other (d y)) g is_g (of_y other) in
      omega (arith, in_f.1, in_g.0, shared.in_first.0, shared.in_second.0)

  pub apart-append : (low mid high : ℕ) (xs ys : List X) → AreApartBy d xs → AreApartBy d ys → AllByRecursion (AreWithin low mid) xs → AllByRecursion (AreWithin mid high) ys → AreApartBy d (xs ++ ys)
  apart-append low mid high [] ys of_xs of_ys in_xs in_ys = of_ys
  apart-append low mid high (x ∷ xs) ys of_xs of_ys in_xs in_ys = (
    of_xs.0,
    (
      all-append (λ y. AreSeparate (d x) (d y)) xs ys of_xs.1.0 (all-weaker (AreWithin mid high) (λ y. AreSeparate (d x) (d y)) (λ y in_y. apart-chips low mid high x y in_xs.0 in_y) ys in_ys),
      apart-append low mid high xs ys of_xs.1.1 of_ys in_xs.1 in_ys,
    ),
  )
