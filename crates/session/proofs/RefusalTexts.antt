-- The words of a board's refusal are a text.
use Rattle.std.proofs.Common.{ℕ, zero, suc, ◌/◌, ◌%◌, ◌<◌, true, false, cond, List, [], ◌∷◌, ◌++◌, codes, refl, arith, eqb}
use Rattle.std.specs.Fmt.{decimal, digits, digits_onto, digit_glyph}
use Rattle.std.specs.Str.{IsUtf8, IsAscii}
use Rattle.std.proofs.lemmas.Str.{IsUtf8-append, IsUtf8-from_ascii, IsUtf8-nil}
use lib.Utf8.{encode}
use Rattle.constraints.specs.declared.prop.Prop.{Prop}
use Rattle.constraints.specs.declared.prop.Prop.TheVariants.{Name, MinMicrovolt, MaxMicrovolt, SystemLoad, RampDelay, EnableRampDelay, SettlingTime, SettlingTimeUp, SettlingTimeDown, MaxStep, AllowedModes, InitialMode, CoupledWith, MaxSpread, SuspendMicrovolt, Supply}
use Rattle.board_draft.specs.declared.fault.BoardFault.{BoardFault}
use Rattle.board_draft.specs.declared.fault.BoardFault.TheVariants.{TooManyChips, UnknownChip, TooManyRails, NoRails, NameTooLong, TwoNames, BadCells, OneBound, Reversed, FixedRange, NoValueInside, BadMode, SuspendValue, NoSupply, SupplyLoop, NoCouple, OneWay, NoSpread, SpreadsDiffer, CoupledSupplier, GroupLoop, GapOverSpread, GapOverStep, SuspendSpread, LoadOverModes, Memory}
use Rattle.board_draft.specs.Text.{told, property_of, text_of}

ascii_glyph : (n : ℕ) → digit_glyph false (n % 10) < 128
ascii_glyph n = grind arith

-- a byte of ASCII before a text of it
IsAscii-cons : (byte : ℕ) (bytes : List ℕ) → byte < 128 → IsAscii bytes → IsAscii (byte ∷ bytes)
IsAscii-cons byte bytes small ascii zero = small
IsAscii-cons byte bytes small ascii (suc k) = ascii k

IsAscii-digits : (k n : ℕ) (behind : List ℕ) → IsAscii behind → IsAscii (digits_onto k 10 false n behind)
IsAscii-digits zero n behind ascii = ascii
IsAscii-digits (suc k) n behind ascii =
    let more = IsAscii-cons (digit_glyph false (n % 10)) behind (ascii_glyph n) ascii in
    elim (eqb (n / 10) 0) as (λ b. IsAscii (cond b (digit_glyph false (n % 10) ∷ behind) (digits_onto k 10 false (n / 10) (digit_glyph false (n % 10) ∷ behind)))) [
      | true ↦ more
      | false ↦ IsAscii-digits k (n / 10) (digit_glyph false (n % 10) ∷ behind) more
    ]

IsAscii-nil : IsAscii []
IsAscii-nil k = omega arith

IsUtf8-decimal : (n : ℕ) → IsUtf8 (decimal n)
unfolding digits
IsUtf8-decimal n = IsUtf8-from_ascii (digits_onto 64 10 false n []) (IsAscii-digits 64 n [] IsAscii-nil)

-- words with a space between them
IsUtf8-spaced : (word rest : List ℕ) → IsUtf8 word → IsUtf8 rest → IsUtf8 (word ++ 32 ∷ rest)
IsUtf8-spaced word rest first second = IsUtf8-append word (32 ∷ rest) first (IsUtf8-append (32 ∷ []) rest (IsUtf8-from_ascii (32 ∷ []) (IsAscii-cons 32 [] (omega arith) IsAscii-nil)) second)

module _ (word : List ℕ) (is : IsUtf8 word) where
  IsUtf8-told1 : (a : ℕ) → IsUtf8 (told word (a ∷ []))
  IsUtf8-told1 a = IsUtf8-spaced word (decimal a) is (IsUtf8-decimal a)

  IsUtf8-told2 : (a b : ℕ) → IsUtf8 (told word (a ∷ b ∷ []))
  IsUtf8-told2 a b = IsUtf8-spaced word (decimal a ++ 32 ∷ decimal b) is (IsUtf8-spaced (decimal a) (decimal b) (IsUtf8-decimal a) (IsUtf8-decimal b))

  IsUtf8-told3 : (a b c : ℕ) → IsUtf8 (told word (a ∷ b ∷ c ∷ []))
  IsUtf8-told3 a b c =
      IsUtf8-spaced word (decimal a ++ 32 ∷ (decimal b ++ 32 ∷ decimal c)) is
      (IsUtf8-spaced (decimal a) (decimal b ++ 32 ∷ decimal c) (IsUtf8-decimal a) (IsUtf8-spaced (decimal b) (decimal c) (IsUtf8-decimal b) (IsUtf8-decimal c)))

IsUtf8-property : (prop : Prop) → IsUtf8 (property_of prop)
unfolding encode
IsUtf8-property Name = (property_of Name, (refl, refl))
IsUtf8-property MinMicrovolt = (property_of MinMicrovolt, (refl, refl))
IsUtf8-property MaxMicrovolt = (property_of MaxMicrovolt, (refl, refl))
IsUtf8-property SystemLoad = (property_of SystemLoad, (refl, refl))
IsUtf8-property RampDelay = (property_of RampDelay, (refl, refl))
IsUtf8-property EnableRampDelay = (property_of EnableRampDelay, (refl, refl))
IsUtf8-property SettlingTime = (property_of SettlingTime, (refl, refl))
IsUtf8-property SettlingTimeUp = (property_of SettlingTimeUp, (refl, refl))
IsUtf8-property SettlingTimeDown = (property_of SettlingTimeDown, (refl, refl))
IsUtf8-property MaxStep = (property_of MaxStep, (refl, refl))
IsUtf8-property AllowedModes = (property_of AllowedModes, (refl, refl))
IsUtf8-property InitialMode = (property_of InitialMode, (refl, refl))
IsUtf8-property CoupledWith = (property_of CoupledWith, (refl, refl))
IsUtf8-property MaxSpread = (property_of MaxSpread, (refl, refl))
IsUtf8-property SuspendMicrovolt = (property_of SuspendMicrovolt, (refl, refl))
IsUtf8-property Supply = (property_of Supply, (refl, refl))

-- and so is each refusal
pub IsUtf8-text_of : (fault : BoardFault) → IsUtf8 (text_of fault)
unfolding encode
IsUtf8-text_of (TooManyChips n) = IsUtf8-told1 (codes "toomanychips") (codes "toomanychips", (refl, refl)) n
IsUtf8-text_of (UnknownChip at) = IsUtf8-told1 (codes "unknownchip") (codes "unknownchip", (refl, refl)) at
IsUtf8-text_of (TooManyRails n) = IsUtf8-told1 (codes "toomanyrails") (codes "toomanyrails", (refl, refl)) n
IsUtf8-text_of NoRails = (codes "norails", (refl, refl))
IsUtf8-text_of (NameTooLong r) = IsUtf8-told1 (codes "nametoolong") (codes "nametoolong", (refl, refl)) r
IsUtf8-text_of (TwoNames a b) = IsUtf8-told2 (codes "twonames") (codes "twonames", (refl, refl)) a b
IsUtf8-text_of (BadCells r prop) =
    IsUtf8-spaced (codes "badcells") (decimal r ++ 32 ∷ property_of prop) (codes "badcells", (refl, refl)) (IsUtf8-spaced (decimal r) (property_of prop) (IsUtf8-decimal r) (IsUtf8-property prop))
IsUtf8-text_of (OneBound r) = IsUtf8-told1 (codes "onebound") (codes "onebound", (refl, refl)) r
IsUtf8-text_of (Reversed r) = IsUtf8-told1 (codes "reversed") (codes "reversed", (refl, refl)) r
IsUtf8-text_of (FixedRange r) = IsUtf8-told1 (codes "fixedrange") (codes "fixedrange", (refl, refl)) r
IsUtf8-text_of (NoValueInside r) = IsUtf8-told1 (codes "novalueinside") (codes "novalueinside", (refl, refl)) r
IsUtf8-text_of (BadMode r n) = IsUtf8-told2 (codes "badmode") (codes "badmode", (refl, refl)) r n
IsUtf8-text_of (SuspendValue r) = IsUtf8-told1 (codes "suspendvalue") (codes "suspendvalue", (refl, refl)) r
IsUtf8-text_of (NoSupply r) = IsUtf8-told1 (codes "nosupply") (codes "nosupply", (refl, refl)) r
IsUtf8-text_of (SupplyLoop r) = IsUtf8-told1 (codes "supplyloop") (codes "supplyloop", (refl, refl)) r
IsUtf8-text_of (NoCouple r) = IsUtf8-told1 (codes "nocouple") (codes "nocouple", (refl, refl)) r
IsUtf8-text_of (OneWay a b) = IsUtf8-told2 (codes "oneway") (codes "oneway", (refl, refl)) a b
IsUtf8-text_of (NoSpread r) = IsUtf8-told1 (codes "nospread") (codes "nospread", (refl, refl)) r
IsUtf8-text_of (SpreadsDiffer a b) = IsUtf8-told2 (codes "spreadsdiffer") (codes "spreadsdiffer", (refl, refl)) a b
IsUtf8-text_of (CoupledSupplier a b) = IsUtf8-told2 (codes "coupledsupplier") (codes "coupledsupplier", (refl, refl)) a b
IsUtf8-text_of (GroupLoop r) = IsUtf8-told1 (codes "grouploop") (codes "grouploop", (refl, refl)) r
IsUtf8-text_of (GapOverSpread a gap spread) = IsUtf8-told3 (codes "gapoverspread") (codes "gapoverspread", (refl, refl)) a gap spread
IsUtf8-text_of (GapOverStep r gap step) = IsUtf8-told3 (codes "gapoverstep") (codes "gapoverstep", (refl, refl)) r gap step
IsUtf8-text_of (SuspendSpread a b) = IsUtf8-told2 (codes "suspendspread") (codes "suspendspread", (refl, refl)) a b
IsUtf8-text_of (LoadOverModes r sum) = IsUtf8-told2 (codes "loadovermodes") (codes "loadovermodes", (refl, refl)) r sum
IsUtf8-text_of Memory = IsUtf8-nil
