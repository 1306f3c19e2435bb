-- The text of a board's refusal.
use Rattle.std.specs.Prelude.{ℕ, List, [], ◌∷◌, codes, decimal, map}
use Rattle.std.specs.List.{join_with_byte}
use Rattle.constraints.specs.declared.prop.Prop.{Prop}
use Rattle.constraints.specs.declared.prop.Prop.TheVariants.{Supply}
use Rattle.board_draft.specs.declared.fault.BoardFault.{BoardFault}
use Rattle.board_draft.specs.declared.fault.BoardFault.TheVariants.{TooManyChips, UnknownChip, TooManyRails, NoRails, NameTooLong, TwoNames, BadCells, OneBound, Reversed, FixedRange, NoValueInside, BadMode, SuspendValue, NoSupply, SupplyLoop, NoCouple, OneWay, NoSpread, SpreadsDiffer, CoupledSupplier, GroupLoop, GapOverSpread, GapOverStep, SuspendSpread, LoadOverModes, Memory}
use Rattle.constraints.specs.Prop.{name_of}

-- a word and its numbers in decimal, with one space between each two
abbrev pub told : List ℕ → List ℕ → List ℕ
told word numbers = join_with_byte 32 (word ∷ map decimal numbers)

-- the word of a property: its name, and of a supply, whose names differ, one word
abbrev pub property_of : Prop → List ℕ
property_of Supply = codes "supply"
property_of prop = name_of prop

-- the text of a refusal; want of memory has an empty one
abbrev pub text_of : BoardFault → List ℕ
text_of (TooManyChips n) = told (codes "toomanychips") (n ∷ [])
text_of (UnknownChip at) = told (codes "unknownchip") (at ∷ [])
text_of (TooManyRails n) = told (codes "toomanyrails") (n ∷ [])
text_of NoRails = codes "norails"
text_of (NameTooLong r) = told (codes "nametoolong") (r ∷ [])
text_of (TwoNames a b) = told (codes "twonames") (a ∷ b ∷ [])
text_of (BadCells r prop) = join_with_byte 32 (codes "badcells" ∷ decimal r ∷ property_of prop ∷ [])
text_of (OneBound r) = told (codes "onebound") (r ∷ [])
text_of (Reversed r) = told (codes "reversed") (r ∷ [])
text_of (FixedRange r) = told (codes "fixedrange") (r ∷ [])
text_of (NoValueInside r) = told (codes "novalueinside") (r ∷ [])
text_of (BadMode r n) = told (codes "badmode") (r ∷ n ∷ [])
text_of (SuspendValue r) = told (codes "suspendvalue") (r ∷ [])
text_of (NoSupply r) = told (codes "nosupply") (r ∷ [])
text_of (SupplyLoop r) = told (codes "supplyloop") (r ∷ [])
text_of (NoCouple r) = told (codes "nocouple") (r ∷ [])
text_of (OneWay a b) = told (codes "oneway") (a ∷ b ∷ [])
text_of (NoSpread r) = told (codes "nospread") (r ∷ [])
text_of (SpreadsDiffer a b) = told (codes "spreadsdiffer") (a ∷ b ∷ [])
text_of (CoupledSupplier a b) = told (codes "coupledsupplier") (a ∷ b ∷ [])
text_of (GroupLoop r) = told (codes "grouploop") (r ∷ [])
text_of (GapOverSpread a gap spread) = told (codes "gapoverspread") (a ∷ gap ∷ spread ∷ [])
text_of (GapOverStep r gap step) = told (codes "gapoverstep") (r ∷ gap ∷ step ∷ [])
text_of (SuspendSpread a b) = told (codes "suspendspread") (a ∷ b ∷ [])
text_of (LoadOverModes r sum) = told (codes "loadovermodes") (r ∷ sum ∷ [])
text_of Memory = []
