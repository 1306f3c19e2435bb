-- Call lines worked out by hand: which lines are read, and which are not.
use Rattle.std.proofs.Common.{ℕ, ◌≡◌, [], ◌∷◌, true, false, codes, length, refl, ap, arith}
use Rattle.std.specs.Fmt.{digits}
use Rattle.arrayvec.specs.ArrayString.{ArrayString}
use Rattle.board.specs.declared.rail_id.RailId.{RailId}
use Rattle.board.specs.declared.state.State.TheVariants.{Mem, Disk}
use Rattle.rows.specs.declared.call.Call.TheVariants.{Open, Close, Enable, Disable, Set, Load, Get, IsOn, ModeOf, ListSel, Supported, Listen, Events, Suspend, Resume, ReleaseBoot}
use Rattle.rows.specs.Names.{IsHandleName, is_letter, is_name_byte}
use Rattle.rows.specs.Reading.{IsCall, IsWord, OpensAt, Spells, opens, trimmed_call, without_rail}
use Rattle.rows.specs.RowLine.{arity, first_word, is_any, spaces}
use Rattle.rows.specs.Words.{IsAsciiWord, IsPlain}
use Rattle.rows.proofs.Cuts.{Lacks-dense, dense_by_test}

abbrev rail : ℕ → RailId
rail n = record { 0 = n }

-- a handle of the name cpu_0 with and without an unused byte, one of the name x, and one whose name isn't one
abbrev cpu : ArrayString
cpu = record { bytes = codes "cpu_0"; spare = 7 ∷ [] }

abbrev short : ArrayString
short = record { bytes = codes "cpu_0"; spare = [] }

abbrev nameless : ArrayString
nameless = record { bytes = codes "0cpu"; spare = [] }

-- the names of handles
letters : (is_letter 96 ≡ false) × (is_letter 97 ≡ true) × (is_letter 122 ≡ true) × (is_letter 123 ≡ false)
letters = (refl, refl, refl, refl)

name_bytes : (is_name_byte 47 ≡ false) × (is_name_byte 48 ≡ true) × (is_name_byte 57 ≡ true) × (is_name_byte 58 ≡ false) × (is_name_byte 95 ≡ true) × (is_name_byte 65 ≡ false) × (is_name_byte 120 ≡ true)
name_bytes = (refl, refl, refl, refl, refl, refl, refl)

cpu_named : IsHandleName (codes "cpu_0")
cpu_named = (refl, refl, omega arith)

longest_name : IsHandleName (codes "abcdefghijklmnop")
longest_name = (refl, refl, omega arith)

too_long_name : ¬ IsHandleName (codes "abcdefghijklmnopq")
too_long_name named = absurd (omega (arith, named.2))

empty_name : ¬ IsHandleName []
empty_name named = named

digit_first : ¬ IsHandleName (codes "0cpu")
digit_first named = absurd (let e = named.0 in cc)

dash_inside : ¬ IsHandleName (codes "c-0")
dash_inside named = absurd (let e = named.1 in cc)

-- numbers and words
plain_zero : IsPlain (codes "0")
plain_zero = (λ same. absurd (omega (arith, same)), λ same. omega arith)

needless_zero : ¬ IsPlain (codes "07")
needless_zero plain = absurd (omega (arith, plain.1 refl))

signed : ¬ IsPlain (codes "+7")
signed plain = plain.0 refl

a_word : IsWord (codes "->")
a_word = (λ same. absurd (omega (arith, ap length same)), Lacks-dense 32 (codes "->") (omega arith) (dense_by_test (codes "->") refl))

no_word : ¬ IsWord []
no_word word = word.0 refl

two_words : ¬ IsWord (codes "a b")
two_words word = word.1 1 0 (omega arith) refl

ascii_word : ¬ IsAsciiWord (97 ∷ 128 ∷ [])
ascii_word all = absurd (omega (arith, all 1 0 (omega arith)))

-- which calls there are: each name has its form, and each number fits its type
is_open : IsCall (Open cpu (rail 3) true)
is_open = (cpu_named, omega arith)

is_close : IsCall (Close cpu)
is_close = cpu_named

is_enable : IsCall (Enable cpu)
is_enable = cpu_named

is_disable : IsCall (Disable cpu)
is_disable = cpu_named

is_set : IsCall (Set cpu 1 2)
is_set = (cpu_named, omega arith, omega arith)

is_load : IsCall (Load cpu 3)
is_load = (cpu_named, omega arith)

is_get : IsCall (Get cpu)
is_get = cpu_named

is_isOn : IsCall (IsOn cpu)
is_isOn = cpu_named

is_modeOf : IsCall (ModeOf cpu)
is_modeOf = cpu_named

is_listSel : IsCall (ListSel cpu 4)
is_listSel = (cpu_named, omega arith)

is_supported : IsCall (Supported cpu 5 6)
is_supported = (cpu_named, omega arith, omega arith)

is_listen : IsCall (Listen cpu)
is_listen = cpu_named

is_events : IsCall (Events cpu)
is_events = cpu_named

is_suspend : IsCall (Suspend Mem)
is_suspend = tt

is_resume : IsCall Resume
is_resume = tt

is_releaseBoot : IsCall ReleaseBoot
is_releaseBoot = tt

nameless_open : ¬ IsCall (Open nameless (rail 3) true)
nameless_open is = absurd (let e = is.0.0 in cc)

nameless_close : ¬ IsCall (Close nameless)
nameless_close is = absurd (let e = is.0 in cc)

nameless_enable : ¬ IsCall (Enable nameless)
nameless_enable is = absurd (let e = is.0 in cc)

nameless_disable : ¬ IsCall (Disable nameless)
nameless_disable is = absurd (let e = is.0 in cc)

nameless_set : ¬ IsCall (Set nameless 1 2)
nameless_set is = absurd (let e = is.0.0 in cc)

nameless_load : ¬ IsCall (Load nameless 3)
nameless_load is = absurd (let e = is.0.0 in cc)

nameless_get : ¬ IsCall (Get nameless)
nameless_get is = absurd (let e = is.0 in cc)

nameless_isOn : ¬ IsCall (IsOn nameless)
nameless_isOn is = absurd (let e = is.0 in cc)

nameless_modeOf : ¬ IsCall (ModeOf nameless)
nameless_modeOf is = absurd (let e = is.0 in cc)

nameless_listSel : ¬ IsCall (ListSel nameless 4)
nameless_listSel is = absurd (let e = is.0.0 in cc)

nameless_supported : ¬ IsCall (Supported nameless 5 6)
nameless_supported is = absurd (let e = is.0.0 in cc)

nameless_listen : ¬ IsCall (Listen nameless)
nameless_listen is = absurd (let e = is.0 in cc)

nameless_events : ¬ IsCall (Events nameless)
nameless_events is = absurd (let e = is.0 in cc)

too_great_rail : ¬ IsCall (Open cpu (rail 65536) false)
too_great_rail is = absurd (omega (arith, is.1))

too_great_low : ¬ IsCall (Set cpu 4294967296 0)
too_great_low is = absurd (omega (arith, is.1))

too_great_high : ¬ IsCall (Set cpu 0 4294967296)
too_great_high is = absurd (omega (arith, is.2))

too_great_load : ¬ IsCall (Load cpu 4294967296)
too_great_load is = absurd (omega (arith, is.1))

too_great_selector : ¬ IsCall (ListSel cpu 4294967296)
too_great_selector is = absurd (omega (arith, is.1))

too_great_least : ¬ IsCall (Supported cpu 4294967296 0)
too_great_least is = absurd (omega (arith, is.1))

too_great_greatest : ¬ IsCall (Supported cpu 0 4294967296)
too_great_greatest is = absurd (omega (arith, is.2))

-- which calls open a handle, and where
opens_open : opens (Open cpu (rail 3) true) ≡ true
opens_open = refl

opens_close : opens (Close cpu) ≡ false
opens_close = refl

opens_enable : opens (Enable cpu) ≡ false
opens_enable = refl

opens_disable : opens (Disable cpu) ≡ false
opens_disable = refl

opens_set : opens (Set cpu 1 2) ≡ false
opens_set = refl

opens_load : opens (Load cpu 3) ≡ false
opens_load = refl

opens_get : opens (Get cpu) ≡ false
opens_get = refl

opens_isOn : opens (IsOn cpu) ≡ false
opens_isOn = refl

opens_modeOf : opens (ModeOf cpu) ≡ false
opens_modeOf = refl

opens_listSel : opens (ListSel cpu 4) ≡ false
opens_listSel = refl

opens_supported : opens (Supported cpu 5 6) ≡ false
opens_supported = refl

opens_listen : opens (Listen cpu) ≡ false
opens_listen = refl

opens_events : opens (Events cpu) ≡ false
opens_events = refl

opens_suspend : opens (Suspend Mem) ≡ false
opens_suspend = refl

opens_resume : opens Resume ≡ false
opens_resume = refl

opens_releaseBoot : opens ReleaseBoot ≡ false
opens_releaseBoot = refl

opened_at : OpensAt 3 (Open cpu (rail 3) true)
opened_at = refl

not_at : ¬ OpensAt 0 (Open cpu (rail 3) true)
not_at at = absurd (omega (arith, at))

-- a call without its rail, and without unused bytes
without_open : without_rail (Open cpu (rail 3) true) ≡ Open short (rail 0) true
without_open = refl

trimmed_open : trimmed_call (Open cpu (rail 3) true) ≡ Open short (rail 3) true
trimmed_open = refl

without_close : without_rail (Close cpu) ≡ Close short
without_close = refl

trimmed_close : trimmed_call (Close cpu) ≡ Close short
trimmed_close = refl

without_enable : without_rail (Enable cpu) ≡ Enable short
without_enable = refl

trimmed_enable : trimmed_call (Enable cpu) ≡ Enable short
trimmed_enable = refl

without_disable : without_rail (Disable cpu) ≡ Disable short
without_disable = refl

trimmed_disable : trimmed_call (Disable cpu) ≡ Disable short
trimmed_disable = refl

without_set : without_rail (Set cpu 1 2) ≡ Set short 1 2
without_set = refl

trimmed_set : trimmed_call (Set cpu 1 2) ≡ Set short 1 2
trimmed_set = refl

without_load : without_rail (Load cpu 3) ≡ Load short 3
without_load = refl

trimmed_load : trimmed_call (Load cpu 3) ≡ Load short 3
trimmed_load = refl

without_get : without_rail (Get cpu) ≡ Get short
without_get = refl

trimmed_get : trimmed_call (Get cpu) ≡ Get short
trimmed_get = refl

without_isOn : without_rail (IsOn cpu) ≡ IsOn short
without_isOn = refl

trimmed_isOn : trimmed_call (IsOn cpu) ≡ IsOn short
trimmed_isOn = refl

without_modeOf : without_rail (ModeOf cpu) ≡ ModeOf short
without_modeOf = refl

trimmed_modeOf : trimmed_call (ModeOf cpu) ≡ ModeOf short
trimmed_modeOf = refl

without_listSel : without_rail (ListSel cpu 4) ≡ ListSel short 4
without_listSel = refl

trimmed_listSel : trimmed_call (ListSel cpu 4) ≡ ListSel short 4
trimmed_listSel = refl

without_supported : without_rail (Supported cpu 5 6) ≡ Supported short 5 6
without_supported = refl

trimmed_supported : trimmed_call (Supported cpu 5 6) ≡ Supported short 5 6
trimmed_supported = refl

without_listen : without_rail (Listen cpu) ≡ Listen short
without_listen = refl

trimmed_listen : trimmed_call (Listen cpu) ≡ Listen short
trimmed_listen = refl

without_events : without_rail (Events cpu) ≡ Events short
without_events = refl

trimmed_events : trimmed_call (Events cpu) ≡ Events short
trimmed_events = refl

without_suspend : without_rail (Suspend Mem) ≡ Suspend Mem
without_suspend = refl

trimmed_suspend : trimmed_call (Suspend Mem) ≡ Suspend Mem
trimmed_suspend = refl

without_resume : without_rail Resume ≡ Resume
without_resume = refl

trimmed_resume : trimmed_call Resume ≡ Resume
trimmed_resume = refl

without_releaseBoot : without_rail ReleaseBoot ≡ ReleaseBoot
without_releaseBoot = refl

trimmed_releaseBoot : trimmed_call ReleaseBoot ≡ ReleaseBoot
trimmed_releaseBoot = refl

-- lines that are read
open_spelled : Spells (codes "->") (Open cpu (rail 0) false) (codes "open cpu_0 ->")
open_spelled = record { is = (cpu_named, omega arith); naming = a_word; spelled = refl }

openx_spelled : Spells (codes "buck2") (Open cpu (rail 1) true) (codes "openx cpu_0 buck2")
openx_spelled = record {
  is = (cpu_named, omega arith);
  naming = (λ same. absurd (omega (arith, ap length same)), Lacks-dense 32 (codes "buck2") (omega arith) (dense_by_test (codes "buck2") refl));
  spelled = refl;
}

close_spelled : Spells [] (Close cpu) (codes "close cpu_0")
close_spelled = record { is = cpu_named; naming = refl; spelled = refl }

set_spelled : Spells [] (Set cpu 0 900000) (codes "set cpu_0 0 900000")
unfolding digits
set_spelled = record { is = (cpu_named, omega arith, omega arith); naming = refl; spelled = refl }

suspend_spelled : Spells [] (Suspend Disk) (codes "suspend disk")
suspend_spelled = record { is = tt; naming = refl; spelled = refl }

-- lines that are not
word_of_none : ¬ Spells (codes "x") (Close cpu) (codes "close cpu_0")
word_of_none spells = absurd (omega (arith, ap length spells.naming))

open_without_word : ¬ Spells [] (Open cpu (rail 0) false) (codes "open cpu_0 ")
open_without_word spells = spells.naming.0 refl

open_as_shared : ¬ Spells (codes "buck2") (Open cpu (rail 1) false) (codes "openx cpu_0 buck2")
open_as_shared spells = absurd (omega (arith, ap length spells.spelled))

two_spaces : ¬ Spells [] (Close cpu) (codes "close  cpu_0")
two_spaces spells = absurd (omega (arith, ap length spells.spelled))

other_handle : ¬ Spells [] (Close nameless) (codes "close 0cpu")
other_handle spells = digit_first spells.is

zero_in_front : ¬ Spells [] (Load cpu 7) (codes "load cpu_0 07")
unfolding digits
zero_in_front spells = absurd (omega (arith, ap length spells.spelled))

-- spaces, first words, and of how many words a call is
three_spaces : spaces (codes " a  b") ≡ 3
three_spaces = refl

no_spaces : spaces (codes "open") ≡ 0
no_spaces = refl

first_of_two : first_word (codes "set x") ≡ codes "set"
first_of_two = refl

first_of_none : first_word (codes " x") ≡ []
first_of_none = refl

first_of_one : first_word (codes "resume") ≡ codes "resume"
first_of_one = refl

any_of : (is_any (codes "a") (codes "a") (codes "b") ≡ true) × (is_any (codes "b") (codes "a") (codes "b") ≡ true) × (is_any (codes "c") (codes "a") (codes "b") ≡ false)
any_of = (refl, refl, refl)

arities : (arity (codes "resume") ≡ 1) × (arity (codes "release-boot") ≡ 1) × (arity (codes "suspend") ≡ 2) × (arity (codes "close") ≡ 2) × (arity (codes "open") ≡ 3) × (arity (codes "openx") ≡ 3) × (arity (codes "load") ≡ 3) × (arity (codes "list") ≡ 3) × (arity (codes "set") ≡ 4) × (arity (codes "supported") ≡ 4)
arities = (refl, refl, refl, refl, refl, refl, refl, refl, refl, refl)
