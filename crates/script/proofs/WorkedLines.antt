-- Lines and the names of rails, worked out by hand: two rails, on workers' lines that open and set.
use Rattle.std.specs.Prelude.{◌≡◌, ◌≢◌, ℕ, ◌<◌, ◌^◌, ◌==◌, ◌⊎◌, Bool, true, false, not, cond, List, [], ◌∷◌, Option, Some, None, IsTrue, codes, length, option_map, replicate, slice_get, unwrap_or}
use Rattle.std.specs.List.{list_all}
use Rattle.std.proofs.Common.{refl, sym, ap, subst, zero, suc, bytes_eq, ◌∙◌, inl, inr, arith, true≢false}
use Rattle.std.specs.Cmp.Lexicographic.{bytes_decides}
use Rattle.std.proofs.lemmas.Bool.Decides.{nat_tests}
use Rattle.std.proofs.lemmas.List.Elements.{All-weaker}
use Rattle.std.proofs.lemmas.List.Sums.{AllPass-from_list_all}
use Rattle.arrayvec.specs.ArrayString.{ArrayString}
use Rattle.board.specs.declared.rail.Rail.{Rail}
use Rattle.board.proofs.Boards.{coupled_board, first_buck, second_buck}
use Rattle.board.specs.declared.rail_id.RailId.{RailId}
use Rattle.rows.specs.declared.call.Call.{Call}
use Rattle.rows.specs.declared.call.Call.TheVariants.{Open, Close, Enable, Disable, Set, Load, Get, IsOn, ModeOf, ListSel, Supported, Listen, Events, Suspend, Resume, ReleaseBoot}
use Rattle.rows.specs.Reading.{opens, Spells, IsWord}
use Rattle.rows.proofs.Spellings.{one_spelling}
use Rattle.script.specs.RailNames.{Names, is_printed, is_name, rail_under, rail_named, AreNamesOf}
use Rattle.script.specs.CallLines.{OpensNamed, IsCallOf, IsBad, OpensNoRail}
use Rattle.script.proofs.Told.{named_apart, opens-without_rail}

-- from the exclamation mark to the tilde
first_printed : is_printed 33 ≡ true
first_printed = refl

last_printed : is_printed 126 ≡ true
last_printed = refl

blank_not_printed : is_printed 32 ≡ false
blank_not_printed = refl

delete_not_printed : is_printed 127 ≡ false
delete_not_printed = refl

-- at most 64 bytes, each of them printed
name_of_a_rail : is_name (codes "vdd-core.0") ≡ true
name_of_a_rail = refl

name_of_64 : is_name (replicate 64 97) ≡ true
name_of_64 = refl

name_of_65 : is_name (replicate 65 97) ≡ false
name_of_65 = refl

name_with_a_blank : is_name (codes "vdd core") ≡ false
name_with_a_blank = refl

abbrev text : List ℕ → ArrayString
text bytes = record { bytes = bytes; spare = [] }

abbrev rail : ℕ → RailId
rail n = record { 0 = n }

-- the names of a board of two rails
abbrev names : Names
names = (text (codes "buck1"), rail 0) ∷ (text (codes "buck2"), rail 1) ∷ []

rail_of_first : rail_named names (codes "buck1") ≡ Some (rail 0)
rail_of_first = refl

rail_of_second : rail_named names (codes "buck2") ≡ Some (rail 1)
rail_of_second = refl

rail_of_neither : rail_named names (codes "buck") ≡ None
rail_of_neither = refl

-- what is under a word that no rail may have isn't named by it
under_a_blank : rail_under ((text (codes " "), rail 3) ∷ []) (codes " ") ≡ Some (rail 3)
under_a_blank = refl

named_by_a_blank : rail_named ((text (codes " "), rail 3) ∷ []) (codes " ") ≡ None
named_by_a_blank = refl

-- they are those of the board; without the second, or with the number of another, some rail isn't named
either : (t b c : Bool) (r : RailId) → cond t (cond b (Some (rail 0)) (cond c (Some (rail 1)) None)) None ≡ Some r → ((b ≡ true) × (r ≡ rail 0)) ⊎ ((c ≡ true) × (r ≡ rail 1))
either true true c r e = inl (refl, let same : r ≡ rail 0 = cc in same)
either true false true r e = inr (refl, let same : r ≡ rail 1 = cc in same)
either true false false r e = absurd (cc)
either false b c r e = absurd (cc)

abbrev number : Option RailId → ℕ
number r = unwrap_or (option_map {T = RailId} (λ r. r.0) r) 9

abbrev HasName : List ℕ → RailId → Type 0
HasName word r = option_map {T = Rail} (λ found. found.name.bytes) (slice_get coupled_board.rails r.0) ≡ Some word

abbrev HasNumber : Rail → ℕ → Type 0
HasNumber found at = option_map {T = RailId} (λ r. r.0) (rail_named names found.name.bytes) ≡ Some at

are_names : AreNamesOf coupled_board names
are_names = record { each = each; no_other = no_other }
  where
    each : (at : ℕ) (found : Rail) → slice_get coupled_board.rails at ≡ Some found → HasNumber found at
    each zero found there = let is : first_buck ≡ found = cc in subst (λ (f : Rail). HasNumber f 0) is refl
    each (suc zero) found there = let is : second_buck ≡ found = cc in subst (λ (f : Rail). HasNumber f 1) is refl
    each (suc (suc at)) found there = absurd (cc)

    no_other : (word : List ℕ) (r : RailId) → rail_named names word ≡ Some r → HasName word r
    no_other word r e =
        elim (either (is_name word) (bytes_eq word (codes "buck1")) (bytes_eq word (codes "buck2")) r e) [
          | inl (is, first) ↦ subst (λ (q : RailId). HasName word q) (sym first) (ap Some (sym ((bytes_decides word (codes "buck1")).0 is)))
          | inr (is, second) ↦ subst (λ (q : RailId). HasName word q) (sym second) (ap Some (sym ((bytes_decides word (codes "buck2")).0 is)))
        ]

names_without_one : ¬ AreNamesOf coupled_board ((text (codes "buck1"), rail 0) ∷ [])
names_without_one are = let other : ◌≡◌ {A = Option ℕ} None (Some 1) = are.each 1 second_buck refl in absurd (cc)

names_exchanged : ¬ AreNamesOf coupled_board ((text (codes "buck1"), rail 1) ∷ (text (codes "buck2"), rail 0) ∷ [])
names_exchanged are =
    let other : ◌≡◌ {A = ℕ} 1 0 = ap (λ (at : Option ℕ). unwrap_or at 9) (are.each 0 first_buck refl) in
    absurd (omega arith)

-- and with one more, a word that is no rail's name names a rail
names_with_one_more : ¬ AreNamesOf coupled_board ((text (codes "buck1"), rail 0) ∷ (text (codes "buck2"), rail 1) ∷ (text (codes "c"), rail 0) ∷ [])
names_with_one_more are =
    let shorter : ◌≡◌ {A = ℕ} 5 1 = ap (λ (word : Option (List ℕ)). length (unwrap_or word [])) (are.no_other (codes "c") (rail 0) refl) in
    absurd (omega arith)

abbrev h : ArrayString
h = text (codes "h")

abbrev opening : ℕ → Call
opening n = Open h (rail n) false

-- an opened rail is the one that is named, and another call names none
opens_its_rail : OpensNamed names (codes "buck2") (opening 1)
opens_its_rail = refl

opens_another : ¬ OpensNamed names (codes "buck2") (opening 0)
opens_another e = let other : ◌≡◌ {A = ℕ} 1 0 = ap number e in absurd (omega arith)

sets_any : OpensNamed names [] (Set h 5 6)
sets_any = tt

five : (word : List ℕ) → length word ≡ 5 → IsTrue (list_all (λ byte. not (byte == 32)) word) → IsWord word
five word long letters = (
  λ none. let zero : length word ≡ 0 = ap length none in absurd (omega arith),
  All-weaker (λ byte. not (byte == 32) ≡ true) (λ byte. byte ≢ 32) (λ byte other is. grind (arith, nat_tests)) word (AllPass-from_list_all (λ byte. not (byte == 32)) word letters),
)

second_spelled : (n : ℕ) → n < 2 ^ 16 → Spells (codes "buck2") (opening n) (codes "open h buck2")
second_spelled n fits = record { is = ((refl, refl, omega arith), fits); naming = five (codes "buck2") refl refl; spelled = refl }

third_spelled : Spells (codes "buck3") (opening 0) (codes "open h buck3")
third_spelled = record { is = ((refl, refl, omega arith), omega arith); naming = five (codes "buck3") refl refl; spelled = refl }

resumed : Spells [] Resume (codes "resume")
resumed = record { is = tt; naming = refl; spelled = refl }

-- a line is the call with the rail that it names, and not the call with another, and no other call
line_of_its_call : IsCallOf names (codes "open h buck2") (opening 1)
line_of_its_call = record { word = codes "buck2"; spells = second_spelled 1 (omega arith); named = refl }

line_of_another_rail : ¬ IsCallOf names (codes "open h buck2") (opening 0)
line_of_another_rail is =
    let word = (one_spelling (codes "open h buck2") (codes "buck2") is.word (opening 1) (opening 0) (second_spelled 1 (omega arith)) is.spells).0 in
    opens_another (ap (rail_named names) word ∙ is.named)

line_of_another_call : ¬ IsCallOf names (codes "open h buck2") Resume
line_of_another_call is =
    let same = (one_spelling (codes "open h buck2") (codes "buck2") is.word (opening 1) Resume (second_spelled 1 (omega arith)) is.spells).1 in
    true≢false (ap opens same)

-- a line that opens an unknown rail; one that opens a known one, and one that opens none
opens_no_rail : OpensNoRail names (codes "open h buck3")
opens_no_rail = record { word = codes "buck3"; call = opening 0; spells = third_spelled; opens = refl; unnamed = refl }

opens_a_rail : ¬ OpensNoRail names (codes "open h buck2")
opens_a_rail other = named_apart one_spelling names (codes "open h buck2") (codes "buck2") (opening 1) (rail 1) (second_spelled 1 (omega arith)) refl other

opens_nothing : ¬ OpensNoRail names (codes "resume")
opens_nothing other =
    let same = (one_spelling (codes "resume") [] other.word Resume other.call resumed other.spells).1 in
    true≢false (sym other.opens ∙ sym (opens-without_rail other.call) ∙ ap opens (sym same))

-- an empty line is no call's; a call's line is
empty_is_bad : IsBad []
empty_is_bad word (Open handle rail true) spells = let e = spells.spelled in cc
empty_is_bad word (Open handle rail false) spells = let e = spells.spelled in cc
empty_is_bad word (Close handle) spells = let e = spells.spelled in cc
empty_is_bad word (Enable handle) spells = let e = spells.spelled in cc
empty_is_bad word (Disable handle) spells = let e = spells.spelled in cc
empty_is_bad word (Set handle lo hi) spells = let e = spells.spelled in cc
empty_is_bad word (Load handle ua) spells = let e = spells.spelled in cc
empty_is_bad word (Get handle) spells = let e = spells.spelled in cc
empty_is_bad word (IsOn handle) spells = let e = spells.spelled in cc
empty_is_bad word (ModeOf handle) spells = let e = spells.spelled in cc
empty_is_bad word (ListSel handle sel) spells = let e = spells.spelled in cc
empty_is_bad word (Supported handle lo hi) spells = let e = spells.spelled in cc
empty_is_bad word (Listen handle) spells = let e = spells.spelled in cc
empty_is_bad word (Events handle) spells = let e = spells.spelled in cc
empty_is_bad word (Suspend state) spells = let e = spells.spelled in cc
empty_is_bad word Resume spells = let e = spells.spelled in cc
empty_is_bad word ReleaseBoot spells = let e = spells.spelled in cc

call_is_not_bad : ¬ IsBad (codes "open h buck3")
call_is_not_bad bad = bad (codes "buck3") (opening 0) third_spelled

-- an empty line opens no unknown rail
empty_opens_nothing : ¬ OpensNoRail names []
empty_opens_nothing other = empty_is_bad other.word other.call other.spells
