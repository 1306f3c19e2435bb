-- The one call that words are those of.
use Rattle.std.proofs.Common.{ℕ, ◌≡◌, ◌^◌, ◌<◌, List, [], get_or, true, false, cond, codes, decimal, refl, sym, ap, ◌∙◌, arith}
use Rattle.std.specs.Str.{bytes_eq}
use Rattle.std.specs.Str.Parse.{digits_value}
use Rattle.std.proofs.lemmas.Fmt.{digits_value-decimal}
use Rattle.arrayvec.specs.ArrayString.{ArrayString}
use Rattle.board.specs.declared.rail_id.RailId.{RailId}
use Rattle.board.specs.declared.state.State.{State}
use Rattle.board.specs.declared.state.State.TheVariants.{Standby, Mem, Disk}
use Rattle.rows.specs.declared.call.Call.{Call}
use Rattle.rows.specs.declared.call.Call.TheVariants.{Open, Close, Enable, Disable, Set, Load, Get, IsOn, ModeOf, ListSel, Supported, Listen, Events, Suspend, Resume, ReleaseBoot}
use Rattle.rows.specs.CallText.{call_words}
use Rattle.rows.specs.Reading.{IsCall, LacksSpace, SpellsLine, without_rail}
use Rattle.rows.proofs.CallWords.{words_lack, words_told}
use Rattle.rows.proofs.Numerals.{decimal_model}

-- the parts of a call, by the place of their word
abbrev handle_in : List (List ℕ) → ArrayString
handle_in words = record { bytes = get_or words 1 []; spare = [] }

abbrev number_in : List (List ℕ) → ℕ → ℕ
number_in words at = digits_value 10 (get_or words at [])

abbrev state_in : List ℕ → State
state_in word = cond (bytes_eq word (codes "standby")) Standby (cond (bytes_eq word (codes "mem")) Mem Disk)

abbrev first_rail : RailId
first_rail = record { 0 = 0 }

-- the call with this first word, where there is one
abbrev with_verb : List ℕ → List (List ℕ) → Call
with_verb verb words =
    cond (bytes_eq verb (codes "open")) (Open (handle_in words) first_rail false) (
    cond (bytes_eq verb (codes "openx")) (Open (handle_in words) first_rail true) (
    cond (bytes_eq verb (codes "close")) (Close (handle_in words)) (
    cond (bytes_eq verb (codes "enable")) (Enable (handle_in words)) (
    cond (bytes_eq verb (codes "disable")) (Disable (handle_in words)) (
    cond (bytes_eq verb (codes "set")) (Set (handle_in words) (number_in words 2) (number_in words 3)) (
    cond (bytes_eq verb (codes "load")) (Load (handle_in words) (number_in words 2)) (
    cond (bytes_eq verb (codes "get")) (Get (handle_in words)) (
    cond (bytes_eq verb (codes "ison")) (IsOn (handle_in words)) (
    cond (bytes_eq verb (codes "mode")) (ModeOf (handle_in words)) (
    cond (bytes_eq verb (codes "list")) (ListSel (handle_in words) (number_in words 2)) (
    cond (bytes_eq verb (codes "supported")) (Supported (handle_in words) (number_in words 2) (number_in words 3)) (
    cond (bytes_eq verb (codes "listen")) (Listen (handle_in words)) (
    cond (bytes_eq verb (codes "events")) (Events (handle_in words)) (
    cond (bytes_eq verb (codes "suspend")) (Suspend (state_in (get_or words 1 []))) (
    cond (bytes_eq verb (codes "resume")) (Resume) (
    ReleaseBoot))))))))))))))))

abbrev decoded : List (List ℕ) → Call
decoded words = with_verb (get_or words 0 []) words

number_back : (n : ℕ) → n < 2 ^ 32 → digits_value 10 (decimal n) ≡ n
number_back n small = digits_value-decimal decimal_model n (omega arith)

-- the words of a call are those of no other
decoded_words : (name : RailId → List ℕ) (call : Call) → IsCall call → decoded (call_words name call) ≡ without_rail call
decoded_words name (Open handle rail true) is = refl
decoded_words name (Open handle rail false) is = refl
decoded_words name (Close handle) is = refl
decoded_words name (Enable handle) is = refl
decoded_words name (Disable handle) is = refl
decoded_words name (Set handle lo hi) is = ap (λ n. Set (record { bytes = handle.bytes; spare = [] }) n (digits_value 10 (decimal hi))) (number_back lo is.1) ∙ ap (λ n. Set (record { bytes = handle.bytes; spare = [] }) lo n) (number_back hi is.2)
decoded_words name (Load handle ua) is = ap (λ n. Load (record { bytes = handle.bytes; spare = [] }) n) (number_back ua is.1)
decoded_words name (Get handle) is = refl
decoded_words name (IsOn handle) is = refl
decoded_words name (ModeOf handle) is = refl
decoded_words name (ListSel handle sel) is = ap (λ n. ListSel (record { bytes = handle.bytes; spare = [] }) n) (number_back sel is.1)
decoded_words name (Supported handle lo hi) is = ap (λ n. Supported (record { bytes = handle.bytes; spare = [] }) n (digits_value 10 (decimal hi))) (number_back lo is.1) ∙ ap (λ n. Supported (record { bytes = handle.bytes; spare = [] }) lo n) (number_back hi is.2)
decoded_words name (Listen handle) is = refl
decoded_words name (Events handle) is = refl
decoded_words name (Suspend Standby) is = refl
decoded_words name (Suspend Mem) is = refl
decoded_words name (Suspend Disk) is = refl
decoded_words name Resume is = refl
decoded_words name ReleaseBoot is = refl

-- the word that names a rail
abbrev rail_word : List (List ℕ) → List ℕ
rail_word words = cond (bytes_eq (get_or words 0 []) (codes "open")) (get_or words 2 []) (cond (bytes_eq (get_or words 0 []) (codes "openx")) (get_or words 2 []) [])

rail_words : (word : List ℕ) (call : Call) → LacksSpace call word → rail_word (call_words (λ _. word) call) ≡ word
rail_words word (Open handle rail true) named = refl
rail_words word (Open handle rail false) named = refl
rail_words word (Close handle) named = sym named
rail_words word (Enable handle) named = sym named
rail_words word (Disable handle) named = sym named
rail_words word (Set handle lo hi) named = sym named
rail_words word (Load handle ua) named = sym named
rail_words word (Get handle) named = sym named
rail_words word (IsOn handle) named = sym named
rail_words word (ModeOf handle) named = sym named
rail_words word (ListSel handle sel) named = sym named
rail_words word (Supported handle lo hi) named = sym named
rail_words word (Listen handle) named = sym named
rail_words word (Events handle) named = sym named
rail_words word (Suspend Standby) named = sym named
rail_words word (Suspend Mem) named = sym named
rail_words word (Suspend Disk) named = sym named
rail_words word Resume named = sym named
rail_words word ReleaseBoot named = sym named

-- two calls with one line differ in nothing but the rail
pub one_line : (line w v : List ℕ) (c d : Call) → SpellsLine w c line → SpellsLine v d line → (w ≡ v) × (without_rail c ≡ without_rail d)
one_line line w v c d first second =
    let lacks = words_lack line w c first in
    let told = words_told line v d second (call_words (λ _. w) c) first.spelled lacks.0 lacks.1 in (
      sym (rail_words w c first.naming) ∙ ap rail_word told.spelled ∙ rail_words v d second.naming,
      sym (decoded_words (λ _. w) c first.is) ∙ ap decoded told.spelled ∙ decoded_words (λ _. v) d second.is,
    )
