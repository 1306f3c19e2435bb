-- The words of a call line, and the call that they are.
use Rattle.std.proofs.Common.{ℕ, ◌≡◌, ◌^◌, ◌<◌, ◌≤◌, List, length, true, false, Bool, nat_lt, codes, decimal, refl, cond, sym, ap, ◌∙◌, arith}
use Rattle.std.specs.List.{list_all}
use Rattle.board.specs.declared.rail_id.RailId.{RailId}
use Rattle.board.specs.declared.state.State.{State}
use Rattle.board.specs.declared.state.State.TheVariants.{Standby, Mem, Disk}
use Rattle.rows.specs.declared.call.Call.{Call}
use Rattle.rows.specs.declared.call.Call.TheVariants.{Open, Close, Enable, Disable, Set, Load, Get, IsOn, ModeOf, ListSel, Supported, Listen, Events, Suspend, Resume, ReleaseBoot}
use Rattle.rows.specs.CallText.{call_words}
use Rattle.rows.specs.Names.{IsHandleName}
use Rattle.rows.specs.Reading.{IsCall, LacksSpace, NameLacks, NoCall, SpellsLine, SpellsWords}
use Rattle.rows.specs.Words.{spaced, state_text}
use Rattle.rows.proofs.Cuts.{Dense, Dense-decimal, Dense-name, Lacks-dense, dense_by_test, AllLack, LackBefore, spaced_same, spaced_within}
use Rattle.rows.proofs.Separators.{Lacks}

-- a state's word is text
pub state_dense : (state : State) → Dense (state_text state)
state_dense Standby = dense_by_test (codes "standby") refl
state_dense Mem = dense_by_test (codes "mem") refl
state_dense Disk = dense_by_test (codes "disk") refl

-- the first word of an opening call
opening_dense : (exclusive : Bool) → Dense (cond exclusive (codes "openx") (codes "open"))
opening_dense true = dense_by_test (codes "openx") refl
opening_dense false = dense_by_test (codes "open") refl

-- no word of a call has the separator, if no rail's name has
module _ (sep : ℕ) (low : sep ≤ 32) (name : RailId → List ℕ) where
  text : (word : List ℕ) → list_all (nat_lt 32) word ≡ true → Lacks sep word
  text word test = Lacks-dense sep word low (dense_by_test word test)

  called : (handle : List ℕ) → IsHandleName handle → Lacks sep handle
  called handle is = Lacks-dense sep handle low (Dense-name handle is)

  number : (n : ℕ) → n < 2 ^ 32 → Lacks sep (decimal n)
  number n small = Lacks-dense sep (decimal n) low (Dense-decimal n (omega arith))

  pub call_words_lack : (call : Call) → IsCall call → NameLacks sep name call → AllLack sep (call_words name call)
  call_words_lack (Open handle rail exclusive) is named = (Lacks-dense sep (cond exclusive (codes "openx") (codes "open")) low (opening_dense exclusive), (called handle.bytes is.0, (named, tt)))
  call_words_lack (Close handle) is named = (text (codes "close") refl, (called handle.bytes is, tt))
  call_words_lack (Enable handle) is named = (text (codes "enable") refl, (called handle.bytes is, tt))
  call_words_lack (Disable handle) is named = (text (codes "disable") refl, (called handle.bytes is, tt))
  call_words_lack (Set handle lo hi) is named = (text (codes "set") refl, (called handle.bytes is.0, (number lo is.1, (number hi is.2, tt))))
  call_words_lack (Load handle ua) is named = (text (codes "load") refl, (called handle.bytes is.0, (number ua is.1, tt)))
  call_words_lack (Get handle) is named = (text (codes "get") refl, (called handle.bytes is, tt))
  call_words_lack (IsOn handle) is named = (text (codes "ison") refl, (called handle.bytes is, tt))
  call_words_lack (ModeOf handle) is named = (text (codes "mode") refl, (called handle.bytes is, tt))
  call_words_lack (ListSel handle sel) is named = (text (codes "list") refl, (called handle.bytes is.0, (number sel is.1, tt)))
  call_words_lack (Supported handle lo hi) is named = (text (codes "supported") refl, (called handle.bytes is.0, (number lo is.1, (number hi is.2, tt))))
  call_words_lack (Listen handle) is named = (text (codes "listen") refl, (called handle.bytes is, tt))
  call_words_lack (Events handle) is named = (text (codes "events") refl, (called handle.bytes is, tt))
  call_words_lack (Suspend state) is named = (text (codes "suspend") refl, (Lacks-dense sep (state_text state) low (state_dense state), tt))
  call_words_lack Resume is named = (text (codes "resume") refl, tt)
  call_words_lack ReleaseBoot is named = (text (codes "release-boot") refl, tt)

-- a call line has four words at most, and one at least
pub call_words_few : (name : RailId → List ℕ) (call : Call) → (0 < length (call_words name call)) × (length (call_words name call) ≤ 4)
call_words_few name (Open handle rail exclusive) = (omega arith, omega arith)
call_words_few name (Close handle) = (omega arith, omega arith)
call_words_few name (Enable handle) = (omega arith, omega arith)
call_words_few name (Disable handle) = (omega arith, omega arith)
call_words_few name (Set handle lo hi) = (omega arith, omega arith)
call_words_few name (Load handle ua) = (omega arith, omega arith)
call_words_few name (Get handle) = (omega arith, omega arith)
call_words_few name (IsOn handle) = (omega arith, omega arith)
call_words_few name (ModeOf handle) = (omega arith, omega arith)
call_words_few name (ListSel handle sel) = (omega arith, omega arith)
call_words_few name (Supported handle lo hi) = (omega arith, omega arith)
call_words_few name (Listen handle) = (omega arith, omega arith)
call_words_few name (Events handle) = (omega arith, omega arith)
call_words_few name (Suspend state) = (omega arith, omega arith)
call_words_few name Resume = (omega arith, omega arith)
call_words_few name ReleaseBoot = (omega arith, omega arith)

-- the word of a call has no space
pub word_lacks : (word : List ℕ) (call : Call) → LacksSpace call word → NameLacks 32 (λ _. word) call
word_lacks word (Open handle rail exclusive) named = named
word_lacks word (Close handle) named = tt
word_lacks word (Enable handle) named = tt
word_lacks word (Disable handle) named = tt
word_lacks word (Set handle lo hi) named = tt
word_lacks word (Load handle ua) named = tt
word_lacks word (Get handle) named = tt
word_lacks word (IsOn handle) named = tt
word_lacks word (ModeOf handle) named = tt
word_lacks word (ListSel handle sel) named = tt
word_lacks word (Supported handle lo hi) named = tt
word_lacks word (Listen handle) named = tt
word_lacks word (Events handle) named = tt
word_lacks word (Suspend state) named = tt
word_lacks word Resume named = tt
word_lacks word ReleaseBoot named = tt

module _ (line word : List ℕ) (call : Call) (spells : SpellsLine word call line) where
  lack : AllLack 32 (call_words (λ _. word) call)
  lack = call_words_lack 32 (omega arith) (λ _. word) call spells.is (word_lacks word call spells.naming)

  -- the words of a line that is a call's
  pub words_told : (words : List (List ℕ)) → line ≡ spaced words → AllLack 32 words → 0 < length words → SpellsWords word call words
  words_told words split apart some = record {
    is = spells.is;
    naming = spells.naming;
    spelled = spaced_same words (call_words (λ _. word) call) apart lack some (call_words_few (λ _. word) call).0 (sym split ∙ spells.spelled);
  }

  -- the same where only the last of four words may have a space
  pub four_told : (words : List (List ℕ)) → line ≡ spaced words → LackBefore 32 words → length words ≡ 4 → SpellsWords word call words
  four_told words split apart four =
      let few = call_words_few (λ _. word) call in
      record {
        is = spells.is;
        naming = spells.naming;
        spelled = spaced_within words (call_words (λ _. word) call) apart lack (omega arith) few.0 (omega arith) (sym split ∙ spells.spelled);
      }

-- the words of a call are cut at spaces, and there are some
pub words_lack : (line word : List ℕ) (call : Call) → SpellsLine word call line → AllLack 32 (call_words (λ _. word) call) × (0 < length (call_words (λ _. word) call))
words_lack line word call spells = (lack line word call spells, (call_words_few (λ _. word) call).0)

-- what is spelled in words is spelled in their line
pub line_of : (line word : List ℕ) (call : Call) (words : List (List ℕ)) → line ≡ spaced words → SpellsWords word call words → SpellsLine word call line
line_of line word call words split spells =
    record { is = spells.is; naming = spells.naming; spelled = split ∙ ap spaced spells.spelled }

-- a line whose words are those of no call is that of no call
pub no_line : (line : List ℕ) (words : List (List ℕ)) → line ≡ spaced words → AllLack 32 words → 0 < length words → NoCall words → (word : List ℕ) (call : Call) → ¬ SpellsLine word call line
no_line line words split apart some none word call spells = none word call (words_told line word call spells words split apart some)

pub no_long_line : (line : List ℕ) (words : List (List ℕ)) → line ≡ spaced words → LackBefore 32 words → length words ≡ 4 → NoCall words → (word : List ℕ) (call : Call) → ¬ SpellsLine word call line
no_long_line line words split apart four none word call spells = none word call (four_told line word call spells words split apart four)
