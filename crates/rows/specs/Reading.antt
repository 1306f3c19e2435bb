-- What a call line tells of its call.
use Rattle.std.specs.Prelude.{ℕ, ◌≡◌, ◌≢◌, ◌^◌, ◌<◌, Bool, true, false, List, [], All}
use Rattle.arrayvec.specs.ArrayString.{ArrayString}
use Rattle.board.specs.declared.rail_id.RailId.{RailId}
use Rattle.rows.specs.declared.call.Call.{Call}
use Rattle.rows.specs.declared.call.Call.TheVariants.{Open, Close, Enable, Disable, Set, Load, Get, IsOn, ModeOf, ListSel, Supported, Listen, Events, Suspend, Resume, ReleaseBoot}
use Rattle.rows.specs.Names.{IsHandleName}
use Rattle.rows.specs.CallText.{call_words, call_text}

-- a handle's name has its form, and each number fits its type
abbrev pub IsCall : Call → Type 0
IsCall (Open handle rail exclusive) = IsHandleName handle.bytes × (rail.0 < 2 ^ 16)
IsCall (Close handle) = IsHandleName handle.bytes
IsCall (Enable handle) = IsHandleName handle.bytes
IsCall (Disable handle) = IsHandleName handle.bytes
IsCall (Set handle lo hi) = IsHandleName handle.bytes × (lo < 2 ^ 32) × (hi < 2 ^ 32)
IsCall (Load handle ua) = IsHandleName handle.bytes × (ua < 2 ^ 32)
IsCall (Get handle) = IsHandleName handle.bytes
IsCall (IsOn handle) = IsHandleName handle.bytes
IsCall (ModeOf handle) = IsHandleName handle.bytes
IsCall (ListSel handle sel) = IsHandleName handle.bytes × (sel < 2 ^ 32)
IsCall (Supported handle lo hi) = IsHandleName handle.bytes × (lo < 2 ^ 32) × (hi < 2 ^ 32)
IsCall (Listen handle) = IsHandleName handle.bytes
IsCall (Events handle) = IsHandleName handle.bytes
IsCall (Suspend state) = Unit {0}
IsCall Resume = Unit {0}
IsCall ReleaseBoot = Unit {0}

-- a word: a byte at least, and no space
abbrev pub IsWord : List ℕ → Type 0
IsWord word = (word ≢ []) × All (λ byte. byte ≢ 32) word

-- whether the call opens a handle
abbrev pub opens : Call → Bool
opens (Open handle rail exclusive) = true
opens _ = false

-- what names a rail in a call line: a word where a handle is opened, else nothing
abbrev pub NamesBy : Call → List ℕ → Type 0
NamesBy (Open handle rail exclusive) word = IsWord word
NamesBy _ word = word ≡ []

-- the line is that of the call, with this word for its rail
pub record Spells (word : List ℕ) (call : Call) (line : List ℕ) : Type 0 where
  pub is : IsCall call
  pub naming : NamesBy call word
  pub spelled : line ≡ call_text (λ _. word) call

-- what names a rail has no space, and there is none where no handle is opened
abbrev pub LacksSpace : Call → List ℕ → Type 0
LacksSpace (Open handle rail exclusive) word = All (λ byte. byte ≢ 32) word
LacksSpace _ word = word ≡ []

-- these words are those of the call, with this word, which may be empty, for its rail
pub record SpellsWords (word : List ℕ) (call : Call) (words : List (List ℕ)) : Type 0 where
  pub is : IsCall call
  pub naming : LacksSpace call word
  pub spelled : words ≡ call_words (λ _. word) call

-- the same of their line
pub record SpellsLine (word : List ℕ) (call : Call) (line : List ℕ) : Type 0 where
  pub is : IsCall call
  pub naming : LacksSpace call word
  pub spelled : line ≡ call_text (λ _. word) call

-- these words are those of no call
abbrev pub NoCall : List (List ℕ) → Type 0
NoCall words = (word : List ℕ) (call : Call) → ¬ SpellsWords word call words

-- the rail of a call that opens a handle is this one
abbrev pub OpensAt : ℕ → Call → Type 0
OpensAt r (Open handle rail exclusive) = rail.0 ≡ r
OpensAt r _ = Unit {0}

-- a handle without the bytes that its name doesn't use
abbrev pub bare : ArrayString → ArrayString
bare handle = record handle { spare = [] }

-- the call with this rail in the place of the one that it names, and without the bytes that its handle's name doesn't use
abbrev pub call_at : (RailId → RailId) → Call → Call
call_at f (Open handle rail exclusive) = Open (bare handle) (f rail) exclusive
call_at f (Close handle) = Close (bare handle)
call_at f (Enable handle) = Enable (bare handle)
call_at f (Disable handle) = Disable (bare handle)
call_at f (Set handle lo hi) = Set (bare handle) lo hi
call_at f (Load handle ua) = Load (bare handle) ua
call_at f (Get handle) = Get (bare handle)
call_at f (IsOn handle) = IsOn (bare handle)
call_at f (ModeOf handle) = ModeOf (bare handle)
call_at f (ListSel handle sel) = ListSel (bare handle) sel
call_at f (Supported handle lo hi) = Supported (bare handle) lo hi
call_at f (Listen handle) = Listen (bare handle)
call_at f (Events handle) = Events (bare handle)
call_at f (Suspend state) = Suspend state
call_at f Resume = Resume
call_at f ReleaseBoot = ReleaseBoot

-- the call with rail 0 in the place of the one that it names
abbrev pub without_rail : Call → Call
without_rail call = call_at (λ _. record { 0 = 0 }) call

-- the call without the bytes that its handle's name doesn't use
abbrev pub trimmed_call : Call → Call
trimmed_call call = call_at (λ rail. rail) call

-- a line spells one call with one word: two readings differ in nothing but the rail, which the line doesn't tell
abbrev pub OneSpelling : Type 0
OneSpelling = (line w v : List ℕ) (c d : Call) → Spells w c line → Spells v d line → (w ≡ v) × (without_rail c ≡ without_rail d)

-- the name of the rail that a call names has no such byte
abbrev pub NameLacks : ℕ → (RailId → List ℕ) → Call → Type 0
NameLacks byte name (Open handle rail exclusive) = All (λ b. b ≢ byte) (name rail)
NameLacks byte name _ = Unit {0}
