-- A line is told as one thing alone.
use Rattle.std.proofs.Common.{◌≡◌, ℕ, true, false, List, Some, None, sym, ap, ◌∙◌, refl}
use Rattle.board.specs.declared.rail_id.RailId.{RailId}
use Rattle.rows.specs.declared.call.Call.{Call}
use Rattle.rows.specs.declared.call.Call.TheVariants.{Open, Close, Enable, Disable, Set, Load, Get, IsOn, ModeOf, ListSel, Supported, Listen, Events, Suspend, Resume, ReleaseBoot}
use Rattle.rows.specs.Reading.{Spells, OneSpelling, opens, without_rail}
use Rattle.script.specs.RailNames.{Names, rail_named}
use Rattle.script.specs.CallLines.{OpensNamed, IsCallOf, OpensNoRail}

pub opens-without_rail : (call : Call) → opens (without_rail call) ≡ opens call
opens-without_rail (Open handle rail exclusive) = refl
opens-without_rail (Close handle) = refl
opens-without_rail (Enable handle) = refl
opens-without_rail (Disable handle) = refl
opens-without_rail (Set handle lo hi) = refl
opens-without_rail (Load handle ua) = refl
opens-without_rail (Get handle) = refl
opens-without_rail (IsOn handle) = refl
opens-without_rail (ModeOf handle) = refl
opens-without_rail (ListSel handle sel) = refl
opens-without_rail (Supported handle lo hi) = refl
opens-without_rail (Listen handle) = refl
opens-without_rail (Events handle) = refl
opens-without_rail (Suspend state) = refl
opens-without_rail Resume = refl
opens-without_rail ReleaseBoot = refl

-- a call that opens no handle needs no name
named_otherwise : (names : Names) (word : List ℕ) (call : Call) → opens call ≡ false → OpensNamed names word call
named_otherwise names word (Open handle rail exclusive) e = absurd (cc)
named_otherwise names word (Close handle) e = tt
named_otherwise names word (Enable handle) e = tt
named_otherwise names word (Disable handle) e = tt
named_otherwise names word (Set handle lo hi) e = tt
named_otherwise names word (Load handle ua) e = tt
named_otherwise names word (Get handle) e = tt
named_otherwise names word (IsOn handle) e = tt
named_otherwise names word (ModeOf handle) e = tt
named_otherwise names word (ListSel handle sel) e = tt
named_otherwise names word (Supported handle lo hi) e = tt
named_otherwise names word (Listen handle) e = tt
named_otherwise names word (Events handle) e = tt
named_otherwise names word (Suspend state) e = tt
named_otherwise names word Resume e = tt
named_otherwise names word ReleaseBoot e = tt

opened : (names : Names) (word : List ℕ) (call : Call) → opens call ≡ true → OpensNamed names word call → rail_named names word ≡ None → ⊥
opened names word (Open handle rail exclusive) e named none = let clash : Some rail ≡ None = sym named ∙ none in cc
opened names word (Close handle) e named none = cc
opened names word (Enable handle) e named none = cc
opened names word (Disable handle) e named none = cc
opened names word (Set handle lo hi) e named none = cc
opened names word (Load handle ua) e named none = cc
opened names word (Get handle) e named none = cc
opened names word (IsOn handle) e named none = cc
opened names word (ModeOf handle) e named none = cc
opened names word (ListSel handle sel) e named none = cc
opened names word (Supported handle lo hi) e named none = cc
opened names word (Listen handle) e named none = cc
opened names word (Events handle) e named none = cc
opened names word (Suspend state) e named none = cc
opened names word Resume e named none = cc
opened names word ReleaseBoot e named none = cc

-- a line that is a call's opens no unknown rail
pub apart : OneSpelling → (names : Names) (line : List ℕ) (call : Call) → IsCallOf names line call → OpensNoRail names line → ⊥
apart one names line call is other =
    let same = one line is.word other.word call other.call is.spells other.spells in
    let opening : opens call ≡ true = sym (opens-without_rail call) ∙ ap opens same.1 ∙ opens-without_rail other.call ∙ other.opens in
    opened names is.word call opening is.named (ap (rail_named names) same.0 ∙ other.unnamed)

pub named_apart : OneSpelling → (names : Names) (line word : List ℕ) (call : Call) (rail : RailId) → Spells word call line → rail_named names word ≡ Some rail → OpensNoRail names line → ⊥
named_apart one names line word call rail spells named other =
    let same = one line word other.word call other.call spells other.spells in
    let clash : Some rail ≡ None = sym named ∙ ap (rail_named names) same.0 ∙ other.unnamed in
    cc
