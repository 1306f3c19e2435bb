-- The call lines of a board.
use Rattle.std.proofs.Common.{ℕ, ◌≡◌, ◌≢◌, ◌<◌, ◌≤◌, List, [], length, Bool, false, get_or, Option, None, Some, refl, sym, ap, ◌∙◌, subst, arith, ⊎_elim}
use Rattle.std.specs.Prelude.{All, IfSome, slice_get}
use Rattle.std.proofs.lemmas.Option.{slice_get_cases}
use Rattle.std.proofs.lemmas.List.Elements.{All-nil, All-weaker}
use Rattle.arrayvec.specs.ArrayString.{ArrayString}
use Rattle.board.specs.declared.board.Board.{Board}
use Rattle.board.specs.declared.rail.Rail.{Rail}
use Rattle.board.specs.declared.rail_id.RailId.{RailId}
use Rattle.board.specs.Valid.{HasNames, IsPrinted}
use Rattle.rows.specs.declared.call.Call.{Call}
use Rattle.rows.specs.declared.call.Call.TheVariants.{Open, Close, Enable, Disable, Set, Load, Get, IsOn, ModeOf, ListSel, Supported, Listen, Events, Suspend, Resume, ReleaseBoot}
use Rattle.rows.specs.CallText.{call_text}
use Rattle.rows.specs.Reading.{NameLacks, opens, SpellsLine}
use Rattle.rows.specs.Row.{name_of, rail_name}
use Rattle.rows.specs.RowLine.{IsCallOn}
use Rattle.rows.proofs.OneSpelling.{one_line}
use Rattle.rows.proofs.Separators.{Lacks}

-- the name of a rail is printed
found_lacks : (sep : ℕ) → sep ≤ 32 → (found : Option Rail) → IfSome found (λ rail. All IsPrinted rail.name.bytes) → Lacks sep (name_of found)
found_lacks sep low None printed = All-nil (λ b. b ≢ sep)
found_lacks sep low (Some rail) printed = All-weaker IsPrinted (λ b. b ≢ sep) (λ b is same. omega (arith, is.0)) rail.name.bytes printed

found_of : (P : Rail → Type 0) (rails : List Rail) (at : ℕ) → All P rails → IfSome (slice_get rails at) P
found_of P rails at all =
    ⊎_elim
    (λ (there : (x : Rail) × (at < length rails) × (slice_get rails at ≡ Some x) × (get_or rails at x ≡ x)). rw there.2 (subst P there.3 (all at there.0 there.1)))
    (λ (past : (length rails ≤ at) × (slice_get rails at ≡ None)). rw past.1 tt)
    (slice_get_cases rails at).1

pub rail_lacks : (sep : ℕ) → sep ≤ 32 → (board : Board) → HasNames board → (id : RailId) → Lacks sep (rail_name board id)
rail_lacks sep low board names id = found_lacks sep low (slice_get board.rails id.0) (found_of (λ rail. All IsPrinted rail.name.bytes) board.rails id.0 names.printed)

pub call_name_lacks : (sep : ℕ) → sep ≤ 32 → (board : Board) → HasNames board → (call : Call) → NameLacks sep (rail_name board) call
call_name_lacks sep low board names (Open handle rail exclusive) = rail_lacks sep low board names rail
call_name_lacks sep low board names (Close handle) = tt
call_name_lacks sep low board names (Enable handle) = tt
call_name_lacks sep low board names (Disable handle) = tt
call_name_lacks sep low board names (Set handle lo hi) = tt
call_name_lacks sep low board names (Load handle ua) = tt
call_name_lacks sep low board names (Get handle) = tt
call_name_lacks sep low board names (IsOn handle) = tt
call_name_lacks sep low board names (ModeOf handle) = tt
call_name_lacks sep low board names (ListSel handle sel) = tt
call_name_lacks sep low board names (Supported handle lo hi) = tt
call_name_lacks sep low board names (Listen handle) = tt
call_name_lacks sep low board names (Events handle) = tt
call_name_lacks sep low board names (Suspend state) = tt
call_name_lacks sep low board names Resume = tt
call_name_lacks sep low board names ReleaseBoot = tt

-- the word that names the rail of a call
abbrev pub word_of : Board → Call → List ℕ
word_of board (Open handle rail exclusive) = rail_name board rail
word_of board (Close handle) = []
word_of board (Enable handle) = []
word_of board (Disable handle) = []
word_of board (Set handle lo hi) = []
word_of board (Load handle ua) = []
word_of board (Get handle) = []
word_of board (IsOn handle) = []
word_of board (ModeOf handle) = []
word_of board (ListSel handle sel) = []
word_of board (Supported handle lo hi) = []
word_of board (Listen handle) = []
word_of board (Events handle) = []
word_of board (Suspend state) = []
word_of board Resume = []
word_of board ReleaseBoot = []

pub spells_on : (board : Board) → HasNames board → (call : Call) (text : List ℕ) → IsCallOn board call text → SpellsLine (word_of board call) call text
spells_on board names (Open handle rail exclusive) text on = record { is = on.is; naming = rail_lacks 32 (omega arith) board names rail; spelled = on.spelled }
spells_on board names (Close handle) text on = record { is = on.is; naming = refl; spelled = on.spelled }
spells_on board names (Enable handle) text on = record { is = on.is; naming = refl; spelled = on.spelled }
spells_on board names (Disable handle) text on = record { is = on.is; naming = refl; spelled = on.spelled }
spells_on board names (Set handle lo hi) text on = record { is = on.is; naming = refl; spelled = on.spelled }
spells_on board names (Load handle ua) text on = record { is = on.is; naming = refl; spelled = on.spelled }
spells_on board names (Get handle) text on = record { is = on.is; naming = refl; spelled = on.spelled }
spells_on board names (IsOn handle) text on = record { is = on.is; naming = refl; spelled = on.spelled }
spells_on board names (ModeOf handle) text on = record { is = on.is; naming = refl; spelled = on.spelled }
spells_on board names (ListSel handle sel) text on = record { is = on.is; naming = refl; spelled = on.spelled }
spells_on board names (Supported handle lo hi) text on = record { is = on.is; naming = refl; spelled = on.spelled }
spells_on board names (Listen handle) text on = record { is = on.is; naming = refl; spelled = on.spelled }
spells_on board names (Events handle) text on = record { is = on.is; naming = refl; spelled = on.spelled }
spells_on board names (Suspend state) text on = record { is = on.is; naming = refl; spelled = on.spelled }
spells_on board names Resume text on = record { is = on.is; naming = refl; spelled = on.spelled }
spells_on board names ReleaseBoot text on = record { is = on.is; naming = refl; spelled = on.spelled }

-- no other call names the rail that isn't there
module _ (board : Board) (names : HasNames board) (text word : List ℕ) (handle : ArrayString) (rail : RailId) (exclusive : Bool) (read : SpellsLine word (Open handle rail exclusive) text) where
  pub on_none : ((id : RailId) → id.0 < length board.rails → rail_name board id ≢ word) → (call : Call) → ¬ IsCallOn board call text
  on_none none (Open handle2 rail2 exclusive2) on =
      none rail2 on.rail (sym (one_line text word (rail_name board rail2) (Open handle rail exclusive) (Open handle2 rail2 exclusive2) read (spells_on board names (Open handle2 rail2 exclusive2) text on)).0)
  on_none none (Close handle2) on = let same = one_line text word [] (Open handle rail exclusive) (Close handle2) read (spells_on board names (Close handle2) text on) in absurd (let e = same.1 in cc)
  on_none none (Enable handle2) on = let same = one_line text word [] (Open handle rail exclusive) (Enable handle2) read (spells_on board names (Enable handle2) text on) in absurd (let e = same.1 in cc)
  on_none none (Disable handle2) on = let same = one_line text word [] (Open handle rail exclusive) (Disable handle2) read (spells_on board names (Disable handle2) text on) in absurd (let e = same.1 in cc)
  on_none none (Set handle2 lo hi) on = let same = one_line text word [] (Open handle rail exclusive) (Set handle2 lo hi) read (spells_on board names (Set handle2 lo hi) text on) in absurd (let e = same.1 in cc)
  on_none none (Load handle2 ua) on = let same = one_line text word [] (Open handle rail exclusive) (Load handle2 ua) read (spells_on board names (Load handle2 ua) text on) in absurd (let e = same.1 in cc)
  on_none none (Get handle2) on = let same = one_line text word [] (Open handle rail exclusive) (Get handle2) read (spells_on board names (Get handle2) text on) in absurd (let e = same.1 in cc)
  on_none none (IsOn handle2) on = let same = one_line text word [] (Open handle rail exclusive) (IsOn handle2) read (spells_on board names (IsOn handle2) text on) in absurd (let e = same.1 in cc)
  on_none none (ModeOf handle2) on = let same = one_line text word [] (Open handle rail exclusive) (ModeOf handle2) read (spells_on board names (ModeOf handle2) text on) in absurd (let e = same.1 in cc)
  on_none none (ListSel handle2 sel) on = let same = one_line text word [] (Open handle rail exclusive) (ListSel handle2 sel) read (spells_on board names (ListSel handle2 sel) text on) in absurd (let e = same.1 in cc)
  on_none none (Supported handle2 lo hi) on = let same = one_line text word [] (Open handle rail exclusive) (Supported handle2 lo hi) read (spells_on board names (Supported handle2 lo hi) text on) in absurd (let e = same.1 in cc)
  on_none none (Listen handle2) on = let same = one_line text word [] (Open handle rail exclusive) (Listen handle2) read (spells_on board names (Listen handle2) text on) in absurd (let e = same.1 in cc)
  on_none none (Events handle2) on = let same = one_line text word [] (Open handle rail exclusive) (Events handle2) read (spells_on board names (Events handle2) text on) in absurd (let e = same.1 in cc)
  on_none none (Suspend state) on = let same = one_line text word [] (Open handle rail exclusive) (Suspend state) read (spells_on board names (Suspend state) text on) in absurd (let e = same.1 in cc)
  on_none none Resume on = let same = one_line text word [] (Open handle rail exclusive) Resume read (spells_on board names Resume text on) in absurd (let e = same.1 in cc)
  on_none none ReleaseBoot on = let same = one_line text word [] (Open handle rail exclusive) ReleaseBoot read (spells_on board names ReleaseBoot text on) in absurd (let e = same.1 in cc)

  pub on_found : (id : RailId) → id.0 < length board.rails → length board.rails ≤ 65535 → rail_name board id ≡ word → IsCallOn board (Open handle id exclusive) text
  on_found id there few same = record {
    is = (read.is.0, omega arith);
    rail = there;
    spelled = read.spelled ∙ ap (λ w. call_text (λ _. w) (Open handle rail exclusive)) (sym same);
  }

-- a call that opens nothing has one line on all boards
pub on_other : (board : Board) (call : Call) (word text : List ℕ) → opens call ≡ false → SpellsLine word call text → IsCallOn board call text
on_other board (Open handle rail exclusive) word text other read = absurd (let e = other in cc)
on_other board (Close handle) word text other read = record { is = read.is; rail = tt; spelled = read.spelled }
on_other board (Enable handle) word text other read = record { is = read.is; rail = tt; spelled = read.spelled }
on_other board (Disable handle) word text other read = record { is = read.is; rail = tt; spelled = read.spelled }
on_other board (Set handle lo hi) word text other read = record { is = read.is; rail = tt; spelled = read.spelled }
on_other board (Load handle ua) word text other read = record { is = read.is; rail = tt; spelled = read.spelled }
on_other board (Get handle) word text other read = record { is = read.is; rail = tt; spelled = read.spelled }
on_other board (IsOn handle) word text other read = record { is = read.is; rail = tt; spelled = read.spelled }
on_other board (ModeOf handle) word text other read = record { is = read.is; rail = tt; spelled = read.spelled }
on_other board (ListSel handle sel) word text other read = record { is = read.is; rail = tt; spelled = read.spelled }
on_other board (Supported handle lo hi) word text other read = record { is = read.is; rail = tt; spelled = read.spelled }
on_other board (Listen handle) word text other read = record { is = read.is; rail = tt; spelled = read.spelled }
on_other board (Events handle) word text other read = record { is = read.is; rail = tt; spelled = read.spelled }
on_other board (Suspend state) word text other read = record { is = read.is; rail = tt; spelled = read.spelled }
on_other board Resume word text other read = record { is = read.is; rail = tt; spelled = read.spelled }
on_other board ReleaseBoot word text other read = record { is = read.is; rail = tt; spelled = read.spelled }

-- where nothing is read, no call has the line
pub on_nothing : (board : Board) → HasNames board → (text : List ℕ) → ((word : List ℕ) (call : Call) → ¬ SpellsLine word call text) → (call : Call) → ¬ IsCallOn board call text
on_nothing board names text none call on = none (word_of board call) call (spells_on board names call text on)
