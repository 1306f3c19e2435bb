-- A line that is read with an empty word, or with one.
use Rattle.std.proofs.Common.{ℕ, ◌≡◌, List, [], true, refl, sym, ap, ◌∙◌}
use Rattle.rows.specs.declared.call.Call.{Call}
use Rattle.rows.specs.declared.call.Call.TheVariants.{Open, Close, Enable, Disable, Set, Load, Get, IsOn, ModeOf, ListSel, Supported, Listen, Events, Suspend, Resume, ReleaseBoot}
use Rattle.rows.specs.Reading.{LacksSpace, NamesBy, opens, OneSpelling, Spells, SpellsLine, without_rail}
use Rattle.rows.proofs.OneSpelling.{one_line}

lacks : (word : List ℕ) (call : Call) → NamesBy call word → LacksSpace call word
lacks word (Open handle rail exclusive) named = named.1
lacks word (Close handle) named = named
lacks word (Enable handle) named = named
lacks word (Disable handle) named = named
lacks word (Set handle lo hi) named = named
lacks word (Load handle ua) named = named
lacks word (Get handle) named = named
lacks word (IsOn handle) named = named
lacks word (ModeOf handle) named = named
lacks word (ListSel handle sel) named = named
lacks word (Supported handle lo hi) named = named
lacks word (Listen handle) named = named
lacks word (Events handle) named = named
lacks word (Suspend state) named = named
lacks word Resume named = named
lacks word ReleaseBoot named = named

pub weaker : (line word : List ℕ) (call : Call) → Spells word call line → SpellsLine word call line
weaker line word call spells = record { is = spells.is; naming = lacks word call spells.naming; spelled = spells.spelled }

opens_still : (call : Call) → opens (without_rail call) ≡ opens call
opens_still (Open handle rail exclusive) = refl
opens_still (Close handle) = refl
opens_still (Enable handle) = refl
opens_still (Disable handle) = refl
opens_still (Set handle lo hi) = refl
opens_still (Load handle ua) = refl
opens_still (Get handle) = refl
opens_still (IsOn handle) = refl
opens_still (ModeOf handle) = refl
opens_still (ListSel handle sel) = refl
opens_still (Supported handle lo hi) = refl
opens_still (Listen handle) = refl
opens_still (Events handle) = refl
opens_still (Suspend state) = refl
opens_still Resume = refl
opens_still ReleaseBoot = refl

named_by_some : (word : List ℕ) (call : Call) → NamesBy call word → opens call ≡ true → word ≡ [] → ⊥
named_by_some word (Open handle rail exclusive) named opening = named.0
named_by_some word (Close handle) named opening = absurd cc
named_by_some word (Enable handle) named opening = absurd cc
named_by_some word (Disable handle) named opening = absurd cc
named_by_some word (Set handle lo hi) named opening = absurd cc
named_by_some word (Load handle ua) named opening = absurd cc
named_by_some word (Get handle) named opening = absurd cc
named_by_some word (IsOn handle) named opening = absurd cc
named_by_some word (ModeOf handle) named opening = absurd cc
named_by_some word (ListSel handle sel) named opening = absurd cc
named_by_some word (Supported handle lo hi) named opening = absurd cc
named_by_some word (Listen handle) named opening = absurd cc
named_by_some word (Events handle) named opening = absurd cc
named_by_some word (Suspend state) named opening = absurd cc
named_by_some word Resume named opening = absurd cc
named_by_some word ReleaseBoot named opening = absurd cc

-- a line that opens a handle on a rail without a name is no call line
pub not_empty : (line read : List ℕ) (call : Call) → SpellsLine read call line → read ≡ [] → opens call ≡ true → (word : List ℕ) (other : Call) → ¬ Spells word other line
not_empty line read call spelled empty opening word other spells =
    let same = one_line line read word call other spelled (weaker line word other spells) in
    named_by_some word other spells.naming (sym (opens_still other) ∙ ap opens (sym same.1) ∙ opens_still call ∙ opening) (sym same.0 ∙ empty)

pub one_spelling : OneSpelling
one_spelling line w v c d first second = one_line line w v c d (weaker line w c first) (weaker line v d second)
