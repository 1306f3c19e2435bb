-- What a line of a script is.
use Rattle.std.specs.Prelude.{ℕ, ◌≡◌, List, Some, None, true}
use Rattle.rows.specs.declared.call.Call.{Call}
use Rattle.rows.specs.declared.call.Call.TheVariants.{Open}
use Rattle.rows.specs.Reading.{Spells, opens}
use Rattle.script.specs.RailNames.{Names, rail_named}

-- the rail of a call that opens a handle is the one that the word names
abbrev pub OpensNamed : Names → List ℕ → Call → Type 0
OpensNamed names word (Open handle rail exclusive) = rail_named names word ≡ Some rail
OpensNamed names word _ = Unit {0}

-- the line spells the call, by a word that names its rail
pub record IsCallOf (names : Names) (line : List ℕ) (call : Call) : Type 0 where
  pub word : List ℕ
  pub spells : Spells word call line
  pub named : OpensNamed names word call

-- no call and word spell the line
abbrev pub IsBad : List ℕ → Type 0
IsBad line = (word : List ℕ) (call : Call) → ¬ Spells word call line

-- the line opens a handle on a rail by a word that names none
pub record OpensNoRail (names : Names) (line : List ℕ) : Type 0 where
  pub word : List ℕ
  pub call : Call
  pub spells : Spells word call line
  pub opens : opens call ≡ true
  pub unnamed : rail_named names word ≡ None
