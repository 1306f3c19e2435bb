-- What may still come in each state of a text.
use Rattle.std.specs.Prelude.{◌≡◌, ◌⊎◌, ◌↔◌, ℕ, List, [], ◌∷◌, ◌++◌, true, Option, Some, None}
use Rattle.dts_lex.specs.Class.{is_label}
use Rattle.dts_tree.specs.declared.value.Cell.{Cell}
use Rattle.dts_tree.specs.Value.{Part}
use Rattle.dts_tree.specs.Value as value
use Rattle.dts_tree.specs.Setting.{Label, Path, Root, Labelled, Child, OpensRoot, Opens, Sets}
use Rattle.dts_tree.specs.Lexeme.{Semicolon, Colon, Equals, Comma, Open, may_name_property}
use Rattle.dts_tree.specs.Grammar.{Told, Is, IsCells, IsBytes, IsValue, IsOpening, AreMembers, AreItems, IsFile}
use Rattle.dts_tree.specs.Inside.State.{Reading, State, Start, Versioned, Between, Slashed, Added, Closed, Worded, Behind, Named, Valued, InCells, InBytes, Parted, Move, label_of, with_part}

-- one token, and then what may come behind it
abbrev pub Then : (Told → Type 0) → (List Told → Type 0) → List Told → Type 0
Then P Others [] = ⊥
Then P Others (t ∷ ts) = P t × Others ts

-- between the members of the innermost of these bodies; between items where none is open
abbrev pub Inside : List Path → List Told → Type 0
Inside [] ts = AreItems ts
Inside (path ∷ outer) ts = (t : Told) × (rest : List Told) × AreMembers path ts (t ∷ rest) × Is Semicolon None t × Inside outer rest

-- behind the = or a comma of a property
abbrev pub ValueThen : Reading → List Told → Type 0
ValueThen r ts = (rest : List Told) × IsValue r.path r.name r.parts ts rest × Inside (r.path ∷ r.outer) rest

-- behind a part of a property's value
abbrev pub PartThen : Reading → List Told → Type 0
PartThen r [] = ⊥
PartThen r (t ∷ ts) = (Is Semicolon (Some (Sets r.path r.name r.parts)) t × Inside (r.path ∷ r.outer) ts) ⊎ (Is Comma None t × ValueThen r ts)

-- among cells, behind these
abbrev pub CellsThen : Reading → List (Cell Label) → List Told → Type 0
CellsThen r before ts = (cells : List (Cell Label)) × (rest : List Told) × IsCells cells ts rest × PartThen (with_part r (value.Cells (before ++ cells))) rest

-- among bytes, behind these
abbrev pub BytesThen : Reading → List ℕ → List Told → Type 0
BytesThen r before ts = (bytes : List ℕ) × (rest : List Told) × IsBytes bytes ts rest × PartThen (with_part r (value.Bytes (before ++ bytes))) rest

-- behind these labels
abbrev pub OpeningThen : Path → List Path → List Label → List Told → Type 0
OpeningThen path outer labels ts = (name : List ℕ) × (rest : List Told) × IsOpening path labels name ts rest × Inside (Child path name ∷ path ∷ outer) rest

-- behind a word that is a label, where it has the form of one, or the name of a node
abbrev pub NamedThen : Path → List Path → List Label → List ℕ → ℕ → List Told → Type 0
NamedThen path outer labels word at [] = ⊥
NamedThen path outer labels word at (t ∷ ts) =
    ((is_label word ≡ true) × Is Colon None t × OpeningThen path outer (labels ++ label_of word at ∷ []) ts)
    ⊎ (Is Open (Some (Opens path word at labels)) t × Inside (Child path word ∷ path ∷ outer) ts)

-- behind a word that may be the name of a property too
abbrev pub WordedThen : Path → List Path → List ℕ → ℕ → List Told → Type 0
WordedThen path outer word at [] = ⊥
WordedThen path outer word at (t ∷ ts) =
    ((may_name_property word ≡ true) × Is Semicolon (Some (Sets path word [])) t × Inside (path ∷ outer) ts)
    ⊎ (((may_name_property word ≡ true) × Is Equals None t × ValueThen (record { path = path; outer = outer; name = word; parts = [] }) ts)
    ⊎ NamedThen path outer [] word at (t ∷ ts))

-- what may come in a state
abbrev pub Rest : State → List Told → Type 0
Rest Start ts = IsFile ts
Rest Versioned ts = Then (Is Semicolon None) AreItems ts
Rest (Between bodies) ts = Inside bodies ts
Rest (Slashed slash) ts = Then (Is Open (Some (OpensRoot slash))) (Inside (Root ∷ [])) ts
Rest (Added name) ts = Then (Is Open None) (Inside (Labelled name ∷ [])) ts
Rest (Closed bodies) ts = Then (Is Semicolon None) (Inside bodies) ts
Rest (Worded path outer word at) ts = WordedThen path outer word at ts
Rest (Behind path outer labels) ts = OpeningThen path outer labels ts
Rest (Named path outer labels word at) ts = NamedThen path outer labels word at ts
Rest (Valued r) ts = ValueThen r ts
Rest (InCells r cells) ts = CellsThen r cells ts
Rest (InBytes r bytes) ts = BytesThen r bytes ts
Rest (Parted r) ts = PartThen r ts

-- a token is answered rightly where others came before: none may come there, or the text sets that with it
-- and the rest is what may come in the next state
abbrev pub Follows : (List Told → Type 0) → Told → List Told → Option Move → Type 0
Follows Others t ts None = Others (t ∷ ts) → ⊥
Follows Others t ts (Some m) = Others (t ∷ ts) ↔ ((t.sets ≡ m.1) × Rest m.0 ts)
