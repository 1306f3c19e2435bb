-- A machine that takes a text token by token.
use Rattle.std.specs.Prelude.{ℕ, List, [], ◌∷◌, ◌++◌, Bool, true, false, Option, Some, None, if◌then◌else◌}
use Rattle.dts_lex.specs.Class.{is_label}
use Rattle.dts_tree.specs.declared.value.Cell.{Cell}
use Rattle.dts_tree.specs.declared.value.Cell.TheVariants as cell
use Rattle.dts_tree.specs.Value.{Part}
use Rattle.dts_tree.specs.Value as value
use Rattle.dts_tree.specs.Setting.{Label, Path, Root, Labelled, Child, Setting, OpensRoot, Opens, Adds, Sets}
use Rattle.dts_tree.specs.Lexeme.{Lexeme, Version, Semicolon, Colon, Equals, Comma, Slash, Open, Close, Less, Greater, Left, Right, Word, Number, String, Ref, may_name_property, is_bytes, bytes_of}

-- a property whose value is read: its node, the nodes around it, its name, and the parts before
pub record Reading : Type 0 where
  pub path : Path
  pub outer : List Path
  pub name : List ℕ
  pub parts : List (Part Label)

-- where a text stands between two tokens, with the nodes of the open bodies, the innermost first
pub data State : Type 0 where
  Start : State
  Versioned : State
  Between : List Path → State
  Slashed : ℕ → State
  Added : List ℕ → State
  Closed : List Path → State
  Worded : Path → List Path → List ℕ → ℕ → State
  Behind : Path → List Path → List Label → State
  Named : Path → List Path → List Label → List ℕ → ℕ → State
  Valued : Reading → State
  InCells : Reading → List (Cell Label) → State
  InBytes : Reading → List ℕ → State
  Parted : Reading → State

-- where a token leads to, and what the text sets with it
abbrev pub Move : Type 0
Move = State × Option Setting

abbrev pub to : State → Option Move
to state = Some (state, None)

abbrev pub tells : State → Setting → Option Move
tells state setting = Some (state, Some setting)

abbrev pub label_of : List ℕ → ℕ → Label
label_of name at = record { name = name; at = at }

-- behind one more part
abbrev pub with_part : Reading → Part Label → Reading
with_part r part = record { path = r.path; outer = r.outer; name = r.name; parts = r.parts ++ part ∷ [] }

abbrev pub move_named : Path → List Path → List Label → List ℕ → ℕ → Lexeme → Option Move
move_named path outer labels word at Colon = if is_label word then to (Behind path outer (labels ++ label_of word at ∷ [])) else None
move_named path outer labels word at Open = tells (Between (Child path word ∷ path ∷ outer)) (Opens path word at labels)
move_named path outer labels word at _ = None

abbrev pub move_worded : Path → List Path → List ℕ → ℕ → Lexeme → Option Move
move_worded path outer word at Semicolon = if may_name_property word then tells (Between (path ∷ outer)) (Sets path word []) else None
move_worded path outer word at Equals = if may_name_property word then to (Valued (record { path = path; outer = outer; name = word; parts = [] })) else None
move_worded path outer word at Colon = move_named path outer [] word at Colon
move_worded path outer word at Open = move_named path outer [] word at Open
move_worded path outer word at _ = None

abbrev pub move_valued : Reading → Lexeme → ℕ → Option Move
move_valued r Less at = to (InCells r [])
move_valued r Left at = to (InBytes r [])
move_valued r (String bytes) at = to (Parted (with_part r (value.Text bytes)))
move_valued r (Ref name) at = to (Parted (with_part r (value.Whole (label_of name at))))
move_valued r _ at = None

abbrev pub move_cells : Reading → List (Cell Label) → Lexeme → ℕ → Option Move
move_cells r cells Greater at = to (Parted (with_part r (value.Cells cells)))
move_cells r cells (Number n) at = to (InCells r (cells ++ cell.Num n ∷ []))
move_cells r cells (Ref name) at = to (InCells r (cells ++ cell.Node (label_of name at) ∷ []))
move_cells r cells _ at = None

abbrev pub move_bytes : Reading → List ℕ → Lexeme → Option Move
move_bytes r bytes Right = to (Parted (with_part r (value.Bytes bytes)))
move_bytes r bytes (Word word) = if is_bytes word then to (InBytes r (bytes ++ bytes_of word)) else None
move_bytes r bytes _ = None

abbrev pub move_parted : Reading → Lexeme → Option Move
move_parted r Semicolon = tells (Between (r.path ∷ r.outer)) (Sets r.path r.name r.parts)
move_parted r Comma = to (Valued r)
move_parted r _ = None

abbrev pub move_between : List Path → Lexeme → ℕ → Option Move
move_between [] Slash at = to (Slashed at)
move_between [] (Ref name) at = tells (Added name) (Adds (label_of name at))
move_between [] _ at = None
move_between (path ∷ outer) Close at = to (Closed outer)
move_between (path ∷ outer) (Word word) at = to (Worded path outer word at)
move_between (path ∷ outer) _ at = None

-- one sign, and on to a state
abbrev pub move_start : Lexeme → Option Move
move_start Version = to Versioned
move_start _ = None

abbrev pub move_semicolon : State → Lexeme → Option Move
move_semicolon next Semicolon = to next
move_semicolon next _ = None

abbrev pub move_open : State → Option Setting → Lexeme → Option Move
move_open next sets Open = Some (next, sets)
move_open next sets _ = None

abbrev pub move_word : Path → List Path → List Label → Lexeme → ℕ → Option Move
move_word path outer labels (Word word) at = to (Named path outer labels word at)
move_word path outer labels _ at = None

-- what a token at a place leads to, or None where it can't come
unfoldable pub move : State → Lexeme → ℕ → Option Move
move Start lexeme at = move_start lexeme
move Versioned lexeme at = move_semicolon (Between []) lexeme
move (Between bodies) lexeme at = move_between bodies lexeme at
move (Slashed slash) lexeme at = move_open (Between (Root ∷ [])) (Some (OpensRoot slash)) lexeme
move (Added name) lexeme at = move_open (Between (Labelled name ∷ [])) None lexeme
move (Closed bodies) lexeme at = move_semicolon (Between bodies) lexeme
move (Worded path outer word word_at) lexeme at = move_worded path outer word word_at lexeme
move (Behind path outer labels) lexeme at = move_word path outer labels lexeme at
move (Named path outer labels word word_at) lexeme at = move_named path outer labels word word_at lexeme
move (Valued r) lexeme at = move_valued r lexeme at
move (InCells r cells) lexeme at = move_cells r cells lexeme at
move (InBytes r bytes) lexeme at = move_bytes r bytes lexeme
move (Parted r) lexeme at = move_parted r lexeme

-- a text may end between its items
abbrev pub is_whole : State → Bool
is_whole (Between []) = true
is_whole _ = false
