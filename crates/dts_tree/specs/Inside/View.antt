-- What a reader of tokens keeps, and what it makes of the next one.
use Rattle.std.specs.Prelude.{ℕ, List, [], ◌∷◌, ◌++◌, Bool, true, false, Option, Some, None, Result, Ok, Err, length, if◌then◌else◌}
use Rattle.std.specs.List.{find}
use Rattle.std.specs.Option.{option_or}
use Rattle.dts_lex.specs.Class.{is_label}
use Rattle.dts_lex.specs.declared.token.Token.{Token}
use Rattle.dts_tree.specs.declared.fault.TreeFault.{TreeFault}
use Rattle.dts_tree.specs.declared.fault.TreeFault.TheVariants.{Syntax, NoLabel}
use Rattle.dts_tree.specs.declared.reading.symbol.Symbol.{Symbol}
use Rattle.dts_tree.specs.declared.reading.symbol.Symbol.TheVariants as symbol
use Rattle.dts_tree.specs.declared.value.Cell.TheVariants as cell
use Rattle.dts_tree.specs.Value.{Part, Cells, Text, Bytes, Whole}
use Rattle.dts_tree.specs.Setting.{Label}
use Rattle.dts_tree.specs.Lexeme.{Lexeme, Version, Semicolon, Colon, Equals, Comma, Slash, Open, Close, Less, Greater, Left, Right, Word, Number, String, Ref, Foreign, lexeme_of, may_name_property, is_bytes, bytes_of}
use Rattle.dts_tree.specs.Content.{Content, nothing, node_of, child_of, or_root, opened, elsewhere, unless_fault}
use Rattle.ordered_map.specs.Entries.{insert_entry}
use Rattle.name_map.specs.NameEntries.{same_name}
use Rattle.dts_tree.specs.Outline.{fault_of}
use Rattle.dts_tree.specs.Outcome.{is_unknown, unless_unknown}
use Rattle.dts_tree.specs.Tree.{Node}
use Rattle.dts_tree.specs.declared.piece.Piece.{Piece}
use Rattle.dts_tree.specs.Inside.Pieces.{with_cell, with_bytes, with_piece, reference_in}
use Rattle.dts_tree.specs.Inside.State.{label_of}

-- the class of a token
abbrev pub symbol_of : Lexeme → Symbol
symbol_of Version = symbol.Version
symbol_of Semicolon = symbol.Semicolon
symbol_of Colon = symbol.Colon
symbol_of Equals = symbol.Equals
symbol_of Comma = symbol.Comma
symbol_of Slash = symbol.Slash
symbol_of Open = symbol.Open
symbol_of Close = symbol.Close
symbol_of Less = symbol.Less
symbol_of Greater = symbol.Greater
symbol_of Left = symbol.Left
symbol_of Right = symbol.Right
symbol_of (Word word) = symbol.Word
symbol_of (Number n) = symbol.Number n
symbol_of (String bytes) = symbol.Text
symbol_of (Ref name) = symbol.Ref
symbol_of Foreign = symbol.Foreign

-- the bytes that a word, a string or a reference says
abbrev pub bytes_said : Lexeme → List ℕ
bytes_said (Word word) = word
bytes_said (String bytes) = bytes
bytes_said (Ref name) = name
bytes_said _ = []

-- where in the grammar a text stands
pub data Spot : Type 0 where
  Start : Spot
  Versioned : Spot
  Inside : Spot
  Slashed : ℕ → Spot
  Added : Spot
  Closed : Spot
  Worded : List ℕ → ℕ → Spot
  Behind : Spot
  Named : List ℕ → ℕ → Spot
  Valued : List ℕ → Spot
  InCells : List ℕ → Spot
  InBytes : List ℕ → Spot
  Parted : List ℕ → Spot

-- the spot; the nodes of the open bodies, the innermost first; the labels of the node that comes next; the
-- parts of the value that is read; the labels in values; and what was set
pub record View : Type 0 where
  pub spot : Spot
  pub bodies : List ℕ
  pub waiting : List Label
  pub parts : List (Part Label)
  pub refs : List Label
  pub content : Content

abbrev pub at_spot : View → Spot → View
at_spot v spot = record v { spot = spot }

-- the node of the innermost open body
abbrev pub here : List ℕ → ℕ
here [] = 0
here (k ∷ ks) = k

abbrev pub outside : List ℕ → List ℕ
outside [] = []
outside (k ∷ ks) = ks

-- the content with this value
abbrev pub set_in : Content → ℕ → List ℕ → List (Part Label) → Content
set_in c node name parts = record c { properties = insert_entry same_name c.properties (node, name) parts }

-- behind a semicolon that sets a property of the innermost node
abbrev pub view_set : View → List ℕ → View
view_set v name = record {
  spot = Inside;
  bodies = v.bodies;
  waiting = v.waiting;
  parts = [];
  refs = v.refs;
  content = set_in v.content (here v.bodies) name v.parts;
}

-- behind the brace of a child of the innermost node
abbrev pub view_opened : View → List ℕ → Content → View
view_opened v name c = record {
  spot = Inside;
  bodies = or_root (child_of c.children (here v.bodies) name) ∷ v.bodies;
  waiting = [];
  parts = v.parts;
  refs = v.refs;
  content = c;
}

abbrev pub open_child : View → List ℕ → ℕ → Result View TreeFault
open_child v name at =
    unless_fault (λ c. Ok (view_opened v name c))
    (opened v.content (here v.bodies) name at v.waiting (elsewhere v.content.labels (child_of v.content.children (here v.bodies) name) v.waiting))

-- behind a reference before a body
abbrev pub view_added : View → ℕ → Option ℕ → Result View TreeFault
view_added v at None = Err (NoLabel at)
view_added v at (Some node) = Ok (record v { spot = Added; bodies = node ∷ v.bodies })

abbrev pub view_with_ref : View → Spot → List (Part Label) → Label → View
view_with_ref v spot parts label = record {
  spot = spot;
  bodies = v.bodies;
  waiting = v.waiting;
  parts = parts;
  refs = v.refs ++ label ∷ [];
  content = v.content;
}

-- one more piece of the value that is read
abbrev pub view_with : View → Spot → Piece Label → View
view_with v at p = record {
  spot = at;
  bodies = v.bodies;
  waiting = v.waiting;
  parts = with_piece v.parts p;
  refs = v.refs ++ reference_in p;
  content = v.content;
}

-- a token by its class, its bytes and its place, and the fault that it is where it can't come
module _ (v : View) (word : List ℕ) (at : ℕ) (wrong : TreeFault) where
  abbrev pub take_start : Symbol → Result View TreeFault
  take_start symbol.Version = Ok (at_spot v Versioned)
  take_start _ = Err wrong

  abbrev pub take_semicolon : Symbol → Result View TreeFault
  take_semicolon symbol.Semicolon = Ok (at_spot v Inside)
  take_semicolon _ = Err wrong

  abbrev pub take_open : Symbol → Result View TreeFault
  take_open symbol.Open = Ok (at_spot v Inside)
  take_open _ = Err wrong

  abbrev pub take_item : Symbol → Result View TreeFault
  take_item symbol.Slash = Ok (at_spot v (Slashed at))
  take_item symbol.Ref = view_added v at (node_of v.content.labels word)
  take_item _ = Err wrong

  abbrev pub take_member : Symbol → Result View TreeFault
  take_member symbol.Close = Ok (record v { spot = Closed; bodies = outside v.bodies })
  take_member symbol.Word = Ok (at_spot v (Worded word at))
  take_member _ = Err wrong

  abbrev pub take_inside : List ℕ → Symbol → Result View TreeFault
  take_inside [] s = take_item s
  take_inside (k ∷ ks) s = take_member s

  abbrev pub take_slashed : ℕ → Symbol → Result View TreeFault
  take_slashed slash symbol.Open = Ok (record v { spot = Inside; bodies = 0 ∷ v.bodies; content = record v.content { root_at = option_or v.content.root_at (Some slash) } })
  take_slashed slash _ = Err wrong

  abbrev pub take_named : List ℕ → ℕ → Symbol → Result View TreeFault
  take_named name name_at symbol.Colon = if is_label name then Ok (record v { spot = Behind; waiting = v.waiting ++ label_of name name_at ∷ [] }) else Err wrong
  take_named name name_at symbol.Open = open_child v name name_at
  take_named name name_at _ = Err wrong

  abbrev pub take_worded : List ℕ → ℕ → Symbol → Result View TreeFault
  take_worded name name_at symbol.Semicolon = if may_name_property name then Ok (view_set v name) else Err wrong
  take_worded name name_at symbol.Equals = if may_name_property name then Ok (at_spot v (Valued name)) else Err wrong
  take_worded name name_at symbol.Colon = take_named name name_at symbol.Colon
  take_worded name name_at symbol.Open = take_named name name_at symbol.Open
  take_worded name name_at _ = Err wrong

  abbrev pub take_behind : Symbol → Result View TreeFault
  take_behind symbol.Word = Ok (at_spot v (Named word at))
  take_behind _ = Err wrong

  abbrev pub take_valued : List ℕ → Symbol → Result View TreeFault
  take_valued name symbol.Less = Ok (record v { spot = InCells name; parts = v.parts ++ Cells [] ∷ [] })
  take_valued name symbol.Left = Ok (record v { spot = InBytes name; parts = v.parts ++ Bytes [] ∷ [] })
  take_valued name symbol.Text = Ok (record v { spot = Parted name; parts = with_bytes (v.parts ++ Text [] ∷ []) word })
  take_valued name symbol.Ref = Ok (view_with_ref v (Parted name) (v.parts ++ Whole (label_of word at) ∷ []) (label_of word at))
  take_valued name _ = Err wrong

  abbrev pub take_cells : List ℕ → Symbol → Result View TreeFault
  take_cells name (symbol.Number n) = Ok (record v { spot = InCells name; parts = with_cell v.parts (cell.Num n) })
  take_cells name symbol.Ref = Ok (view_with_ref v (InCells name) (with_cell v.parts (cell.Node (label_of word at))) (label_of word at))
  take_cells name symbol.Greater = Ok (at_spot v (Parted name))
  take_cells name _ = Err wrong

  abbrev pub take_bytes : List ℕ → Symbol → Result View TreeFault
  take_bytes name symbol.Word = if is_bytes word then Ok (record v { spot = InBytes name; parts = with_bytes v.parts (bytes_of word) }) else Err wrong
  take_bytes name symbol.Right = Ok (at_spot v (Parted name))
  take_bytes name _ = Err wrong

  abbrev pub take_parted : List ℕ → Symbol → Result View TreeFault
  take_parted name symbol.Semicolon = Ok (view_set v name)
  take_parted name symbol.Comma = Ok (at_spot v (Valued name))
  take_parted name _ = Err wrong

  abbrev pub take_at : Spot → Symbol → Result View TreeFault
  take_at Start s = take_start s
  take_at Versioned s = take_semicolon s
  take_at Inside s = take_inside v.bodies s
  take_at (Slashed slash) s = take_slashed slash s
  take_at Added s = take_open s
  take_at Closed s = take_semicolon s
  take_at (Worded name name_at) s = take_worded name name_at s
  take_at Behind s = take_behind s
  take_at (Named name name_at) s = take_named name name_at s
  take_at (Valued name) s = take_valued name s
  take_at (InCells name) s = take_cells name s
  take_at (InBytes name) s = take_bytes name s
  take_at (Parted name) s = take_parted name s

-- what a reader makes of a token
abbrev pub take_token : List ℕ → View → Token → Result View TreeFault
take_token text v t =
    let said = lexeme_of text t in
    take_at v (bytes_said said) t.start (fault_of text t) v.spot (symbol_of said)

-- token by token, up to the first fault
unfoldable pub take_all : List ℕ → View → List Token → Result View TreeFault
take_all text v [] = Ok v
take_all text v (t ∷ ts) = unless_fault (λ next. take_all text next ts) (take_token text v t)

-- before the text
unfoldable pub view_start : View
view_start = record { spot = Start; bodies = []; waiting = []; parts = []; refs = []; content = nothing }

abbrev pub is_inside : Spot → Bool
is_inside Inside = true
is_inside _ = false

abbrev pub is_empty : List ℕ → Bool
is_empty [] = true
is_empty (k ∷ ks) = false

-- a text may end here
abbrev pub may_end : View → Bool
may_end v = if is_inside v.spot then is_empty v.bodies else false

-- at the end of the text
abbrev pub ended : List ℕ → View → Result (List Node) TreeFault
ended text v = if may_end v then unless_unknown v.content (find (is_unknown v.content) v.refs) else Err (Syntax (length text))
