-- The grammar of devicetree source, and what it sets. A rule is a relation of two lists of tokens: it
-- holds where the first list begins with what the rule names, and the second is what then remains.
use Rattle.std.specs.Prelude.{◌≡◌, ℕ, List, [], ◌∷◌, ◌++◌, true, Option, Some, None}
use Rattle.dts_lex.specs.Class.{is_label}
use Rattle.dts_tree.specs.declared.value.Cell.{Cell}
use Rattle.dts_tree.specs.declared.value.Cell.TheVariants as cell
use Rattle.dts_tree.specs.Value.{Part}
use Rattle.dts_tree.specs.Value as value
use Rattle.dts_tree.specs.Setting.{Label, Path, Root, Labelled, Child, Setting, OpensRoot, Opens, Adds, Sets}
use Rattle.dts_tree.specs.Lexeme.{Lexeme, Version, Semicolon, Colon, Equals, Comma, Slash, Open, Close, Less, Greater, Left, Right, Word, Number, String, Ref, may_name_property, is_bytes, bytes_of}

-- a token as the grammar sees it: what it says, the place where it begins, and what the text sets
-- with it
pub record Told : Type 0 where
  pub lexeme : Lexeme
  pub at : ℕ
  pub sets : Option Setting

-- a token that says this, with which the text sets that
abbrev pub Is : Lexeme → Option Setting → Told → Type 0
Is lexeme sets t = (t.lexeme ≡ lexeme) × (t.sets ≡ sets)

-- {NUMBER | REF} ">"
pub data IsCells : List (Cell Label) → List Told → List Told → Type 0 where
  end : (t : Told) (rest : List Told) → Is Greater None t → IsCells [] (t ∷ rest) rest
  number : (n : ℕ) (cells : List (Cell Label)) (t : Told) (xs rest : List Told) → Is (Number n) None t → IsCells cells xs rest → IsCells (cell.Num n ∷ cells) (t ∷ xs) rest
  ref : (name : List ℕ) (cells : List (Cell Label)) (t : Told) (xs rest : List Told) → Is (Ref name) None t → IsCells cells xs rest → IsCells (cell.Node (record { name = name; at = t.at }) ∷ cells) (t ∷ xs) rest

-- {HEX} "]"
pub data IsBytes : List ℕ → List Told → List Told → Type 0 where
  end : (t : Told) (rest : List Told) → Is Right None t → IsBytes [] (t ∷ rest) rest
  word : (word bytes : List ℕ) (t : Told) (xs rest : List Told) → Is (Word word) None t → is_bytes word ≡ true → IsBytes bytes xs rest → IsBytes (bytes_of word ++ bytes) (t ∷ xs) rest

-- "<" {NUMBER | REF} ">"  |  "[" {HEX} "]"  |  STRING  |  REF
pub data IsPart : Part Label → List Told → List Told → Type 0 where
  cells : (cells : List (Cell Label)) (t : Told) (xs rest : List Told) → Is Less None t → IsCells cells xs rest → IsPart (value.Cells cells) (t ∷ xs) rest
  bytes : (bytes : List ℕ) (t : Told) (xs rest : List Told) → Is Left None t → IsBytes bytes xs rest → IsPart (value.Bytes bytes) (t ∷ xs) rest
  text : (bytes : List ℕ) (t : Told) (rest : List Told) → Is (String bytes) None t → IsPart (value.Text bytes) (t ∷ rest) rest
  ref : (name : List ℕ) (t : Told) (rest : List Told) → Is (Ref name) None t → IsPart (value.Whole (record { name = name; at = t.at })) (t ∷ rest) rest

-- part {"," part} ";", behind these parts of the property's value
pub data IsValue (path : Path) (name : List ℕ) : List (Part Label) → List Told → List Told → Type 0 where
  last : (before : List (Part Label)) (part : Part Label) (t : Told) (xs rest : List Told) → IsPart part xs (t ∷ rest) → Is Semicolon (Some (Sets path name (before ++ part ∷ []))) t → IsValue path name before xs rest
  more : (before : List (Part Label)) (part : Part Label) (t : Told) (xs ys rest : List Told) → IsPart part xs (t ∷ ys) → Is Comma None t → IsValue path name (before ++ part ∷ []) ys rest → IsValue path name before xs rest

-- {LABEL ":"} NAME "{", behind these labels: the child of this name
pub data IsOpening (parent : Path) : List Label → List ℕ → List Told → List Told → Type 0 where
  label : (before : List Label) (word name : List ℕ) (t u : Told) (xs rest : List Told) → Is (Word word) None t → is_label word ≡ true → Is Colon None u → IsOpening parent (before ++ record { name = word; at = t.at } ∷ []) name xs rest → IsOpening parent before name (t ∷ u ∷ xs) rest
  name : (before : List Label) (word : List ℕ) (t u : Told) (rest : List Told) → Is (Word word) None t → Is Open (Some (Opens parent word t.at before)) u → IsOpening parent before word (t ∷ u ∷ rest) rest

-- {NAME ";"  |  NAME "=" part {"," part} ";"  |  {LABEL ":"} NAME body ";"} "}", where a body is "{"
-- and again this: what the node of a path has
pub data AreMembers : Path → List Told → List Told → Type 0 where
  end : (path : Path) (t : Told) (rest : List Told) → Is Close None t → AreMembers path (t ∷ rest) rest
  flag : (path : Path) (word : List ℕ) (t u : Told) (xs rest : List Told) → Is (Word word) None t → may_name_property word ≡ true → Is Semicolon (Some (Sets path word [])) u → AreMembers path xs rest → AreMembers path (t ∷ u ∷ xs) rest
  property : (path : Path) (word : List ℕ) (t u : Told) (xs ys rest : List Told) → Is (Word word) None t → may_name_property word ≡ true → Is Equals None u → IsValue path word [] xs ys → AreMembers path ys rest → AreMembers path (t ∷ u ∷ xs) rest
  node : (path : Path) (name : List ℕ) (t : Told) (xs ys zs rest : List Told) → IsOpening path [] name xs ys → AreMembers (Child path name) ys (t ∷ zs) → Is Semicolon None t → AreMembers path zs rest → AreMembers path xs rest

-- {"/" body ";"  |  REF body ";"}
pub data AreItems : List Told → Type 0 where
  none : AreItems []
  root : (t u v : Told) (xs ys : List Told) → Is Slash None t → Is Open (Some (OpensRoot t.at)) u → AreMembers Root xs (v ∷ ys) → Is Semicolon None v → AreItems ys → AreItems (t ∷ u ∷ xs)
  add : (name : List ℕ) (t u v : Told) (xs ys : List Told) → Is (Ref name) (Some (Adds (record { name = name; at = t.at }))) t → Is Open None u → AreMembers (Labelled name) xs (v ∷ ys) → Is Semicolon None v → AreItems ys → AreItems (t ∷ u ∷ xs)

-- "/dts-v1/" ";" and the items: a whole text
pub data IsFile : List Told → Type 0 where
  file : (t u : Told) (xs : List Told) → Is Version None t → Is Semicolon None u → AreItems xs → IsFile (t ∷ u ∷ xs)
