-- A reader of tokens, as it is kept.
use Rattle.std.specs.Prelude.{◌≡◌, ◌≢◌, ℕ, ◌+◌, ◌-◌, ◌<◌, ◌≤◌, List, [], ◌∷◌, Result, Ok, Err, map, length, drop, reverse, slice_range}
use Rattle.std.specs.List.{AllByRecursion}
use Rattle.dts_lex.specs.declared.token.Token.{Token}
use Rattle.dts_tree.specs.declared.fault.TreeFault.{TreeFault}
use Rattle.dts_tree.specs.declared.fault.TreeFault.TheVariants.{Memory}
use Rattle.dts_tree.specs.declared.piece.Piece.{Piece}
use Rattle.dts_tree.specs.declared.piece.Place.{Place}
use Rattle.dts_tree.specs.declared.reading.reader.Reader.{Reader}
use Rattle.dts_tree.specs.declared.reading.spot.Spot.{Spot}
use Rattle.dts_tree.specs.declared.reading.spot.Spot.TheVariants as spot
use Rattle.dts_tree.specs.declared.reading.symbol.Symbol.{Symbol}
use Rattle.dts_tree.specs.declared.reading.symbol.Symbol.TheVariants as symbol
use Rattle.dts_tree.specs.declared.store.Store.{Store}
use Rattle.dts_tree.specs.declared.store.Opened.{Opened}
use Rattle.name_map.specs.NameEntries.{size_of}
use Rattle.dts_tree.specs.Lexeme.{unescaped}
use Rattle.dts_tree.specs.Setting.{Label}
use Rattle.dts_tree.specs.Value.{part_by}
use Rattle.dts_tree.specs.Outline.{fault_of}
use Rattle.dts_tree.specs.Inside.Pieces.{parts_of, label_at}
use Rattle.dts_tree.specs.Inside.Stored.{content_of, labels_kept}
use Rattle.dts_tree.specs.Inside.View.{View}
use Rattle.dts_tree.specs.Inside.View as view

-- the bytes of a word
abbrev pub name_in : List ℕ → Token → List ℕ
name_in text t = slice_range text t.start t.end

abbrev pub spot_of : List ℕ → Spot → view.Spot
spot_of text spot.Start = view.Start
spot_of text spot.Versioned = view.Versioned
spot_of text spot.Inside = view.Inside
spot_of text (spot.Slashed at) = view.Slashed at
spot_of text spot.Added = view.Added
spot_of text spot.Closed = view.Closed
spot_of text (spot.Worded t) = view.Worded (name_in text t) t.start
spot_of text spot.Behind = view.Behind
spot_of text (spot.Named t) = view.Named (name_in text t) t.start
spot_of text (spot.Valued t) = view.Valued (name_in text t)
spot_of text (spot.InCells t) = view.InCells (name_in text t)
spot_of text (spot.InBytes t) = view.InBytes (name_in text t)
spot_of text (spot.Parted t) = view.Parted (name_in text t)

-- a label that waits for its node
abbrev pub label_in : List ℕ → Token → Label
label_in text t = record { name = name_in text t; at = t.start }

-- what the reader of a text keeps
abbrev pub view_by : List ℕ → Spot → List ℕ → List Token → ℕ → List (Piece Place) → Store → View
view_by text at bodies waiting from pieces store = record {
  spot = spot_of text at;
  bodies = reverse bodies;
  waiting = map (label_in text) waiting;
  parts = map (part_by (label_at text)) (parts_of (drop from pieces));
  refs = labels_kept text pieces;
  content = content_of text pieces store;
}

abbrev pub view_of : List ℕ → Reader → View
view_of text r = view_by text r.spot r.bodies.items r.waiting.items r.from r.pieces.items r.store

-- the bytes that a token says, by its class and its bytes
abbrev pub said_word : Symbol → List ℕ → List ℕ
said_word symbol.Text inner = unescaped inner
said_word symbol.Word inner = inner
said_word symbol.Ref inner = inner
said_word _ inner = []

-- what a reader makes of a token by its bytes, its place, the fault that it is where it can't come, and its
-- class
abbrev pub Taking : Type 0
Taking = View → List ℕ → ℕ → TreeFault → Symbol → Result View TreeFault

-- what a reader should come to by a token with these bytes
abbrev pub asked : List ℕ → List ℕ → Token → Symbol → Reader → Taking → Result View TreeFault
asked text inner token s r take = take (view_of text r) (said_word s inner) token.start (fault_of text token) s

-- a token lies in the text
abbrev pub IsIn : List ℕ → Token → Type 0
IsIn text t = (t.start < t.end) × (t.end ≤ length text)

-- the bytes of a word or of a reference of this class
abbrev pub IsInner : List ℕ → List ℕ → Token → Symbol → Type 0
IsInner text inner t s = (s ≡ symbol.Word → inner ≡ name_in text t) × (s ≡ symbol.Ref → inner ≡ slice_range text (t.start + 1) t.end)

-- each parent is numbered before its child, where the first of these children is number k + 1
abbrev pub EarlierFrom : ℕ → List ((ℕ × List ℕ) × Opened) → Type 0
EarlierFrom k [] = Unit {0}
EarlierFrom k (e ∷ es) = (e.0.0 ≤ k) × EarlierFrom (k + 1) es

-- numbers are those of nodes that are there, and pieces those that are there
pub record Held (first : ℕ) (pieces : List (Piece Place)) (open_ : List ℕ) (store : Store) : Type 0 where
  pub from : first ≤ length pieces
  pub bodies : AllByRecursion (λ k. k ≤ length store.children) open_
  pub earlier : EarlierFrom 0 store.children
  pub labels : AllByRecursion (λ e. e.1 ≤ length store.children) store.labels
  pub owners : AllByRecursion (λ e. e.0.0 ≤ length store.children) store.properties
  pub ranges : AllByRecursion (λ e. e.1.to ≤ length pieces) store.properties

abbrev pub Kept : Reader → Type 0
Kept r = Held r.from r.pieces.items r.bodies.items r.store

-- how many bytes a text has in a name that isn't put yet, and one more once it has begun
abbrev pub pending : Spot → ℕ
pending spot.Start = 0
pending spot.Versioned = 1
pending spot.Inside = 1
pending (spot.Slashed at) = 1
pending spot.Added = 1
pending spot.Closed = 1
pending (spot.Worded t) = t.end - t.start + 1
pending spot.Behind = 1
pending (spot.Named t) = t.end - t.start + 1
pending (spot.Valued t) = t.end - t.start + 1
pending (spot.InCells t) = t.end - t.start + 1
pending (spot.InBytes t) = t.end - t.start + 1
pending (spot.Parted t) = t.end - t.start + 1

-- how many bytes it has in labels that wait for their node, with one more for each
abbrev pub waiting_size : List Token → ℕ
waiting_size [] = 0
waiting_size (t ∷ ts) = t.end - t.start + 1 + waiting_size ts

-- the names that were put and those that weren't yet are among so many bytes
abbrev pub Counted : ℕ → Reader → Type 0
Counted n r = (size_of r.store.children + pending r.spot ≤ n) × (size_of r.store.properties + pending r.spot ≤ n) × (size_of r.store.labels + waiting_size r.waiting.items + pending r.spot ≤ n)

-- the reader has come to what was expected, by the bytes up to this place
pub record Went (expected : Result View TreeFault) (text : List ℕ) (end : ℕ) (new : Reader) : Type 0 where
  pub view : expected ≡ Ok (view_of text new)
  pub kept : Kept new
  pub counted : Counted end new

-- a reader may take a token of this class with these bytes
pub record Ready (text bytes : List ℕ) (t : Token) (s : Symbol) (r : Reader) : Type 0 where
  pub kept : Kept r
  pub token : IsIn text t
  pub fits : t.end < 4294967296
  pub inner : IsInner text bytes t s
  pub counted : Counted t.start r

-- it took the token as it should
abbrev pub Took : List ℕ → List ℕ → Token → Symbol → Reader → Reader → Taking → Type 0
Took text inner t s old new take = Went (asked text inner t s old take) text t.end new

-- it failed as it should
abbrev pub Failed : List ℕ → List ℕ → Token → Symbol → Reader → Taking → TreeFault → Type 0
Failed text inner t s old take fault = fault ≢ Memory → asked text inner t s old take ≡ Err fault
