-- A fault tells of the first piece that can't be read.
use Rattle.std.proofs.Common.{◌≡◌, ◌≢◌, ℕ, ◌+◌, ◌<◌, ◌≤◌, List, [], ◌∷◌, ◌++◌, Bool, true, false, cond, eqb, length, take, drop, Ok, Err, refl, sym, ap, ◌∙◌, inl, inr, ⊎_elim, arith, length-append, slice_index, slice_range, codes}
use Rattle.std.specs.List.{prefix_len}
use Rattle.std.proofs.Math.Seq.{get_or-append_seam}
use Rattle.std.proofs.lemmas.Bool.{ne_eqb}
use Rattle.std.proofs.lemmas.List.{length-take-le, take-append-drop, append-nil, drop_more}
use Rattle.std.proofs.lemmas.Result.{IfOk-at_ok, IfErr-at_err}
use Rattle.dts_lex.specs.declared.fault.LexFault.{LexFault}
use Rattle.dts_lex.specs.declared.fault.LexFault.TheVariants.{BadChar, Unclosed, NumberTooWide, Memory}
use Rattle.dts_lex.specs.declared.number.NumberFault.TheVariants.{Malformed, TooWide}
use Rattle.dts_lex.specs.declared.number.NumberFault.{NumberFault}
use Rattle.dts_lex.specs.declared.token.Kind.{Kind}
use Rattle.dts_lex.specs.declared.token.Kind.TheVariants as kinds
use Rattle.dts_lex.specs.declared.token.Token.{Token}
use Rattle.dts_lex.specs.declared.class.Class.TheVariants as class
use Rattle.dts_lex.specs.declared.piece.Piece.{Piece}
use Rattle.dts_lex.specs.declared.piece.Piece.TheVariants as piece
use Rattle.dts_lex.specs.Bytes.{is_blank, is_sign}
use Rattle.dts_lex.specs.Class.{has}
use Rattle.dts_lex.specs.Piece.{piece_at}
use Rattle.dts_lex.specs.Lex.{is_the_sign, ends_part, comma_alone, in_cells, lexed}
use Rattle.dts_lex.specs.Faults.{HasToCount, Stops, Tells}
use Rattle.dts_lex.proofs.PieceLemmas.{end_of}
use Rattle.dts_lex.proofs.LexLemmas.{comma_alone_push, in_cells_push, Remains, remains_start, remains_gap, remains_token, remains_end}
use Rattle.dts_lex.proofs.FrontLemmas.{Parts, IsNotLast, index_same, piece_same}
use Rattle.dts_lex.proofs.FaultLemmas.{Uncounted, StopsAt, piece_stops}
use Rattle.dts_lex.proofs.SpellingLemmas.{is_read_of}
use Rattle.dts_lex.proofs.CellsLemmas.{Cells}
use Rattle.dts_lex.proofs.ReadingLemmas.{Read, Read-none, goes_on}
use Rattle.dts_lex.proofs.WalkLemmas.{piece_behind, FaultAt, GoesOn, Closes, walk_err}

-- another text is read up to a place as this one is, with the same tokens
record Follows (text other : List ℕ) (before : List Token) (at : ℕ) : Type 0 where
  left : Remains other before at
  comma : comma_alone other before ≡ comma_alone text before
  cells : in_cells other before ≡ in_cells text before

Follows-none : (text other : List ℕ) → Follows text other [] 0
unfolding comma_alone in_cells
Follows-none text other = record { left = remains_start other; comma = refl; cells = refl }

module _ (text : List ℕ) (to : ℕ) (within : to ≤ length text) (rest : List ℕ) (parts : Parts (drop to text) rest) where
  -- the text up to a place, and other bytes behind it
  abbrev cut : List ℕ
  cut = take to text ++ rest

  cut_size : length (take to text) ≡ to
  cut_size = length-take-le to text within

  cut_long : to ≤ length cut
  cut_long = omega (arith, cut_size, length-append (take to text) rest)

  same_index : (i : ℕ) → i < to → slice_index cut i ≡ slice_index text i
  same_index i inside = index_same (take to text) (drop to text) rest parts i (omega (arith, inside, cut_size)) ∙ ap (λ xs. slice_index xs i) (take-append-drop to text)

  same_piece : (before : List Token) (at : ℕ) (p : Piece) → at < to → end_of p ≤ to → IsNotLast p → Follows text cut before at → piece_behind text before at ≡ Ok p → Ok p ≡ piece_behind cut before at
  same_piece before at p inside short goes_on follows is =
      let comma = comma_alone text before in
      let cells = in_cells text before in
      let whole : piece_at (take to text ++ drop to text) comma cells at ≡ Ok p = ap (λ xs. piece_at xs comma cells at) (take-append-drop to text) ∙ is in
      let same = IfOk-at_ok (λ q. IsNotLast q → end_of q ≤ length (take to text) → piece_at cut comma cells at ≡ Ok q) whole (piece_same (take to text) (drop to text) rest parts comma cells at (omega (arith, inside, cut_size))) in
      sym (rw (follows.comma, follows.cells) (same goes_on (omega (arith, short, cut_size))))

  follows_gap : (before : List Token) (at end : ℕ) → at < end → end ≤ to → Follows text cut before at → piece_behind text before at ≡ Ok (piece.Gap end) → Follows text cut before end
  follows_gap before at end forward short follows is =
      let found = same_piece before at (piece.Gap end) (omega (arith, forward, short)) short tt follows is in
      record { left = remains_gap cut before at end (omega (arith, forward, short, cut_long)) forward follows.left found; comma = follows.comma; cells = follows.cells }

  follows_token : (before : List Token) (at end : ℕ) (kind : Kind) → at < end → end ≤ to → Follows text cut before at → piece_behind text before at ≡ Ok (piece.Token kind end) → Follows text cut (before ++ record { kind = kind; start = at; end = end } ∷ []) end
  follows_token before at end kind forward short follows is =
      let t : Token = record { kind = kind; start = at; end = end } in
      let found = same_piece before at (piece.Token kind end) (omega (arith, forward, short)) short tt follows is in
      let first = same_index at (omega (arith, forward, short)) in
      record {
        left = remains_token cut before at end (omega (arith, forward, short, cut_long)) forward follows.left kind found;
        comma = comma_alone_push cut before t ∙ ap (ends_part kind) first ∙ sym (comma_alone_push text before t);
        cells = in_cells_push cut before t ∙ ap (λ b. cond (is_the_sign 60 kind b) true (cond (is_the_sign 62 kind b) false (in_cells cut before))) first ∙ ap (λ b. cond (is_the_sign 60 kind (slice_index text at)) true (cond (is_the_sign 62 kind (slice_index text at)) false b)) follows.cells ∙ sym (in_cells_push text before t);
      }

module _ (text : List ℕ) where
  -- what holds before a place: the tokens stand, and a text that is cut behind it is read so far
  record Held (before : List Token) (at : ℕ) : Type 0 where
    read : Read text before
    follows : (to : ℕ) → at ≤ to → to ≤ length text → (rest : List ℕ) → Parts (drop to text) rest → Follows text (take to text ++ rest) before at

  held_none : Held [] 0
  held_none = record { read = Read-none text; follows = λ to past within rest parts. Follows-none text (take to text ++ rest) }

  held_goes_on : GoesOn text Held
  held_goes_on = record {
    gap = λ before at end inside forward within h is. record {
      read = h.read;
      follows = λ to past short rest parts. follows_gap text to short rest parts before at end forward past (h.follows to (omega (arith, forward, past)) short rest parts) is;
    };
    token = λ before at end kind inside forward within h is. record {
      read = (goes_on text).token before at end kind inside forward within h.read is;
      follows = λ to past short rest parts. follows_token text to short rest parts before at end kind forward past (h.follows to (omega (arith, forward, past)) short rest parts) is;
    };
  }

  held_closes : Closes text Held (λ _. Unit {0})
  held_closes = record { last = λ before at end kind inside forward within h is. tt; all = λ before at past h. tt }

  held_fault : (fault : LexFault) → lexed text ≡ Err fault → FaultAt text Held fault
  held_fault fault is = walk_err text Held (λ _. Unit {0}) held_goes_on held_closes held_none fault is

-- no fault is at a newline
no_newline : (text : List ℕ) (comma_alone cells : Bool) (at : ℕ) (fault : LexFault) → piece_at text comma_alone cells at ≡ Err fault → slice_index text at ≢ 10
unfolding piece_at is_blank
no_newline text comma_alone cells at fault is newline =
    let gap : piece_at text comma_alone cells at ≡ Ok (piece.Gap (at + 1)) = rw newline refl in
    let wrong : Ok (piece.Gap (at + 1)) ≡ Err fault = sym gap ∙ is in
    absurd (cc)

-- so a comment to the end of the line would go on there
line_goes_on : (text : List ℕ) (at : ℕ) → at < length text → slice_index text at ≢ 10 → prefix_len (has class.Line) (drop at text) ≢ 0
unfolding has
line_goes_on text at inside other none =
    let first = drop_more text at 0 inside in
    let goes : eqb (slice_index text at) 10 ≡ false = ne_eqb (slice_index text at) 10 other in
    let more : prefix_len (has class.Line) (drop at text) ≡ 1 + prefix_len (has class.Line) (drop (at + 1) text) = rw (first, goes) refl in
    absurd (omega (arith, none, more))

-- nothing, or a semicolon, lengthens no run
parts_nothing : (back : List ℕ) → prefix_len (has class.Line) back ≢ 0 → Parts back []
parts_nothing back line = record { word = refl; label = refl; directive = refl; no_slash = refl; no_star = refl; line = line }

parts_semicolon : (back : List ℕ) → prefix_len (has class.Line) back ≢ 0 → Parts back (codes ";")
unfolding has
parts_semicolon back line = record { word = refl; label = refl; directive = refl; no_slash = refl; no_star = refl; line = line }

-- a semicolon is a sign
semicolon : (text : List ℕ) (comma_alone cells : Bool) (at : ℕ) → slice_index text at ≡ 59 → Ok (piece.Token kinds.Sign (at + 1)) ≡ piece_at text comma_alone cells at
unfolding piece_at is_blank is_sign
semicolon text comma_alone cells at is = rw is refl

-- a word that has to be a number, in the words of the tokens before it
has_to_count : (text : List ℕ) (before : List Token) (at : ℕ) (why : NumberFault) → Cells text before → (h : Uncounted text (in_cells text before) at why) → HasToCount text before at (slice_range text at h.end)
has_to_count text before at why cells h = record { end = h.end; some = h.some; bytes = refl; run = h.run; stops = h.stops; digit = h.digit; cells = cells.stands h.within }

stops_so : (text : List ℕ) (before : List Token) (at : ℕ) (fault : LexFault) → Cells text before → StopsAt text (in_cells text before) at fault → Stops text before at fault
stops_so text before at (Unclosed place) cells h = h
stops_so text before at (BadChar place) cells h =
    ⊎_elim inl
    (λ here. inr (here.0, ⊎_elim inl (λ word. inr (slice_range text at word.end, has_to_count text before at Malformed cells word, is_read_of _ (Err Malformed) word.number)) here.1))
    h
stops_so text before at (NumberTooWide place) cells h =
    let n = is_read_of _ (Err TooWide) h.1.number in
    (h.0, (slice_range text at h.1.end, n.0, has_to_count text before at TooWide cells h.1, n.1, n.2))
stops_so text before at Memory cells h = absurd h

-- a fault tells of the first piece that can't be read
pub lexed_tells : (text : List ℕ) (fault : LexFault) → lexed text ≡ Err fault → Tells text fault
lexed_tells text fault is =
    let h = held_fault text fault is in
    let at = h.at in
    let within : at ≤ length text = omega (arith, h.inside) in
    let line = line_goes_on text at h.inside (no_newline text _ _ at fault h.found) in
    let size = length-take-le at text within in
    let front = take at text in
    let alone = h.holds.follows at (omega arith) within [] (parts_nothing (drop at text) line) in
    let more = h.holds.follows at (omega arith) within (codes ";") (parts_semicolon (drop at text) line) in
    let marked = front ++ codes ";" in
    let long : length marked ≡ at + 1 = omega (arith, size, length-append front (codes ";")) in
    let first : slice_index marked at ≡ 59 = ap (λ n. slice_index marked n) (sym size) ∙ get_or-append_seam front 59 [] 0 in
    let sign = remains_token marked h.before at (at + 1) (omega (arith, long)) (omega arith) more.left kinds.Sign (semicolon marked _ _ at first) in
    record {
      at = at;
      before = h.before;
      read = ap lexed (sym (append-nil front)) ∙ remains_end (front ++ []) h.before at (omega (arith, size, length-append front [])) alone.left;
      uncut = h.holds.read.uncut;
      next = remains_end marked (h.before ++ record { kind = kinds.Sign; start = at; end = at + 1 } ∷ []) (at + 1) (omega (arith, long)) sign;
      stops = stops_so text h.before at fault h.holds.read.cells (IfErr-at_err (StopsAt text (in_cells text h.before) at) h.found (piece_stops text (in_cells text h.before) at h.inside (comma_alone text h.before)));
    }
