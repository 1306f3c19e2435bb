-- How long the lines of a text are, and how many newlines end them.
use Rattle.std.proofs.Common.{◌≡◌, ℕ, ◌+◌, ◌-◌, ◌<◌, ◌≤◌, Bool, true, false, cond, eqb, List, [], ◌∷◌, ◌++◌, length, take, drop, refl, ap, ◌∙◌, arith, length-append, length-drop}
use Rattle.std.specs.Prelude.{count_by}
use Rattle.std.specs.List.{onto_first}
use Rattle.std.proofs.lemmas.List.{take-append-drop}
use Rattle.std.proofs.lemmas.List.Concat.{flat_map-append}
use Rattle.std.proofs.lemmas.List.Splits.{length-slice_split}
use Rattle.std.proofs.lemmas.List.Sums.{sum_by-append, count_by-le-length, sum_by-cons}
use Rattle.rows.specs.Words.{ended}
use Rattle.session.specs.BoardText.{text_of}
use Rattle.session.specs.Lines.{pieces, lines_of}

-- how many newlines a text has
abbrev pub newlines : List ℕ → ℕ
newlines bytes = count_by (λ byte. eqb byte 10) bytes

newlines-append : (xs ys : List ℕ) → newlines (xs ++ ys) ≡ newlines xs + newlines ys
newlines-append xs ys = sum_by-append (λ byte. cond (eqb byte 10) 1 0) xs ys

newlines-cons : (byte : ℕ) (bytes : List ℕ) → newlines (byte ∷ bytes) ≡ cond (eqb byte 10) 1 0 + newlines bytes
newlines-cons byte bytes = sum_by-cons (λ byte. cond (eqb byte 10) 1 0) byte bytes

-- of more lines
text-append : (xs ys : List (List ℕ)) → text_of (xs ++ ys) ≡ text_of xs ++ text_of ys
text-append xs ys = flat_map-append ended xs ys

long-append : (xs ys : List (List ℕ)) → length (text_of (xs ++ ys)) ≡ length (text_of xs) + length (text_of ys)
long-append xs ys = ap length (text-append xs ys) ∙ length-append (text_of xs) (text_of ys)

many-append : (xs ys : List (List ℕ)) → newlines (text_of (xs ++ ys)) ≡ newlines (text_of xs) + newlines (text_of ys)
many-append xs ys = ap newlines (text-append xs ys) ∙ newlines-append (text_of xs) (text_of ys)

-- of one line more
long-cons : (line : List ℕ) (lines : List (List ℕ)) → length (text_of (line ∷ lines)) ≡ length line + 1 + length (text_of lines)
long-cons line lines = let e = length-append (ended line) (text_of lines) in let f = length-append line (10 ∷ []) in omega (arith, e, f)

many-cons : (line : List ℕ) (lines : List (List ℕ)) → newlines (text_of (line ∷ lines)) ≡ newlines line + 1 + newlines (text_of lines)
many-cons line lines = let e = newlines-append (ended line) (text_of lines) in let f = newlines-append line (10 ∷ []) in let one : newlines (10 ∷ []) ≡ 1 = refl in omega (arith, e, f, one)

-- each line has its newline
at_least : (lines : List (List ℕ)) → length lines ≤ newlines (text_of lines)
at_least [] = omega arith
at_least (line ∷ lines) = let h = at_least lines in let e = many-cons line lines in omega (arith, h, e)

pub some_long : (lines : List (List ℕ)) → length lines ≤ length (text_of lines)
some_long lines = let h = at_least lines in let c = count_by-le-length (λ byte. eqb byte 10) (text_of lines) in omega (arith, h, c)

-- a byte before the first piece
onto_long : (byte : ℕ) (lines : List (List ℕ)) → 0 < length lines → length (text_of (onto_first byte lines)) ≡ length (text_of lines) + 1
onto_long byte [] some = absurd (omega (arith, some))
onto_long byte (line ∷ lines) some = let e = long-cons (byte ∷ line) lines in let f = long-cons line lines in omega (arith, e, f)

onto_many : (byte : ℕ) (lines : List (List ℕ)) → 0 < length lines → eqb byte 10 ≡ false → newlines (text_of (onto_first byte lines)) ≡ newlines (text_of lines)
onto_many byte [] some plain = absurd (omega (arith, some))
onto_many byte (line ∷ lines) some plain =
    let e = many-cons (byte ∷ line) lines in
    let f = many-cons line lines in
    let g : newlines (byte ∷ line) ≡ newlines line = newlines-cons byte line ∙ ap (λ b. cond b 1 0 + newlines line) plain ∙ omega arith in
    omega (arith, e, f, g)

pieces_filled : (bytes : List ℕ) → 0 < length (pieces bytes)
pieces_filled bytes = omega (arith, length-slice_split (λ b. eqb b 10) bytes)

-- the pieces of a text, each ended, are one newline longer
pieces_long : (bytes : List ℕ) → length (text_of (pieces bytes)) ≡ length bytes + 1
pieces_long [] = refl
pieces_long (byte ∷ bytes) =
    let h = pieces_long bytes in
    elim (eqb byte 10) as (λ b. length (text_of (cond b ([] ∷ pieces bytes) (onto_first byte (pieces bytes)))) ≡ length (byte ∷ bytes) + 1) [
      | true ↦ let e = long-cons [] (pieces bytes) in omega (arith, e, h)
      | false ↦ let e = onto_long byte (pieces bytes) (pieces_filled bytes) in omega (arith, e, h)
    ]

by_test : (byte : ℕ) (bytes : List ℕ) (b : Bool) → eqb byte 10 ≡ b → newlines (text_of (pieces bytes)) ≡ newlines bytes + 1
    → newlines (text_of (cond b ([] ∷ pieces bytes) (onto_first byte (pieces bytes)))) ≡ newlines (byte ∷ bytes) + 1
by_test byte bytes true test h =
    let e = many-cons [] (pieces bytes) in
    let g : newlines (byte ∷ bytes) ≡ 1 + newlines bytes = newlines-cons byte bytes ∙ ap (λ b. cond b 1 0 + newlines bytes) test in
    let none : newlines [] ≡ 0 = refl in
    omega (arith, e, h, g, none)
by_test byte bytes false test h =
    let e = onto_many byte (pieces bytes) (pieces_filled bytes) test in
    let g : newlines (byte ∷ bytes) ≡ 0 + newlines bytes = newlines-cons byte bytes ∙ ap (λ b. cond b 1 0 + newlines bytes) test in
    omega (arith, e, h, g)

pieces_many : (bytes : List ℕ) → newlines (text_of (pieces bytes)) ≡ newlines bytes + 1
pieces_many [] = refl
pieces_many (byte ∷ bytes) = by_test byte bytes (eqb byte 10) refl (pieces_many bytes)

-- the whole lines of a text are no longer than it
pub lines_long : (bytes : List ℕ) → length (text_of (lines_of bytes)) ≤ length bytes
lines_long bytes =
    let ps = pieces bytes in
    let k = length ps - 1 in
    let cut = ap (λ ls. length (text_of ls)) (take-append-drop k ps) in
    let e = long-append (take k ps) (drop k ps) in
    let l = some_long (drop k ps) in
    let n = length-drop k ps in
    let f = pieces_filled bytes in
    let w = pieces_long bytes in
    omega (arith, cut, e, l, n, f, w)

-- they have as many newlines as lines
pub lines_plain : (bytes : List ℕ) → newlines (text_of (lines_of bytes)) ≡ length (lines_of bytes)
lines_plain bytes =
    let ps = pieces bytes in
    let k = length ps - 1 in
    let cut = ap (λ ls. newlines (text_of ls)) (take-append-drop k ps) in
    let both = ap length (take-append-drop k ps) in
    let counts = length-append (take k ps) (drop k ps) in
    let e = many-append (take k ps) (drop k ps) in
    let a = at_least (take k ps) in
    let b = at_least (drop k ps) in
    let w = pieces_many bytes in
    let n = length-slice_split (λ b. eqb b 10) bytes in
    omega (arith, cut, both, counts, e, a, b, w, n)

-- a part of some lines
module _ (before part behind : List (List ℕ)) where
  pub part_long : length (text_of part) ≤ length (text_of (before ++ (part ++ behind)))
  part_long = let e = long-append before (part ++ behind) in let f = long-append part behind in omega (arith, e, f)

  pub part_plain : newlines (text_of (before ++ (part ++ behind))) ≡ length (before ++ (part ++ behind)) → newlines (text_of part) ≡ length part
  part_plain whole =
      let e = many-append before (part ++ behind) in
      let f = many-append part behind in
      let m = length-append before (part ++ behind) in
      let n = length-append part behind in
      let a = at_least before in
      let b = at_least part in
      let c = at_least behind in
      omega (arith, whole, e, f, m, n, a, b, c)
