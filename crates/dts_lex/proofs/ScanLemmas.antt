-- Steps of the definitions of `Scan` along the text.
use Rattle.std.proofs.Common.{◌≢◌, ◌≡◌, ℕ, ◌+◌, ◌-◌, ◌<◌, ◌≤◌, List, [], ◌∷◌, ◌++◌, Bool, true, false, not, ◌&&◌, eqb, length, get_or, take, drop, None, Ok, Err, ⊎_elim, refl, sym, ◌∙◌, arith}
use Rattle.std.specs.List.{suffix_len, after_last}
use Rattle.std.proofs.lemmas.List.{length-drop, at_drop_more, drop_all, drop-append-le, reverse-append, length_push, drop_more, take_more, get_or_past}
use Rattle.std.proofs.lemmas.List.Sums.{prefix_len-drop_yes, prefix_len-drop_no, prefix_len-drop_all, prefix_len-le-length, suffix_len-le-length}
use Rattle.std.proofs.lemmas.List.Folds.{list_all-append}
use Rattle.std.proofs.lemmas.Bool.{cases_lt, eq-eqb, ne_eqb}
use Rattle.dts_lex.specs.declared.class.Class.{Class}
use Rattle.dts_lex.specs.declared.fault.LexFault.TheVariants.{BadChar, Unclosed}
use Rattle.dts_lex.specs.Class.{has}
use Rattle.dts_lex.specs.Bytes.{is_blank, is_plain, is_escaped}
use Rattle.dts_lex.specs.Scan.{run_end, comment_end, string_end, begins_line}

-- a byte of the class lengthens the run
pub run_end_more : (class : Class) (text : List ℕ) (at : ℕ) → at < length text → has class (get_or text at 0) ≡ true → run_end class text (at + 1) ≡ run_end class text at
unfolding run_end
run_end_more class text at inside belongs =
    let e = prefix_len-drop_yes (has class) text at 0 inside belongs in
    omega (arith, e)

-- another byte ends it
pub run_end_stop : (class : Class) (text : List ℕ) (at : ℕ) → at < length text → has class (get_or text at 0) ≡ false → run_end class text at ≡ at
unfolding run_end
run_end_stop class text at inside differs =
    let e = prefix_len-drop_no (has class) text at 0 inside differs in
    omega (arith, e)

-- and so does the end of the text
pub run_end_past : (class : Class) (text : List ℕ) (at : ℕ) → length text ≤ at → run_end class text at ≡ at
unfolding run_end
run_end_past class text at past =
    let e = prefix_len-drop_all (has class) text at past in
    omega (arith, e)

-- a run ends no sooner than it begins, and inside the text
pub run_end_bounds : (class : Class) (text : List ℕ) (at : ℕ) → at ≤ length text → (at ≤ run_end class text at) × (run_end class text at ≤ length text)
unfolding run_end
run_end_bounds class text at inside =
    let short = prefix_len-le-length (has class) (drop at text) in
    (omega arith, omega (arith, short, length-drop at text))

-- one byte ends no comment
comment_end_one : (at : ℕ) (rest : List ℕ) → length rest ≤ 1 → comment_end at rest ≡ None
comment_end_one at [] short = refl
comment_end_one at (b ∷ []) short = refl
comment_end_one at (b ∷ c ∷ rest) short = absurd (omega arith)

pub comment_end_past : (at : ℕ) (text : List ℕ) → length text ≤ at + 1 → comment_end at (drop at text) ≡ None
comment_end_past at text past = comment_end_one at (drop at text) (omega (arith, length-drop at text))

-- a byte that stands for itself is passed
string_end_plain_cons : (quote at b : ℕ) (rest : List ℕ) → eqb b 34 ≡ false → eqb b 92 ≡ false → is_plain b ≡ true → string_end quote at (b ∷ rest) ≡ string_end quote (at + 1) rest
string_end_plain_cons quote at b [] no_quote no_escape plain =
    rw (no_quote, no_escape, plain)
string_end_plain_cons quote at b (c ∷ rest) no_quote no_escape plain =
    rw (no_quote, no_escape, plain)

pub string_end_plain : (quote at : ℕ) (text : List ℕ) → at < length text → get_or text at 0 ≢ 34 → get_or text at 0 ≢ 92 → is_plain (get_or text at 0) ≡ true → string_end quote (at + 1) (drop (at + 1) text) ≡ string_end quote at (drop at text)
string_end_plain quote at text inside no_quote no_escape plain =
    sym (at_drop_more (string_end quote at) text at 0 inside
    ∙ string_end_plain_cons quote at (get_or text at 0) (drop (at + 1) text) (ne_eqb _ _ no_quote) (ne_eqb _ _ no_escape) plain)

-- a quote ends the string
string_end_closed_cons : (quote at b : ℕ) (rest : List ℕ) → eqb b 34 ≡ true → string_end quote at (b ∷ rest) ≡ Ok (at + 1)
string_end_closed_cons quote at b [] is_quote = rw is_quote
string_end_closed_cons quote at b (c ∷ rest) is_quote = rw is_quote

pub string_end_closed : (quote at : ℕ) (text : List ℕ) → at < length text → get_or text at 0 ≡ 34 → string_end quote at (drop at text) ≡ Ok (at + 1)
string_end_closed quote at text inside is_quote =
    at_drop_more (string_end quote at) text at 0 inside
    ∙ string_end_closed_cons quote at (get_or text at 0) (drop (at + 1) text) (eq-eqb _ _ is_quote)

-- no string has another byte
string_end_other_cons : (quote at b : ℕ) (rest : List ℕ) → eqb b 34 ≡ false → eqb b 92 ≡ false → is_plain b ≡ false → string_end quote at (b ∷ rest) ≡ Err (BadChar at)
string_end_other_cons quote at b [] no_quote no_escape other = rw (no_quote, no_escape, other)
string_end_other_cons quote at b (c ∷ rest) no_quote no_escape other = rw (no_quote, no_escape, other)

pub string_end_other : (quote at : ℕ) (text : List ℕ) → at < length text → get_or text at 0 ≢ 34 → get_or text at 0 ≢ 92 → is_plain (get_or text at 0) ≡ false → string_end quote at (drop at text) ≡ Err (BadChar at)
string_end_other quote at text inside no_quote no_escape other =
    at_drop_more (string_end quote at) text at 0 inside
    ∙ string_end_other_cons quote at (get_or text at 0) (drop (at + 1) text) (ne_eqb _ _ no_quote) (ne_eqb _ _ no_escape) other

-- the text ends behind a backslash
pub string_end_cut : (quote at : ℕ) (text : List ℕ) → at + 1 ≡ length text → get_or text at 0 ≡ 92 → string_end quote at (drop at text) ≡ Err (Unclosed quote)
string_end_cut quote at text last backslash =
    let first = drop_more text at 0 (omega arith) in
    let none = drop_all (at + 1) text (omega arith) in
    rw (first, none, backslash)

-- a backslash before a byte that has no escape
pub string_end_unescaped : (quote at : ℕ) (text : List ℕ) → at + 1 < length text → get_or text at 0 ≡ 92 → is_escaped (get_or text (at + 1) 0) ≡ false → string_end quote at (drop at text) ≡ Err (BadChar at)
string_end_unescaped quote at text inside backslash unescaped =
    let first = drop_more text at 0 (omega arith) in
    let second = drop_more text (at + 1) 0 inside in
    rw (first, second, backslash, unescaped)

-- an escape is passed with the byte behind the backslash
pub string_end_escape : (quote at : ℕ) (text : List ℕ) → at + 1 < length text → get_or text at 0 ≡ 92 → is_escaped (get_or text (at + 1) 0) ≡ true → string_end quote (at + 2) (drop (at + 2) text) ≡ string_end quote at (drop at text)
string_end_escape quote at text inside backslash escaped =
    let first = drop_more text at 0 (omega arith) in
    let second = drop_more text (at + 1) 0 inside in
    let regrouped : at + 1 + 1 ≡ at + 2 = omega arith in
    rw (first, second, backslash, escaped, regrouped)

-- the line after one more byte
after_last_newline : (front : List ℕ) (b : ℕ) → b ≡ 10 → after_last (λ c. eqb c 10) (front ++ b ∷ []) ≡ []
after_last_newline front b newline =
    let turned = reverse-append front (b ∷ []) in
    let test = eq-eqb b 10 newline in
    let none : suffix_len (λ c. not (eqb c 10)) (front ++ b ∷ []) ≡ 0 = rw (turned, test) in
    drop_all _ (front ++ b ∷ []) (omega (arith, none))

after_last_other : (front : List ℕ) (b : ℕ) → b ≢ 10 → after_last (λ c. eqb c 10) (front ++ b ∷ []) ≡ after_last (λ c. eqb c 10) front ++ b ∷ []
after_last_other front b other =
    let p : ℕ → Bool = λ c. not (eqb c 10) in
    let turned = reverse-append front (b ∷ []) in
    let test = ne_eqb b 10 other in
    let one : suffix_len p (front ++ b ∷ []) ≡ 1 + suffix_len p front = rw (turned, test) in
    let same : length (front ++ b ∷ []) - suffix_len p (front ++ b ∷ []) ≡ length front - suffix_len p front = omega (arith, one, length_push front b, suffix_len-le-length p front) in
    rw same (drop-append-le (length front - suffix_len p front) front (b ∷ []) (omega arith))

and_true : (b : Bool) → (b && true) ≡ b
and_true true = refl
and_true false = refl

-- the text begins a line
pub begins_line_start : (text : List ℕ) (at : ℕ) → at ≡ 0 → begins_line (take at text) ≡ true
unfolding begins_line
begins_line_start text at first = rw first

pub begins_line_newline : (text : List ℕ) (at : ℕ) → 0 < at → at ≤ length text → get_or text (at - 1) 0 ≡ 10 → begins_line (take at text) ≡ true
unfolding begins_line
begins_line_newline text at some inside newline =
    let back : at - 1 + 1 ≡ at = omega arith in
    let parts : take at text ≡ take (at - 1) text ++ get_or text (at - 1) 0 ∷ [] = rw back at (take_more text (at - 1) 0 (omega arith)) in
    rw (parts, after_last_newline (take (at - 1) text) (get_or text (at - 1) 0) newline)

pub begins_line_other : (text : List ℕ) (at : ℕ) → 0 < at → at ≤ length text → get_or text (at - 1) 0 ≢ 10 → begins_line (take at text) ≡ (begins_line (take (at - 1) text) && is_blank (get_or text (at - 1) 0))
unfolding begins_line
begins_line_other text at some inside other =
    let back : at - 1 + 1 ≡ at = omega arith in
    let parts : take at text ≡ take (at - 1) text ++ get_or text (at - 1) 0 ∷ [] = rw back at (take_more text (at - 1) 0 (omega arith)) in
    rw (parts, after_last_other (take (at - 1) text) (get_or text (at - 1) 0) other, list_all-append, and_true (is_blank (get_or text (at - 1) 0)))

and_false : (b : Bool) → (b && false) ≡ false
and_false true = refl
and_false false = refl

pub begins_line_blank : (text : List ℕ) (at : ℕ) → 0 < at → at ≤ length text → get_or text (at - 1) 0 ≢ 10 → is_blank (get_or text (at - 1) 0) ≡ true → begins_line (take (at - 1) text) ≡ begins_line (take at text)
begins_line_blank text at some inside other blank =
    sym (begins_line_other text at some inside other ∙ rw blank (and_true (begins_line (take (at - 1) text))))

pub begins_line_not : (text : List ℕ) (at : ℕ) → 0 < at → at ≤ length text → get_or text (at - 1) 0 ≢ 10 → is_blank (get_or text (at - 1) 0) ≡ false → begins_line (take at text) ≡ false
begins_line_not text at some inside other dark =
    begins_line_other text at some inside other ∙ rw dark (and_false (begins_line (take (at - 1) text)))

-- a byte that isn't 0 stands inside the text
pub slash_within : (text : List ℕ) (i : ℕ) → get_or text i 0 ≡ 47 → i < length text
slash_within text i is = ⊎_elim (λ below. below) (λ past. let none = get_or_past text i 0 past in absurd (omega (arith, none, is))) (cases_lt i (length text))
