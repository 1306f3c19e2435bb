-- A call at the front of a text, told by its first word.
use Rattle.std.proofs.Common.{ℕ, ◌≡◌, ◌≢◌, ◌+◌, ◌<◌, List, [], ◌∷◌, ◌++◌, length, true, false, Bool, get_or, take, refl, sym, ap, ◌∙◌, arith, append_assoc}
use Rattle.std.specs.Prelude.{if◌then◌else◌, ◌==◌}
use Rattle.std.proofs.lemmas.Bool.Decides.{nat_tests}
use Rattle.std.proofs.lemmas.List.{take_more}
use Rattle.std.proofs.lemmas.List.Elements.{All-head, All-tail}
use Rattle.board.specs.declared.rail_id.RailId.{RailId}
use Rattle.rows.specs.declared.call.Call.{Call}
use Rattle.rows.specs.declared.call.Call.TheVariants.{Open, Close, Enable, Disable, Set, Load, Get, IsOn, ModeOf, ListSel, Supported, Listen, Events, Suspend, Resume, ReleaseBoot}
use Rattle.rows.specs.CallText.{call_words, call_text}
use Rattle.rows.specs.Reading.{IsCall, NameLacks}
use Rattle.rows.specs.RowLine.{spaces, first_word, arity}
use Rattle.rows.specs.Words.{spaced}
use Rattle.rows.proofs.CallWords.{call_words_lack, call_words_few}
use Rattle.rows.proofs.Cuts.{AllLack}
use Rattle.rows.proofs.Separators.{Lacks, head_is, tail_is}

-- one byte, counted as a space or not
abbrev pub one : ℕ → ℕ
one byte = if byte == 32 then 1 else 0

pub one_space : (byte : ℕ) → byte ≡ 32 → one byte ≡ 1
one_space byte same = grind (arith, nat_tests)

pub one_other : (byte : ℕ) → byte ≢ 32 → one byte ≡ 0
one_other byte other = grind (arith, nat_tests)

pub spaces-append : (xs ys : List ℕ) → spaces (xs ++ ys) ≡ spaces xs + spaces ys
spaces-append [] ys = omega arith
spaces-append (x ∷ xs) ys = omega (arith, spaces-append xs ys)

pub spaces-lacks : (word : List ℕ) → Lacks 32 word → spaces word ≡ 0
spaces-lacks [] lacks = refl
spaces-lacks (x ∷ xs) lacks =
    omega (arith, one_other x (All-head (λ b. b ≢ 32) x xs lacks), spaces-lacks xs (All-tail (λ b. b ≢ 32) x xs lacks))

pub spaces-spaced : (words : List (List ℕ)) → AllLack 32 words → 0 < length words → spaces (spaced words) + 1 ≡ length words
spaces-spaced [] lacks some = absurd (omega arith)
spaces-spaced (w ∷ []) lacks some = omega (arith, spaces-lacks w lacks.0)
spaces-spaced (w ∷ v ∷ words) lacks some =
    omega (arith, spaces-append w (32 ∷ spaced (v ∷ words)), spaces-lacks w lacks.0, spaces-spaced (v ∷ words) lacks.1 (omega arith))

-- the spaces so far, and those with the next byte
pub spaces-take : (text : List ℕ) (at : ℕ) → at < length text → spaces (take (at + 1) text) ≡ spaces (take at text) + one (get_or text at 0)
spaces-take text at within =
    let more = ap spaces (take_more text at 0 within) in
    omega (arith, more, spaces-append (take at text) (get_or text at 0 ∷ []))

-- a text is cut at its n-th space in one way
pub nth_same : (a b x y : List ℕ) → spaces a ≡ spaces x → a ++ 32 ∷ b ≡ x ++ 32 ∷ y → (a ≡ x) × (b ≡ y)
nth_same [] b [] y count same = (refl, tail_is same)
nth_same [] b (x ∷ xs) y count same = absurd (omega (arith, one_space x (sym (head_is same))))
nth_same (a ∷ tail) b [] y count same = absurd (omega (arith, one_space a (head_is same)))
nth_same (a ∷ tail) b (x ∷ xs) y count same =
    let rest = nth_same tail b xs y (omega (arith, ap one (head_is same))) (tail_is same) in
    (ap (λ h. h ∷ tail) (head_is same) ∙ ap (λ t. x ∷ t) rest.0, rest.1)

pub first_word-cut : (word rest : List ℕ) → Lacks 32 word → first_word (word ++ 32 ∷ rest) ≡ word
first_word-cut [] rest lacks = refl
first_word-cut (x ∷ xs) rest lacks =
    let other : (x == 32) ≡ false = grind (arith, nat_tests, All-head (λ b. b ≢ 32) x xs lacks) in
    rw other (ap (λ t. x ∷ t) (first_word-cut xs rest (All-tail (λ b. b ≢ 32) x xs lacks)))

-- the words of a call are as many as its first word tells
arity_words : (name : RailId → List ℕ) (call : Call) → arity (get_or (call_words name call) 0 []) ≡ length (call_words name call)
arity_words name (Open handle rail true) = refl
arity_words name (Open handle rail false) = refl
arity_words name (Close handle) = refl
arity_words name (Enable handle) = refl
arity_words name (Disable handle) = refl
arity_words name (Set handle lo hi) = refl
arity_words name (Load handle ua) = refl
arity_words name (Get handle) = refl
arity_words name (IsOn handle) = refl
arity_words name (ModeOf handle) = refl
arity_words name (ListSel handle sel) = refl
arity_words name (Supported handle lo hi) = refl
arity_words name (Listen handle) = refl
arity_words name (Events handle) = refl
arity_words name (Suspend state) = refl
arity_words name Resume = refl
arity_words name ReleaseBoot = refl

among : (a b c : Bool) → 0 < (if a then 1 else if b then 4 else if c then 3 else 2)
among true b c = omega arith
among false true c = omega arith
among false false true = omega arith
among false false false = omega arith

pub some_arity : (verb : List ℕ) → 0 < arity verb
some_arity verb = among _ _ _

front_of : (words : List (List ℕ)) (more : List ℕ) → AllLack 32 words → 0 < length words → (verb : List ℕ) × (others : List (List ℕ)) × (words ≡ verb ∷ others) × (first_word (spaced words ++ 32 ∷ more) ≡ verb)
front_of [] more lacks some = absurd (omega arith)
front_of (w ∷ []) more lacks some = (w, [], refl, first_word-cut w more lacks.0)
front_of (w ∷ v ∷ words) more lacks some =
    (w, v ∷ words, refl, ap first_word (append_assoc w (32 ∷ spaced (v ∷ words)) (32 ∷ more)) ∙ first_word-cut w (spaced (v ∷ words) ++ 32 ∷ more) lacks.0)

-- the line of a call has one space less than the call has words
pub call_front : (name : RailId → List ℕ) (call : Call) (more text : List ℕ) → IsCall call → NameLacks 32 name call → text ≡ call_text name call ++ 32 ∷ more → spaces (call_text name call) + 1 ≡ arity (first_word text)
call_front name call more text is named same =
    let lacks = call_words_lack 32 (omega arith) name call is named in
    let few = call_words_few name call in
    let front = front_of (call_words name call) more lacks few.0 in
    let told : first_word text ≡ front.0 = ap first_word same ∙ front.3 in
    let count : arity front.0 ≡ length (call_words name call) = ap arity (sym (ap (λ ws. get_or ws 0 []) front.2)) ∙ arity_words name call in
    omega (arith, spaces-spaced (call_words name call) lacks few.0, ap arity told)

-- what stands before the first space tells how many words there are
pub arity_cut : (text verb rest : List ℕ) → text ≡ verb ++ 32 ∷ rest → Lacks 32 verb → arity (first_word text) ≡ arity verb
arity_cut text verb rest same lacks = ap arity (ap first_word same ∙ first_word-cut verb rest lacks)

pub none_cut : (text : List ℕ) → Lacks 32 text → spaces text < arity (first_word text)
none_cut text lacks = omega (arith, spaces-lacks text lacks, some_arity (first_word text))
