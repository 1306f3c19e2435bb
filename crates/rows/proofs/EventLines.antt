-- Events behind semicolons, told in one way.
use Rattle.std.proofs.Common.{ℕ, ◌≡◌, ◌≢◌, ◌^◌, ◌<◌, ◌≤◌, List, [], ◌∷◌, ◌++◌, codes, decimal, drop, length, nat_eq, not, Bool, true, All, flat_map, refl, sym, ap, ◌∙◌, arith, inl, inr}
use Rattle.std.specs.List.{list_all}
use Rattle.std.proofs.lemmas.Bool.Decides.{nat_tests}
use Rattle.std.proofs.lemmas.Fmt.{digits_decimal}
use Rattle.std.proofs.lemmas.List.Elements.{All-from_get_or, All-head, All-tail, All-weaker}
use Rattle.std.proofs.lemmas.List.Sums.{AllPass-from_list_all}
use Rattle.std.proofs.lemmas.Str.Parse.{not_in_digits}
use Rattle.board.specs.declared.event.Event.{Event}
use Rattle.board.specs.declared.event.Event.TheVariants.{PreVoltageChange, VoltageChange, AbortVoltageChange, Enable, PreDisable, Disable, AbortDisable}
use Rattle.rows.specs.AnswerText.{event_text, next_event_text}
use Rattle.rows.specs.Fits.{FitsEvent}
use Rattle.rows.specs.Tails.{IsTail}
use Rattle.rows.proofs.Cuts.{Lacks-spaced}
use Rattle.rows.proofs.Numerals.{decimal_model}
use Rattle.rows.proofs.Parts.{tail_same}
use Rattle.rows.proofs.Separators.{Lacks}

abbrev other : ℕ → Bool
other b = not (nat_eq b 59)

other_byte : (b : ℕ) → other b ≡ true → b ≢ 59
other_byte b test = grind (arith, nat_tests)

word_lacks : (word : List ℕ) → list_all other word ≡ true → Lacks 59 word
word_lacks word test = All-weaker (λ b. other b ≡ true) (λ b. b ≢ 59) other_byte word (AllPass-from_list_all other word test)

pub decimal_lacks : (n : ℕ) → n < 2 ^ 64 → Lacks 59 (decimal n)
decimal_lacks n small =
    All-from_get_or (λ b. b ≢ 59) (decimal n) 0 (not_in_digits decimal_model (decimal n) 59 (digits_decimal decimal_model n (omega arith)) (λ h. omega arith))

different : let semicolon : ℕ = 59 in semicolon ≢ 32
different same = absurd (omega (arith, same))

event_lacks : (event : Event) → FitsEvent event → Lacks 59 (event_text event)
event_lacks (PreVoltageChange old new) fits =
    Lacks-spaced 59 different (codes "pre-voltage-change" ∷ decimal old ∷ decimal new ∷ []) (word_lacks (codes "pre-voltage-change") refl, (decimal_lacks old (omega (arith, fits.0)), (decimal_lacks new (omega (arith, fits.1)), tt)))
event_lacks (VoltageChange uv) fits =
    Lacks-spaced 59 different (codes "voltage-change" ∷ decimal uv ∷ []) (word_lacks (codes "voltage-change") refl, (decimal_lacks uv (omega (arith, fits)), tt))
event_lacks (AbortVoltageChange uv) fits =
    Lacks-spaced 59 different (codes "abort-voltage-change" ∷ decimal uv ∷ []) (word_lacks (codes "abort-voltage-change") refl, (decimal_lacks uv (omega (arith, fits)), tt))
event_lacks Enable fits = word_lacks (codes "enable") refl
event_lacks PreDisable fits = word_lacks (codes "pre-disable") refl
event_lacks Disable fits = word_lacks (codes "disable") refl
event_lacks AbortDisable fits = word_lacks (codes "abort-disable") refl

pub events_tail : (more : List Event) → IsTail 59 (flat_map next_event_text more)
events_tail [] = inl refl
events_tail (event ∷ more) = inr (32 ∷ (event_text event ++ flat_map next_event_text more), refl)

-- an event and what stands behind it
pub event_told : (front rest : List ℕ) → Lacks 59 front → IsTail 59 rest → (event : Event) (more : List ℕ) → FitsEvent event → IsTail 59 more → front ++ rest ≡ event_text event ++ more → (front ≡ event_text event) × (rest ≡ more)
event_told front rest lacks ends event more fits tail same = tail_same 59 front rest (event_text event) more lacks (event_lacks event fits) ends tail same

pub event_cut : (event other : Event) (next more : List ℕ) → FitsEvent event → FitsEvent other → IsTail 59 next → IsTail 59 more → next_event_text event ++ next ≡ next_event_text other ++ more → next ≡ more
event_cut event other next more fits fits' ends ends' same =
    (event_told (event_text event) next (event_lacks event fits) ends other more fits' ends' (ap (drop 2) same)).1

-- as many events as semicolons
pub events_same : (xs ys : List Event) → All FitsEvent xs → All FitsEvent ys → flat_map next_event_text xs ≡ flat_map next_event_text ys → length xs ≡ length ys
events_same [] [] fits fits' same = refl
events_same [] (y ∷ ys) fits fits' same = absurd cc
events_same (x ∷ xs) [] fits fits' same = absurd cc
events_same (x ∷ xs) (y ∷ ys) fits fits' same =
    let rest = event_cut x y (flat_map next_event_text xs) (flat_map next_event_text ys) (All-head FitsEvent x xs fits) (All-head FitsEvent y ys fits') (events_tail xs) (events_tail ys) same in
    let counts = events_same xs ys (All-tail FitsEvent x xs fits) (All-tail FitsEvent y ys fits') rest in
    omega (arith, counts)

-- the number of the events, and the events
pub count_told : (words front rest : List ℕ) → words ≡ front ++ rest → Lacks 59 front → IsTail 59 rest → (list : List Event) → length list ≤ 64 → words ≡ decimal (length list) ++ flat_map next_event_text list → (front ≡ decimal (length list)) × (rest ≡ flat_map next_event_text list)
count_told words front rest split lacks ends list few same =
    tail_same 59 front rest (decimal (length list)) (flat_map next_event_text list) lacks (decimal_lacks (length list) (omega arith)) ends (events_tail list) (sym split ∙ same)
