-- A first word and what stands behind it, told again from their line.
use Rattle.std.proofs.Common.{ℕ, ◌≡◌, ◌≢◌, List, [], ◌∷◌, ◌++◌, codes, nat_lt, true, refl, sym, ap, ◌∙◌, arith, inl, inr}
use Rattle.std.specs.List.{list_all}
use Rattle.std.proofs.lemmas.List.Elements.{All-head, All-tail}
use Rattle.board.specs.declared.board.Board.{Board}
use Rattle.board.specs.declared.rail_id.RailId.{RailId}
use Rattle.board.specs.declared.event.Event.{Event}
use Rattle.board.specs.declared.event.Event.TheVariants.{PreVoltageChange, VoltageChange, AbortVoltageChange, Enable, PreDisable, Disable, AbortDisable}
use Rattle.rows.specs.declared.answer.Answer.{Answer}
use Rattle.rows.specs.declared.answer.Answer.TheVariants.{Ok, OkTime, OkSet, OkMode, OkUv, OkOn, OkList, OkYes, OkEvents, BadRange, NoValue, Unbalanced, CountFull, StillEnabled, Taken, HandleOpen, HandlesFull, NoHandle, NotAllowed, NoMode, NotListening, Suspended, NotSuspended, Fault}
use Rattle.rows.specs.AnswerParts.{answer_parts, IsAnswer}
use Rattle.rows.specs.AnswerText.{answer_text, event_text}
use Rattle.rows.specs.Fits.{FitsEvent, FitsTold, Told}
use Rattle.rows.specs.Row.{rail_name}
use Rattle.rows.specs.Tails.{event_parts, IsEvent, IsTail}
use Rattle.rows.specs.Words.{spaced}
use Rattle.rows.proofs.Cuts.{Lacks-dense, dense_by_test}
use Rattle.rows.proofs.Separators.{Lacks, not_split, split_once, head_is, tail_is}

-- one word without a space, or such a word and a text behind it
abbrev pub AreParts : List (List ℕ) → Type 0
AreParts [] = ⊥
AreParts (w ∷ []) = Lacks 32 w
AreParts (w ∷ text ∷ []) = Lacks 32 w
AreParts (w ∷ text ∷ more ∷ others) = ⊥

pub parts_same : (ws vs : List (List ℕ)) → AreParts ws → AreParts vs → spaced ws ≡ spaced vs → ws ≡ vs
parts_same [] vs is is' same = absurd is
parts_same (w ∷ []) [] is is' same = absurd is'
parts_same (w ∷ []) (v ∷ []) is is' same = ap (λ x. x ∷ []) same
parts_same (w ∷ []) (v ∷ t ∷ []) is is' same = absurd (not_split 32 w v t is same)
parts_same (w ∷ []) (v ∷ t ∷ u ∷ vs) is is' same = absurd is'
parts_same (w ∷ s ∷ []) [] is is' same = absurd is'
parts_same (w ∷ s ∷ []) (v ∷ []) is is' same = absurd (not_split 32 v w s is' (sym same))
parts_same (w ∷ s ∷ []) (v ∷ t ∷ []) is is' same =
    let cut = split_once 32 w s v t is is' same in
    ap (λ x. x ∷ s ∷ []) cut.0 ∙ ap (λ x. v ∷ x ∷ []) cut.1
parts_same (w ∷ s ∷ []) (v ∷ t ∷ u ∷ vs) is is' same = absurd is'
parts_same (w ∷ s ∷ x ∷ ws) vs is is' same = absurd is

word : (w : List ℕ) → list_all (nat_lt 32) w ≡ true → Lacks 32 w
word w test = Lacks-dense 32 w (omega arith) (dense_by_test w test)

pub answer_is_parts : (name : RailId → List ℕ) (answer : Answer) → AreParts (answer_parts name answer)
answer_is_parts name Ok = word (codes "ok") refl
answer_is_parts name (OkTime delay) = word (codes "ok") refl
answer_is_parts name (OkSet uv delay) = word (codes "ok") refl
answer_is_parts name (OkMode mode) = word (codes "ok") refl
answer_is_parts name (OkUv uv) = word (codes "ok") refl
answer_is_parts name (OkOn on) = word (codes "ok") refl
answer_is_parts name (OkList uv) = word (codes "ok") refl
answer_is_parts name (OkYes is) = word (codes "ok") refl
answer_is_parts name (OkEvents list) = word (codes "ok") refl
answer_is_parts name (BadRange lo hi) = word (codes "badrange") refl
answer_is_parts name NoValue = word (codes "novalue") refl
answer_is_parts name (Unbalanced enables) = word (codes "unbalanced") refl
answer_is_parts name (CountFull enables) = word (codes "countfull") refl
answer_is_parts name (StillEnabled enables) = word (codes "stillenabled") refl
answer_is_parts name (Taken handles) = word (codes "taken") refl
answer_is_parts name HandleOpen = word (codes "handleopen") refl
answer_is_parts name (HandlesFull handles) = word (codes "handlesfull") refl
answer_is_parts name NoHandle = word (codes "nohandle") refl
answer_is_parts name NotAllowed = word (codes "notallowed") refl
answer_is_parts name (NoMode sum) = word (codes "nomode") refl
answer_is_parts name NotListening = word (codes "notlistening") refl
answer_is_parts name Suspended = word (codes "suspended") refl
answer_is_parts name NotSuspended = word (codes "notsuspended") refl
answer_is_parts name (Fault chip reg applied now) = word (codes "fault") refl

pub answer_spaced : (name : RailId → List ℕ) (answer : Answer) → answer_text name answer ≡ spaced (answer_parts name answer)
answer_spaced name Ok = refl
answer_spaced name (OkTime delay) = refl
answer_spaced name (OkSet uv delay) = refl
answer_spaced name (OkMode mode) = refl
answer_spaced name (OkUv uv) = refl
answer_spaced name (OkOn on) = refl
answer_spaced name (OkList uv) = refl
answer_spaced name (OkYes is) = refl
answer_spaced name (OkEvents list) = refl
answer_spaced name (BadRange lo hi) = refl
answer_spaced name NoValue = refl
answer_spaced name (Unbalanced enables) = refl
answer_spaced name (CountFull enables) = refl
answer_spaced name (StillEnabled enables) = refl
answer_spaced name (Taken handles) = refl
answer_spaced name HandleOpen = refl
answer_spaced name (HandlesFull handles) = refl
answer_spaced name NoHandle = refl
answer_spaced name NotAllowed = refl
answer_spaced name (NoMode sum) = refl
answer_spaced name NotListening = refl
answer_spaced name Suspended = refl
answer_spaced name NotSuspended = refl
answer_spaced name (Fault chip reg applied now) = refl

pub event_is_parts : (event : Event) → AreParts (event_parts event)
event_is_parts (PreVoltageChange old new) = word (codes "pre-voltage-change") refl
event_is_parts (VoltageChange uv) = word (codes "voltage-change") refl
event_is_parts (AbortVoltageChange uv) = word (codes "abort-voltage-change") refl
event_is_parts Enable = word (codes "enable") refl
event_is_parts PreDisable = word (codes "pre-disable") refl
event_is_parts Disable = word (codes "disable") refl
event_is_parts AbortDisable = word (codes "abort-disable") refl

pub event_spaced : (event : Event) → event_text event ≡ spaced (event_parts event)
event_spaced (PreVoltageChange old new) = refl
event_spaced (VoltageChange uv) = refl
event_spaced (AbortVoltageChange uv) = refl
event_spaced Enable = refl
event_spaced PreDisable = refl
event_spaced Disable = refl
event_spaced AbortDisable = refl

-- what is no answer by its parts is none by its line
pub no_answer : (board : Board) (kind : Told) (text : List ℕ) (parts : List (List ℕ)) → text ≡ spaced parts → AreParts parts → ((answer : Answer) → ¬ IsAnswer board kind answer parts) → (answer : Answer) → FitsTold board kind answer → text ≢ answer_text (rail_name board) answer
no_answer board kind text parts split is none answer fits same =
    none answer (record { is = fits; spelled = parts_same parts (answer_parts (rail_name board) answer) is (answer_is_parts (rail_name board) answer) (sym split ∙ same ∙ answer_spaced (rail_name board) answer) })

pub an_answer : (board : Board) (kind : Told) (text : List ℕ) (parts : List (List ℕ)) (answer : Answer) → text ≡ spaced parts → IsAnswer board kind answer parts → FitsTold board kind answer × (text ≡ answer_text (rail_name board) answer)
an_answer board kind text parts answer split is = (is.is, split ∙ ap spaced is.spelled ∙ sym (answer_spaced (rail_name board) answer))

pub no_event : (text : List ℕ) (parts : List (List ℕ)) → text ≡ spaced parts → AreParts parts → ((event : Event) → ¬ IsEvent event parts) → (event : Event) → FitsEvent event → text ≢ event_text event
no_event text parts split is none event fits same =
    none event (record { is = fits; spelled = parts_same parts (event_parts event) is (event_is_parts event) (sym split ∙ same ∙ event_spaced event) })

pub an_event : (text : List ℕ) (parts : List (List ℕ)) (event : Event) → text ≡ spaced parts → IsEvent event parts → FitsEvent event × (text ≡ event_text event)
an_event text parts event split is = (is.is, split ∙ ap spaced is.spelled ∙ sym (event_spaced event))

-- what ends at a byte that it lacks is told
tail_never : (sep : ℕ) (x : ℕ) (xs r s : List ℕ) → IsTail sep r → x ≢ sep → r ≢ x ∷ (xs ++ s)
tail_never sep x xs r s (inl none) other same = absurd (let e = sym none ∙ same in cc)
tail_never sep x xs r s (inr more) other same = other (sym (head_is (sym more.1 ∙ same)))

pub tail_same : (sep : ℕ) (a r x s : List ℕ) → Lacks sep a → Lacks sep x → IsTail sep r → IsTail sep s → a ++ r ≡ x ++ s → (a ≡ x) × (r ≡ s)
tail_same sep [] r [] s la lx tr ts same = (refl, same)
tail_same sep [] r (x ∷ xs) s la lx tr ts same = absurd (tail_never sep x xs r s tr (All-head (λ b. b ≢ sep) x xs lx) same)
tail_same sep (a ∷ front) r [] s la lx tr ts same = absurd (tail_never sep a front s r ts (All-head (λ b. b ≢ sep) a front la) (sym same))
tail_same sep (a ∷ front) r (x ∷ xs) s la lx tr ts same =
    let rest = tail_same sep front r xs s (All-tail (λ b. b ≢ sep) a front la) (All-tail (λ b. b ≢ sep) x xs lx) tr ts (tail_is same) in
    (ap (λ h. h ∷ front) (head_is same) ∙ ap (λ t. x ∷ t) rest.0, rest.1)
