-- A text has one outline, and so one outcome.
use Rattle.std.proofs.Common.{◌≡◌, ℕ, zero, suc, ◌+◌, ◌<◌, ◌≤◌, List, [], ◌∷◌, ◌++◌, Option, Some, None, Result, take, drop, refl, sym, ap, ◌∙◌, subst, inl, inr, arith, append_assoc}
use Rattle.std.specs.Prelude.{◌⊎◌, slice_get}
use Rattle.std.proofs.Math.Logic.{⊎_elim}
use Rattle.std.proofs.lemmas.Bool.{cases_lt}
use Rattle.std.proofs.lemmas.List.{take-append-drop}
use Rattle.dts_lex.specs.declared.token.Token.{Token}
use Rattle.dts_tree.specs.declared.fault.TreeFault.{TreeFault}
use Rattle.dts_tree.specs.Setting.{Setting}
use Rattle.dts_tree.specs.Grammar.{Told, IsFile}
use Rattle.dts_tree.specs.Outline.{Reads, BeginText, AreText, Tell, Breaks, EndsEarly, IsOutline, fault_of}
use Rattle.dts_tree.specs.Outcome.{IsOutcome, outcome_of}
use Rattle.dts_tree.specs.Tree.{Node}

record Front (text : List ℕ) (ks : List Token) (ts : List Told) : Type 0 where
  front : List Told
  rest : List Told
  whole : ts ≡ front ++ rest
  reads : Reads text ks front

reads_front : (text : List ℕ) (ks ls : List Token) (ts : List Told) → Reads text (ks ++ ls) ts → Front text ks ts
reads_front text [] ls ts h = record { front = []; rest = ts; whole = refl; reads = tt }
reads_front text (k ∷ ks) ls [] h = absurd h
reads_front text (k ∷ ks) ls (t ∷ ts) h =
    let f = reads_front text ks ls ts h.2 in
    record { front = t ∷ f.front; rest = f.rest; whole = ap (λ us. t ∷ us) f.whole; reads = (h.0, h.1, f.reads) }

-- what begins a text begins with what begins a text
begins_front : (text : List ℕ) (ks ls : List Token) → BeginText text (ks ++ ls) → BeginText text ks
begins_front text ks ls h =
    let f = reads_front text ks ls h.0 h.1 in
    (f.front, f.reads, (f.rest ++ h.2.0, subst IsFile (ap (λ us. us ++ h.2.0) f.whole ∙ append_assoc f.front f.rest h.2.0) h.2.1))

begins_take : (text : List ℕ) (n : ℕ) (ks : List Token) → BeginText text ks → BeginText text (take n ks)
begins_take text n ks h = begins_front text (take n ks) (drop n ks) (subst (BeginText text) (sym (take-append-drop n ks)) h)

take-shorter : (n m : ℕ) (ks : List Token) → n ≤ m → take n (take m ks) ≡ take n ks
take-shorter zero m ks h = refl
take-shorter (suc n) zero ks h = absurd (omega arith)
take-shorter (suc n) (suc m) [] h = refl
take-shorter (suc n) (suc m) (k ∷ ks) h = ap (λ ls. k ∷ ls) (take-shorter n m ks (omega arith))

all_text : (text : List ℕ) (tokens : List Token) → AreText text tokens → BeginText text tokens
all_text text tokens h = (h.0, h.1, ([], subst IsFile (sym (nil h.0)) h.2)) where
  nil : (ts : List Told) → ts ++ [] ≡ ts
  nil [] = refl
  nil (t ∷ ts) = ap (λ us. t ∷ us) (nil ts)

same_told : (text : List ℕ) (tokens : List Token) (a b : List Setting) → Tell text tokens a → Tell text tokens b → a ≡ b
same_told text tokens a b ta tb = sym (ta.telling ta.begins.0 ta.begins.1 ta.begins.2) ∙ tb.telling ta.begins.0 ta.begins.1 ta.begins.2

-- no text begins with more than what breaks it
breaks_all : (text : List ℕ) (tokens : List Token) (a : List Setting) (f : TreeFault) → Breaks text tokens a f → BeginText text tokens → ⊥
breaks_all text tokens a f b begins = b.wrong (begins_take text (b.n + 1) tokens begins)

breaks_first : (text : List ℕ) (tokens : List Token) (a b : List Setting) (f g : TreeFault) (x : Breaks text tokens a f) (y : Breaks text tokens b g) → x.n < y.n → ⊥
breaks_first text tokens a b f g x y less =
    x.wrong (subst (BeginText text) (take-shorter (x.n + 1) y.n tokens (omega (arith, less))) (begins_take text (x.n + 1) (take y.n tokens) y.told.begins))

breaks_same : (text : List ℕ) (tokens : List Token) (a b : List Setting) (f g : TreeFault) (x : Breaks text tokens a f) (y : Breaks text tokens b g) → x.n ≡ y.n → (a ≡ b) × (f ≡ g)
breaks_same text tokens a b f g x y same =
    let there : Some x.token ≡ Some y.token = sym x.there ∙ ap (slice_get tokens) same ∙ y.there in
    let token : x.token ≡ y.token = cc in
    (same_told text (take y.n tokens) a b (subst (λ n. Tell text (take n tokens) a) same x.told) y.told, x.named ∙ ap (fault_of text) token ∙ sym y.named)

breaks_one : (text : List ℕ) (tokens : List Token) (a b : List Setting) (f g : TreeFault) → Breaks text tokens a f → Breaks text tokens b g → (a ≡ b) × (f ≡ g)
breaks_one text tokens a b f g x y =
    ⊎_elim (λ less. absurd (breaks_first text tokens a b f g x y less))
    (λ more. ⊎_elim (λ less. absurd (breaks_first text tokens b a g f y x less)) (λ other. breaks_same text tokens a b f g x y (omega (arith, more, other))) (cases_lt y.n x.n))
    (cases_lt x.n y.n)

faults_one : (text : List ℕ) (tokens : List Token) (a b : List Setting) (f g : TreeFault) → Breaks text tokens a f ⊎ EndsEarly text tokens a f → Breaks text tokens b g ⊎ EndsEarly text tokens b g → (a ≡ b) × (f ≡ g)
faults_one text tokens a b f g (inl x) (inl y) = breaks_one text tokens a b f g x y
faults_one text tokens a b f g (inl x) (inr y) = absurd (breaks_all text tokens a f x y.told.begins)
faults_one text tokens a b f g (inr x) (inl y) = absurd (breaks_all text tokens b g y x.told.begins)
faults_one text tokens a b f g (inr x) (inr y) = (same_told text tokens a b x.told y.told, x.named ∙ sym y.named)

text_or_fault : (text : List ℕ) (tokens : List Token) (a : List Setting) (f : TreeFault) → AreText text tokens → Breaks text tokens a f ⊎ EndsEarly text tokens a f → ⊥
text_or_fault text tokens a f is (inl x) = breaks_all text tokens a f x (all_text text tokens is)
text_or_fault text tokens a f is (inr x) = x.short is

pub one_outline : (text : List ℕ) (tokens : List Token) (a b : List Setting) (f g : Option TreeFault) → IsOutline text tokens a f → IsOutline text tokens b g → (a ≡ b) × (f ≡ g)
one_outline text tokens a b None None x y = (same_told text tokens a b x.0 y.0, refl)
one_outline text tokens a b None (Some g) x y = absurd (text_or_fault text tokens b g x.1 y)
one_outline text tokens a b (Some f) None x y = absurd (text_or_fault text tokens a f y.1 x)
one_outline text tokens a b (Some f) (Some g) x y = let one = faults_one text tokens a b f g x y in (one.0, ap Some one.1)

pub same_outcome : (text : List ℕ) (tokens : List Token) (x y : Result (List Node) TreeFault) → IsOutcome text tokens x → IsOutcome text tokens y → x ≡ y
same_outcome text tokens x y a b =
    let one = one_outline text tokens a.0 b.0 a.1 b.1 a.2 b.2 in
    sym a.3 ∙ ap (λ ss. outcome_of ss a.1) one.0 ∙ ap (outcome_of b.0) one.1 ∙ b.3
