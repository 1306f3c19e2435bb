-- What a walk knows of its knots stays so where the path and the pending steps only grow.
use Rattle.std.proofs.Common.{◌≡◌, ◌≢◌, ℕ, ◌<◌, ◌≤◌, ◌⊎◌, inl, inr, List, [], ◌∷◌, ◌++◌, length, get_or, set, reverse, sym, ap, ◌∙◌, subst, arith, Contains}
use Rattle.std.proofs.lemmas.List.{get_or-set_same, get_or-set_other, get_or_append_left, get_or_default, reverse-append}
use Rattle.board_graph.specs.declared.visit.Visit.{Visit}
use Rattle.board_graph.specs.declared.visit.Visit.TheVariants.{New}
use Rattle.board_graph.specs.declared.knot.Knot.{Knot}
use Rattle.board_graph.specs.declared.walk.Walk.{Walk}
use Rattle.board_graph.specs.Ways.{IsWay, Leads}
use Rattle.board_graph.specs.Inside.Net.{StepsTo}
use Rattle.board_graph.specs.Inside.Walk.{Reaches, visit_of, IsDone, IsOpenFrom, IsKnot, AreKnots, IsSound, GoOn}
use Rattle.board_graph.proofs.Ways.{leads_step, leads_leads}

-- ways
pub reach_step : (next : List (List ℕ)) (a b c : ℕ) → Reaches next a b → StepsTo next b c → Leads (StepsTo next) a c
reach_step next a b c (inl same) step = subst (λ x. Leads (StepsTo next) x c) (sym same) (record { between = []; way = step })
reach_step next a b c (inr leads) step = leads_step a b c leads step

pub reaches : (next : List (List ℕ)) (a b c : ℕ) → Reaches next a b → Reaches next b c → Reaches next a c
reaches next a b c (inl same) more = subst (λ x. Reaches next x c) (sym same) more
reaches next a b c (inr leads) (inl same) = inr (subst (λ x. Leads (StepsTo next) a x) same leads)
reaches next a b c (inr leads) (inr more) = inr (leads_leads a b c leads more)

pub leads_reach : (next : List (List ℕ)) (a b c : ℕ) → Leads (StepsTo next) a b → Reaches next b c → Leads (StepsTo next) a c
leads_reach next a b c leads (inl same) = subst (λ x. Leads (StepsTo next) a x) same leads
leads_reach next a b c leads (inr more) = leads_leads a b c leads more

pub stays : (visits : List Visit) → GoOn visits visits
stays visits = record { done = λ v done. done; opens = λ v at there. inl there }

pub goes_on : (visits later last : List Visit) → GoOn visits later → GoOn later last → GoOn visits last
goes_on visits later last first second = record {
  done = λ v done. second.done v (first.done v done);
  opens = λ v at there. elim (first.opens v at there) [ inl still ↦ second.opens v at still | inr done ↦ inr (second.done v done) ];
}

open_on : (visits later : List Visit) (first v : ℕ) → GoOn visits later → IsOpenFrom visits first v → IsDone later v ⊎ IsOpenFrom later first v
open_on visits later first v go there = elim (go.opens v there.0 there.2) [
  | inl stays ↦ inr (there.0, there.1, stays)
  | inr done ↦ inl done
]

-- what a list has stands at a place
pub contains_is : (xs : List ℕ) (x : ℕ) (has : Contains xs x) → get_or xs has.0 0 ≡ x
contains_is xs x has = get_or_default xs has.0 0 x has.1 ∙ has.2

-- two lists have the same numbers below a place
abbrev pub Agree : ℕ → List ℕ → List ℕ → Type 0
Agree n xs ys = (i : ℕ) → i < n → get_or ys i 0 ≡ get_or xs i 0

keep_knot : (next : List (List ℕ)) (visits later : List Visit) (path longer pending grown : List ℕ) (knot : Knot) (end last : ℕ)
    → Agree end path longer → Agree last pending grown → GoOn visits later
    → IsKnot next visits path pending knot end last → IsKnot next later longer grown knot end last
keep_knot next visits later path longer pending grown knot end last same_path same_steps go is = record {
  some = is.some;
  steps = is.steps;
  back = λ i from below. rw (same_path i below) (rw (same_path knot.first is.some) (is.back i from below));
  from = λ p from below. let there = is.from p from below in
      (there.0, there.1, there.2, rw (same_path there.0 there.2) (rw (same_steps p below) there.3));
  to = λ i v from below step. elim (is.to i v from below (rw (same_path i below) at step)) [
    | inl pends ↦ inl (pends.0, pends.1, pends.2, same_steps pends.0 pends.2 ∙ pends.3)
    | inr (inl done) ↦ inr (inl (go.done v done))
    | inr (inr there) ↦ inr (open_on visits later knot.first v go there)
  ];
}

agree_less : (n m : ℕ) (xs ys : List ℕ) → m ≤ n → Agree n xs ys → Agree m xs ys
agree_less n m xs ys less agree i below = agree i (omega arith)

pub keep_knots : (next : List (List ℕ)) (visits later : List Visit) (path longer pending grown : List ℕ) (knots : List Knot) (end last : ℕ)
    → Agree end path longer → Agree last pending grown → GoOn visits later
    → AreKnots next visits path pending knots end last → AreKnots next later longer grown knots end last
keep_knots next visits later path longer pending grown [] end last same_path same_steps go are = are
keep_knots next visits later path longer pending grown (knot ∷ knots) end last same_path same_steps go are = (
  keep_knot next visits later path longer pending grown knot end last same_path same_steps go are.0,
  keep_knots next visits later path longer pending grown knots knot.first knot.step
      (agree_less end knot.first path longer (omega (arith, are.0.some)) same_path) (agree_less last knot.step pending grown are.0.steps same_steps) go are.1,
)

pub pushed_agree : (xs ys : List ℕ) → Agree (length xs) xs (xs ++ ys)
pushed_agree xs ys i below = get_or_append_left xs ys 0 i below

pub last_first : {X : Type 0} (xs : List X) (x : X) → reverse (xs ++ x ∷ []) ≡ x ∷ reverse xs
last_first xs x = reverse-append xs (x ∷ [])

-- the visits with one changed
pub visit_same : (visits : List Visit) (v : ℕ) (visit : Visit) → v < length visits → visit_of (set visits v visit) v ≡ visit
visit_same visits v visit below = get_or-set_same visits v visit New below

pub visit_other : (visits : List Visit) (v u : ℕ) (visit : Visit) → u ≢ v → visit_of (set visits v visit) u ≡ visit_of visits u
visit_other visits v u visit apart = get_or-set_other visits v u visit New apart

pub reach_leads : (next : List (List ℕ)) (a b c : ℕ) → Reaches next a b → Leads (StepsTo next) b c → Leads (StepsTo next) a c
reach_leads next a b c (inl same) more = subst (λ x. Leads (StepsTo next) x c) (sym same) more
reach_leads next a b c (inr leads) more = leads_leads a b c leads more

-- what is led to from what is done is done
pub done_ahead : (next : List (List ℕ)) (walk : Walk) → IsSound next walk → (u x : ℕ) (between : List ℕ) → IsDone walk.visits u → IsWay (StepsTo next) u between x → IsDone walk.visits x
done_ahead next walk is u x [] done way = is.done_steps u x done way
done_ahead next walk is u x (via ∷ rest) done way = done_ahead next walk is via x rest (is.done_steps u via done way.0) way.1

-- the knots with the last one apart
pub knots_apart : (next : List (List ℕ)) (walk : Walk) (rest : List Knot) (knot : Knot) → IsSound next walk → walk.knots ≡ rest ++ knot ∷ []
    → AreKnots next walk.visits walk.path walk.pending (knot ∷ reverse rest) (length walk.path) (length walk.pending)
knots_apart next walk rest knot is top =
    subst (λ knots. AreKnots next walk.visits walk.path walk.pending knots (length walk.path) (length walk.pending)) (ap reverse top ∙ last_first rest knot) is.knots
