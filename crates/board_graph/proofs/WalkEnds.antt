-- What a walk tells at its end.
use Rattle.std.proofs.Common.{◌≡◌, ℕ, zero, suc, ◌<◌, inl, inr, Bool, true, false, not, List, [], ◌∷◌, Option, Some, None, length, get_or, map, replicate, reverse, refl, sym, ap, ◌∙◌, subst, arith}
use Rattle.std.proofs.lemmas.Bool.{cases_lt, not-true}
use Rattle.std.proofs.lemmas.List.{length-map, get_or_past}
use Rattle.board_graph.specs.declared.visit.Visit.{Visit}
use Rattle.board_graph.specs.declared.visit.Visit.TheVariants.{New, Open, Done}
use Rattle.board_graph.specs.declared.walk.Walk.{Walk}
use Rattle.std.specs.Option.{IfNone, IfSome, MatchOption}
use Rattle.board_graph.specs.Loops.{IsLeastSuch}
use Rattle.board_graph.specs.Ways.{IsWay, Leads}
use Rattle.board_graph.specs.Inside.Net.{next_of, StepsTo}
use Rattle.board_graph.specs.Inside.Walk.{Reaches, visit_of, IsDone, AreKnots, GoOn, IsSeen, Grows, GrowsFrom, IsAtRest, AreLoops, AreReached, is_seen, is_new, is_on_loop}
use Rattle.board_graph.proofs.WalkKept.{reaches, done_ahead}

-- a walk at rest has no path
pub rests_bare : (next : List (List ℕ)) (walk : Walk) → IsAtRest next walk → length walk.path ≡ 0
rests_bare next walk is =
    subst (λ knots. AreKnots next walk.visits walk.path walk.pending knots (length walk.path) (length walk.pending)) (ap reverse is.rest) is.sound.knots

-- where the walk rests, no vertex is open
pub none_open : (next : List (List ℕ)) (walk : Walk) → IsAtRest next walk → (v : ℕ) → is_new (visit_of walk.visits v) ≡ false → IsDone walk.visits v
none_open next walk is v seen =
    (elim (visit_of walk.visits v) as (λ visit. visit_of walk.visits v ≡ visit → is_new visit ≡ false → IsDone walk.visits v) [
      | New ↦ λ _ never. absurd (cc)
      | Open at ↦ λ opens _.
          absurd (omega (arith, rests_bare next walk is, (is.sound.opens v at opens).0))
      | Done on_loop ↦ λ done _. (on_loop, done)
    ]) refl seen

-- from what was seen all that can be reached was seen
pub ahead_seen : (next : List (List ℕ)) (walk : Walk) → IsAtRest next walk → (u v : ℕ) → IsSeen walk.visits u → Reaches next u v → IsSeen walk.visits v
ahead_seen next walk is u v seen (inl same) = subst (IsSeen walk.visits) same seen
ahead_seen next walk is u v seen (inr leads) = ap is_new (done_ahead next walk is.sound u v leads.between (none_open next walk is u seen) leads.way).1

-- what was seen stays so
pub seen_on : (visits later : List Visit) (v : ℕ) → GoOn visits later → is_new (visit_of visits v) ≡ false → is_new (visit_of later v) ≡ false
seen_on visits later v go seen =
    (elim (visit_of visits v) as (λ visit. visit_of visits v ≡ visit → is_new visit ≡ false → is_new (visit_of later v) ≡ false) [
      | New ↦ λ _ never. absurd (cc)
      | Open at ↦ λ opens _. elim (go.opens v at opens) [ inl still ↦ ap is_new still | inr done ↦ ap is_new done.1 ]
      | Done on_loop ↦ λ done _. ap is_new (go.done v (on_loop, done)).1
    ]) refl seen

-- a walk that rests with all vertices done tells which are on loops
pub loops_are : (next : List (List ℕ)) (walk : Walk) → IsAtRest next walk → ((v : ℕ) → v < length next → IsDone walk.visits v) → AreLoops next (map is_on_loop walk.visits)
loops_are next walk is all = record {
  size = length-map walk.visits is_on_loop ∙ is.sound.size;
  on = λ v on. is.sound.on_loop v (by v (visit_of walk.visits v) refl (sym (told walk.visits v) ∙ on));
  all = λ v within leads. let done = all v within in told walk.visits v ∙ ap is_on_loop done.1 ∙ true_is v done.0 done.1 leads;
} where
  told : (visits : List Visit) (v : ℕ) → get_or (map is_on_loop visits) v false ≡ is_on_loop (visit_of visits v)
  told [] v = refl
  told (visit ∷ visits) zero = refl
  told (visit ∷ visits) (suc v) = told visits v

  by : (v : ℕ) (visit : Visit) → visit_of walk.visits v ≡ visit → is_on_loop visit ≡ true → visit_of walk.visits v ≡ Done true
  by v New same never = absurd (cc)
  by v (Open at) same never = absurd (cc)
  by v (Done on_loop) same on = same ∙ ap Done on

  true_is : (v : ℕ) (on_loop : Bool) → visit_of walk.visits v ≡ Done on_loop → Leads (StepsTo next) v v → on_loop ≡ true
  true_is v true done leads = refl
  true_is v false done leads = absurd (is.sound.on_none v done leads)

pub all_new : (n v : ℕ) → visit_of (replicate n New) v ≡ New
all_new zero v = refl
all_new (suc n) zero = refl
all_new (suc n) (suc v) = all_new n v

pub grows_from : (next : List (List ℕ)) (walk : Walk) (root : ℕ) (visits later : List Visit) → IsAtRest next walk → GrowsFrom next root walk.visits visits → Grows next visits later → GrowsFrom next root walk.visits later
grows_from next walk root visits later is before grows v seen =
    let by = grows v seen in
    elim (before by.0 by.1) [
      | inl old ↦ inl (ahead_seen next walk is by.0 v old by.2)
      | inr reached ↦ inr (reaches next root by.0 v reached by.2)
    ]

-- from a walk where all was new
pub reached_are : (next : List (List ℕ)) (walk : Walk) (root : ℕ) (visits : List Visit) → ((v : ℕ) → visit_of visits v ≡ New) → IsAtRest next walk → IsDone walk.visits root
    → GrowsFrom next root visits walk.visits → AreReached next root (map is_seen walk.visits)
reached_are next walk root visits all_new is done from = record {
  size = length-map walk.visits is_seen ∙ is.sound.size;
  on = λ v on. elim (from v (not-true _ (sym (seen_at walk.visits v) ∙ on))) [
    | inl never ↦ let new : is_new (visit_of visits v) ≡ true = ap is_new (all_new v) in absurd (cc)
    | inr reached ↦ reached
  ];
  all = λ v within reached. seen_at walk.visits v ∙ ap not (ahead_seen next walk is root v (ap is_new done.1) reached);
} where
  seen_at : (visits : List Visit) (v : ℕ) → get_or (map is_seen visits) v false ≡ is_seen (visit_of visits v)
  seen_at [] v = refl
  seen_at (visit ∷ visits) zero = refl
  seen_at (visit ∷ visits) (suc v) = seen_at visits v

-- what steps is a vertex
step_vertex : (next : List (List ℕ)) (v u : ℕ) → StepsTo next v u → v < length next
step_vertex next v u step = elim (cases_lt v (length next)) [
  | inl below ↦ below
  | inr past ↦
      let none : next_of next v ≡ [] = get_or_past next v [] past in
      let within : step.0 < length {A = ℕ} [] = subst (λ steps. step.0 < length steps) none step.1 in
      absurd (omega (arith, within))
]

on_marked : (next : List (List ℕ)) (loops : List Bool) → AreLoops next loops → (v : ℕ) → Leads (StepsTo next) v v → get_or loops v false ≡ true
on_marked next loops are v leads = are.all v (first v leads.between leads.way) leads where
  first : (u : ℕ) (between : List ℕ) → IsWay (StepsTo next) v between u → v < length next
  first u [] way = step_vertex next v u way
  first u (via ∷ rest) way = step_vertex next v via way.0

-- the first that is marked is the least on a loop
pub least_marked : (next : List (List ℕ)) (loops : List Bool) (found : Option ℕ) → AreLoops next loops
    → IfNone found ((v : ℕ) → get_or loops v false ≡ false) → IfSome found (λ v. get_or loops v false ≡ true) → IfSome found (λ v. (u : ℕ) → u < v → get_or loops u false ≡ false)
    → MatchOption found ((v : ℕ) → ¬ Leads (StepsTo next) v v) (IsLeastSuch (λ v. Leads (StepsTo next) v v))
least_marked next loops None are none marked first = λ v leads. let on = on_marked next loops are v leads in let off = none v in cc
least_marked next loops (Some v) are none marked first = record {
  such = are.on v marked;
  least = λ other leads. elim (cases_lt other v) [
    | inl less ↦ let on = on_marked next loops are other leads in let off = first other less in absurd (cc)
    | inr more ↦ more
  ];
}
