-- A vertex that is opened.
use Rattle.std.proofs.Common.{◌≡◌, ◌≢◌, ℕ, zero, suc, ◌+◌, ◌-◌, ◌<◌, inl, inr, Bool, true, false, List, [], ◌∷◌, ◌++◌, length, get_or, set, reverse, refl, sym, ap, ◌∙◌, subst, arith}
use Rattle.std.proofs.lemmas.Bool.{cases_eq, cases_lt}
use Rattle.std.proofs.lemmas.List.{length-set, length_push, get_or_push, get_or-append-add, length-append}
use Rattle.std.proofs.lemmas.List.Elements.{Contains-get_or}
use Rattle.board_graph.specs.declared.visit.Visit.{Visit}
use Rattle.board_graph.specs.declared.visit.Visit.TheVariants.{New, Open, Done}
use Rattle.board_graph.specs.declared.walk.Walk.{Walk}
use Rattle.board_graph.specs.Ways.{Leads}
use Rattle.board_graph.specs.Inside.Net.{next_of, StepsTo}
use Rattle.board_graph.specs.Inside.Walk.{visit_of, IsDone, IsKnot, IsSound, GoOn, IsSeen, Grows, GrowsFrom, opened, is_new, left_of, work_of}
use Rattle.board_graph.proofs.WalkKept.{contains_is, keep_knots, pushed_agree, last_first, visit_same, visit_other}

-- a new vertex, that all open ones lead to
module _ (next : List (List ℕ)) (walk : Walk) (v : ℕ) (is : IsSound next walk) (below : v < length walk.visits) (new : visit_of walk.visits v ≡ New) where
  abbrev pub now : List Visit
  now = set walk.visits v (Open (length walk.path))

  not_new : (u : ℕ) (visit : Visit) → visit_of walk.visits u ≡ visit → visit ≢ New → u ≢ v
  not_new u visit there other same = other (sym there ∙ ap (visit_of walk.visits) same ∙ new)

  done_apart : (u : ℕ) → IsDone walk.visits u → visit_of now u ≡ visit_of walk.visits u
  done_apart u done = visit_other walk.visits v u (Open (length walk.path)) (not_new u (Done done.0) done.1 (λ e. cc))

  pub go_on : GoOn walk.visits now
  go_on = record {
    done = λ u done. (done.0, done_apart u done ∙ done.1);
    opens = λ u at there. inl (visit_other walk.visits v u (Open (length walk.path)) (not_new u (Open at) there (λ e. cc)) ∙ there);
  }

  -- what is done was done
  was_done : (u : ℕ) (on_loop : Bool) → visit_of now u ≡ Done on_loop → visit_of walk.visits u ≡ Done on_loop
  was_done u on_loop done = elim (cases_eq u v) [
    | inl same ↦ let opens : visit_of now u ≡ Open (length walk.path) = ap (visit_of now) same ∙ visit_same walk.visits v (Open (length walk.path)) below in absurd (cc)
    | inr apart ↦ sym (visit_other walk.visits v u (Open (length walk.path)) apart) ∙ done
  ]

  new_knot : IsKnot next now (walk.path ++ v ∷ []) (walk.pending ++ next_of next v) (record { first = length walk.path; step = length walk.pending })
      (length (walk.path ++ v ∷ [])) (length (walk.pending ++ next_of next v))
  new_knot = record {
    some = omega (arith, length_push walk.path v);
    steps = omega (arith, length-append walk.pending (next_of next v));
    back = λ i from less. let same : i ≡ length walk.path = omega (arith, length_push walk.path v) in rw same (inl refl);
    from = λ p from less.
        let q : ℕ = p - length walk.pending in
        let place : length walk.pending + q ≡ p = omega arith in
        let within : q < length (next_of next v) = omega (arith, length-append walk.pending (next_of next v)) in
        let is_v : get_or (walk.path ++ v ∷ []) (length walk.path) 0 ≡ v = get_or_push walk.path v 0 (length walk.path) refl in
        let is_next : get_or (walk.pending ++ next_of next v) p 0 ≡ get_or (next_of next v) q 0 =
        subst (λ k. get_or (walk.pending ++ next_of next v) k 0 ≡ get_or (next_of next v) q 0) place (get_or-append-add walk.pending (next_of next v) q 0) in
        (length walk.path, omega arith, omega (arith, length_push walk.path v), rw is_v (rw is_next (Contains-get_or (next_of next v) q 0 within)));
    to = λ i u from less step.
        let same : i ≡ length walk.path = omega (arith, length_push walk.path v) in
        let is_v : get_or (walk.path ++ v ∷ []) i 0 ≡ v = get_or_push walk.path v 0 i (sym same) in
        let there : StepsTo next v u = rw is_v at step in
        inl (
          length walk.pending + there.0,
          omega arith,
          omega (arith, there.1, length-append walk.pending (next_of next v)),
          get_or-append-add walk.pending (next_of next v) there.0 0 ∙ contains_is (next_of next v) u there,
        );
  }

  pub opened_sound : ((i : ℕ) → i < length walk.path → Leads (StepsTo next) (get_or walk.path i 0) v) → IsSound next (opened next walk v)
  opened_sound leads = record {
    size = length-set walk.visits v (Open (length walk.path)) ∙ is.size;
    places = λ i within. elim (cases_lt i (length walk.path)) [
      | inl old ↦
          rw (pushed_agree walk.path (v ∷ []) i old)
          (visit_other walk.visits v (get_or walk.path i 0) (Open (length walk.path)) (not_new (get_or walk.path i 0) (Open i) (is.places i old) (λ e. cc)) ∙ is.places i old)
      | inr last ↦
          let same : i ≡ length walk.path = omega (arith, length_push walk.path v) in
          rw (get_or_push walk.path v 0 i (sym same)) (visit_same walk.visits v (Open (length walk.path)) below ∙ ap Open (sym same))
    ];
    opens = λ u i there. elim (cases_eq u v) [
      | inl same ↦
          let opens : visit_of now u ≡ Open (length walk.path) = ap (visit_of now) same ∙ visit_same walk.visits v (Open (length walk.path)) below in
          let place : length walk.path ≡ i = cc in
          (omega (arith, length_push walk.path v), get_or_push walk.path v 0 i place ∙ sym same)
      | inr apart ↦
          let old = is.opens u i (sym (visit_other walk.visits v u (Open (length walk.path)) apart) ∙ there) in
          (omega (arith, old.0, length_push walk.path v), pushed_agree walk.path (v ∷ []) i old.0 ∙ old.1)
    ];
    rises = λ i j less within. elim (cases_lt j (length walk.path)) [
      | inl old ↦ rw (pushed_agree walk.path (v ∷ []) i (omega arith)) (rw (pushed_agree walk.path (v ∷ []) j old) (is.rises i j less old))
      | inr last ↦
          let same : j ≡ length walk.path = omega (arith, length_push walk.path v) in
          rw (get_or_push walk.path v 0 j (sym same)) (elim (cases_lt i (length walk.path)) [
            | inl old ↦ rw (pushed_agree walk.path (v ∷ []) i old) (inr (leads i old))
            | inr end ↦ inl (get_or_push walk.path v 0 i (omega arith))
          ])
    ];
    done_steps = λ u x done step. go_on.done x (is.done_steps u x (done.0, was_done u done.0 done.1) step);
    on_loop = λ u done. is.on_loop u (was_done u true done);
    on_none = λ u done. is.on_none u (was_done u false done);
    knots = rw (last_first walk.knots (record { first = length walk.path; step = length walk.pending })) (
      new_knot,
      keep_knots next walk.visits now walk.path (walk.path ++ v ∷ []) walk.pending (walk.pending ++ next_of next v) (reverse walk.knots) (length walk.path) (length walk.pending)
          (pushed_agree walk.path (v ∷ [])) (pushed_agree walk.pending (next_of next v)) go_on is.knots,
    );
  }

-- the work that is left
left_opened : (visits : List Visit) (next : List (List ℕ)) (v at : ℕ) → v < length visits → length visits ≡ length next → visit_of visits v ≡ New
    → left_of (set visits v (Open at)) next + (length (next_of next v) + 2) ≡ left_of visits next
left_opened [] next v at below size new = absurd (omega arith)
left_opened (visit ∷ visits) [] v at below size new = absurd (omega (arith, size))
left_opened (visit ∷ visits) (steps ∷ next) zero at below size new = let e : is_new visit ≡ true = ap is_new new in rw e (omega arith)
left_opened (visit ∷ visits) (steps ∷ next) (suc v) at below size new =
    let rest = left_opened visits next v at (omega arith) (omega (arith, size)) new in omega (arith, rest)

pub opened_less : (next : List (List ℕ)) (walk : Walk) (v : ℕ) → IsSound next walk → v < length walk.visits → visit_of walk.visits v ≡ New
    → work_of next (opened next walk v) < work_of next walk
opened_less next walk v is below new =
    omega (
      arith,
      left_opened walk.visits next v (length walk.path) below is.size new,
      length-append walk.pending (next_of next v),
      length_push walk.knots (record { first = length walk.path; step = length walk.pending }),
    )

pub opened_seen : (visits : List Visit) (v at : ℕ) → v < length visits → is_new (visit_of (set visits v (Open at)) v) ≡ false
opened_seen visits v at below = ap is_new (visit_same visits v (Open at) below)

pub other_seen : (visits : List Visit) (v : ℕ) → visit_of visits v ≢ New → is_new (visit_of visits v) ≡ false
other_seen visits v other = (elim (visit_of visits v) as (λ visit. visit_of visits v ≡ visit → is_new visit ≡ false) [
  | New ↦ λ new. absurd (other new)
  | Open at ↦ λ _. refl
  | Done on_loop ↦ λ _. refl
]) refl

-- the vertex that is opened is stepped to from one that was there
pub opened_grows : (next : List (List ℕ)) (visits : List Visit) (v u at : ℕ) → IsSeen visits u → StepsTo next u v → Grows next visits (set visits v (Open at))
opened_grows next visits v u at seen step x now_seen = elim (cases_eq x v) [
  | inl same ↦ (u, seen, inr (record { between = []; way = subst (StepsTo next u) (sym same) step }))
  | inr other ↦ (x, ap is_new (sym (visit_other visits v x (Open at) other)) ∙ now_seen, inl refl)
]

pub opened_grows_from : (next : List (List ℕ)) (visits : List Visit) (v at : ℕ) → GrowsFrom next v visits (set visits v (Open at))
opened_grows_from next visits v at x now_seen = elim (cases_eq x v) [
  | inl same ↦ inr (inl (sym same))
  | inr other ↦ inl (ap is_new (sym (visit_other visits v x (Open at) other)) ∙ now_seen)
]
