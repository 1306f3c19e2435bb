-- A knot that is done.
use Rattle.std.proofs.Common.{◌≡◌, ℕ, suc, ◌+◌, ◌-◌, ◌<◌, ◌≤◌, ◌⊎◌, inl, inr, Bool, true, false, cond, List, [], ◌∷◌, ◌++◌, length, get_or, set, take, drop, reverse, refl, sym, ap, ◌∙◌, subst, arith, eq-eqb, nat_eq}
use Rattle.std.proofs.lemmas.Bool.{cases_eq, cases_lt, or_cases, or_parts, ne_eqb}
use borrow.Author.Tests.{ltb-true, ltb-false}
use Rattle.std.proofs.lemmas.List.{length-set, length_push, same_from_push, take_more, drop_more, get_or-drop, get_or-take, length-drop, length-take-le}
use Rattle.std.proofs.lemmas.List.Elements.{Contains-get_or}
use Rattle.board_graph.specs.declared.visit.Visit.{Visit}
use Rattle.board_graph.specs.declared.visit.Visit.TheVariants.{Open, Done}
use Rattle.board_graph.specs.declared.knot.Knot.{Knot}
use Rattle.board_graph.specs.declared.walk.Walk.{Walk}
use Rattle.board_graph.specs.Ways.{IsWay, Leads}
use Rattle.board_graph.specs.Order.{is_taken}
use Rattle.board_graph.specs.Inside.Net.{next_of, StepsTo}
use Rattle.board_graph.specs.Inside.Walk.{Reaches, visit_of, IsDone, IsOpenFrom, IsKnot, AreKnots, IsSound, GoOn, IsSeen, Grows, is_loop_from, is_new, left_of, work_of, AreSettled}
use Rattle.board_graph.proofs.Growth.{taken_from, from_taken}
use Rattle.board_graph.proofs.WalkKept.{leads_reach, contains_is, keep_knots, visit_same, visit_other, reach_leads, done_ahead, knots_apart}

-- the last knot has no pending steps, and its vertices are done
module _ (next : List (List ℕ)) (walk : Walk) (rest : List Knot) (knot : Knot) (later : List Visit) (on_loop : Bool)
    (is : IsSound next walk) (top : walk.knots ≡ rest ++ knot ∷ []) (none : length walk.pending ≡ knot.step)
    (loop : is_loop_from next walk.path knot.first ≡ on_loop) (settled : AreSettled walk.visits (drop knot.first walk.path) on_loop later) where
  apart : AreKnots next walk.visits walk.path walk.pending (knot ∷ reverse rest) (length walk.path) (length walk.pending)
  apart = knots_apart next walk rest knot is top

  this : IsKnot next walk.visits walk.path walk.pending knot (length walk.path) (length walk.pending)
  this = apart.0

  abbrev vertex : ℕ → ℕ
  vertex i = get_or walk.path i 0

  abbrev first : ℕ
  first = vertex knot.first

  abbrev pub in_knot : ℕ → Bool
  in_knot u = is_taken (drop knot.first walk.path) u

  place_of : (u : ℕ) → in_knot u ≡ true → (i : ℕ) × (knot.first ≤ i) × (i < length walk.path) × (vertex i ≡ u)
  place_of u taken =
      let there = from_taken (drop knot.first walk.path) u taken in (
        knot.first + there.0,
        omega arith,
        omega (arith, there.1, length-drop knot.first walk.path),
        sym (get_or-drop knot.first walk.path there.0 0) ∙ contains_is (drop knot.first walk.path) u there,
      )

  knot_has : (i : ℕ) → knot.first ≤ i → i < length walk.path → in_knot (vertex i) ≡ true
  knot_has i from below =
      let k : ℕ = i - knot.first in
      let number : knot.first + k ≡ i = omega arith in
      let within : k < length (drop knot.first walk.path) = omega (arith, length-drop knot.first walk.path) in
      let at : get_or (drop knot.first walk.path) k 0 ≡ vertex i = get_or-drop knot.first walk.path k 0 ∙ ap vertex number in
      subst (λ x. in_knot x ≡ true) at (taken_from (drop knot.first walk.path) (get_or (drop knot.first walk.path) k 0) (Contains-get_or (drop knot.first walk.path) k 0 within))

  now_done : (u : ℕ) → in_knot u ≡ true → visit_of later u ≡ Done on_loop
  now_done u taken = settled.1 u ∙ ap (λ b. cond b (Done on_loop) (visit_of walk.visits u)) taken

  as_before : (u : ℕ) → in_knot u ≡ false → visit_of later u ≡ visit_of walk.visits u
  as_before u untaken = settled.1 u ∙ ap (λ b. cond b (Done on_loop) (visit_of walk.visits u)) untaken

  pub settles : GoOn walk.visits later
  settles = record {
    done = λ u done. (elim (in_knot u) as (λ b. in_knot u ≡ b → IsDone later u) [
      | true ↦ λ taken. (on_loop, now_done u taken)
      | false ↦ λ untaken. (done.0, as_before u untaken ∙ done.1)
    ]) refl;
    opens = λ u at there. (elim (in_knot u) as (λ b. in_knot u ≡ b → (visit_of later u ≡ Open at) ⊎ IsDone later u) [
      | true ↦ λ taken. inr (on_loop, now_done u taken)
      | false ↦ λ untaken. inl (as_before u untaken ∙ there)
    ]) refl;
  }

  -- two places have two vertices
  same_place : (i j : ℕ) → i < length walk.path → j < length walk.path → vertex i ≡ vertex j → i ≡ j
  same_place i j i_in j_in same =
      let opens : Open i ≡ Open j = sym (is.places i i_in) ∙ ap (visit_of walk.visits) same ∙ is.places j j_in in
      cc

  -- the vertices of the knot were open
  pub knot_seen : (v : ℕ) → in_knot v ≡ true → is_new (visit_of walk.visits v) ≡ false
  knot_seen v taken = let there = place_of v taken in ap is_new (ap (visit_of walk.visits) (sym there.3) ∙ is.places there.0 there.2)

  -- no step is pending, so each leads to what is done or of the knot
  ahead : (i u : ℕ) → knot.first ≤ i → i < length walk.path → StepsTo next (vertex i) u → IsDone walk.visits u ⊎ IsOpenFrom walk.visits knot.first u
  ahead i u from below step = elim (this.to i u from below step) [
    | inl pends ↦ absurd (omega (arith, pends.1, pends.2))
    | inr others ↦ others
  ]

  loops : on_loop ≡ true → Leads (StepsTo next) first first
  loops true_is = elim (or_cases _ _ (loop ∙ true_is)) [
    | inl several ↦
        let more : knot.first + 1 < length walk.path = ltb-true (knot.first + 1) (length walk.path) several in
        let there : Reaches next first (vertex (knot.first + 1)) = is.rises knot.first (knot.first + 1) (omega arith) more in
        let back : Reaches next (vertex (knot.first + 1)) first = this.back (knot.first + 1) (omega arith) more in
        elim there [
          | inl same ↦ absurd (omega (arith, same_place knot.first (knot.first + 1) (omega arith) more same))
          | inr leads ↦ leads_reach next first (vertex (knot.first + 1)) first leads back
        ]
    | inr itself ↦ record { between = []; way = from_taken (next_of next first) first itself }
  ]

  loops_not : on_loop ≡ false → ¬ Leads (StepsTo next) first first
  loops_not false_is leads =
      let both = or_parts _ _ (loop ∙ false_is) in
      let alone : length walk.path ≤ knot.first + 1 = ltb-false (knot.first + 1) (length walk.path) both.0 in
      by alone both.1 leads.between leads.way
    where
      to_done : (u : ℕ) → length walk.path ≤ knot.first + 1 → is_taken (next_of next first) first ≡ false → StepsTo next first u → IsDone walk.visits u
      to_done u alone itself step = elim (ahead knot.first u (omega arith) this.some step) [
        | inl done ↦ done
        | inr there ↦
            let old = is.opens u there.0 there.2 in
            let here : there.0 ≡ knot.first = omega (arith, there.1, old.0) in
            let same : first ≡ u = ap vertex (sym here) ∙ old.1 in
            let again : is_taken (next_of next first) first ≡ true = taken_from (next_of next first) first (subst (StepsTo next first) (sym same) step) in
            absurd (cc)
      ]

      never : IsDone walk.visits first → ⊥
      never done = let opens = is.places knot.first this.some in cc (opens, done.1)

      by : length walk.path ≤ knot.first + 1 → is_taken (next_of next first) first ≡ false → (between : List ℕ) → IsWay (StepsTo next) first between first → ⊥
      by alone itself [] way = never (to_done first alone itself way)
      by alone itself (via ∷ rest) way = never (done_ahead next walk is via first rest (to_done via alone itself way.0) way.1)

  closed_steps : (v u : ℕ) → IsDone later v → StepsTo next v u → IsDone later u
  closed_steps v u done step = (elim (in_knot v) as (λ b. in_knot v ≡ b → IsDone later u) [
    | true ↦ λ taken.
        let there = place_of v taken in
        elim (ahead there.0 u there.1 there.2 (subst (λ x. StepsTo next x u) (sym there.3) step)) [
          | inl done ↦ settles.done u done
          | inr open_from ↦
              let old = is.opens u open_from.0 open_from.2 in
              (on_loop, now_done u (subst (λ x. in_knot x ≡ true) old.1 (knot_has open_from.0 open_from.1 old.0)))
        ]
    | false ↦ λ untaken. settles.done u (is.done_steps v u (done.0, sym (as_before v untaken) ∙ done.1) step)
  ]) refl

  closed_loop : (v : ℕ) → visit_of later v ≡ Done true → Leads (StepsTo next) v v
  closed_loop v done = (elim (in_knot v) as (λ b. in_knot v ≡ b → Leads (StepsTo next) v v) [
    | true ↦ λ taken.
        let there = place_of v taken in
        let same : Done on_loop ≡ Done true = sym (now_done v taken) ∙ done in
        let true_is : on_loop ≡ true = cc in
        subst (λ x. Leads (StepsTo next) x x) there.3
        (reach_leads next (vertex there.0) first (vertex there.0) (this.back there.0 there.1 there.2)
        (leads_reach next first first (vertex there.0) (loops true_is) (is.rises knot.first there.0 there.1 there.2)))
    | false ↦ λ untaken. is.on_loop v (sym (as_before v untaken) ∙ done)
  ]) refl

  closed_none : (v : ℕ) → visit_of later v ≡ Done false → ¬ Leads (StepsTo next) v v
  closed_none v done = (elim (in_knot v) as (λ b. in_knot v ≡ b → ¬ Leads (StepsTo next) v v) [
    | true ↦ λ taken.
        let there = place_of v taken in
        let same : Done on_loop ≡ Done false = sym (now_done v taken) ∙ done in
        let false_is : on_loop ≡ false = cc in
        let alone : length walk.path ≤ knot.first + 1 = ltb-false (knot.first + 1) (length walk.path) (or_parts _ _ (loop ∙ false_is)).0 in
        let here : knot.first ≡ there.0 = omega (arith, there.1, there.2) in
        let is_first : first ≡ v = ap vertex here ∙ there.3 in
        subst (λ x. ¬ Leads (StepsTo next) x x) is_first (loops_not false_is)
    | false ↦ λ untaken. is.on_none v (sym (as_before v untaken) ∙ done)
  ]) refl

  not_in_knot : (i : ℕ) → i < knot.first → in_knot (vertex i) ≡ false
  not_in_knot i below = (elim (in_knot (vertex i)) as (λ b. in_knot (vertex i) ≡ b → b ≡ false) [
    | true ↦ λ taken.
        let there = place_of (vertex i) taken in
        absurd (omega (arith, there.1, same_place there.0 i there.2 (omega (arith, this.some)) there.3))
    | false ↦ λ _. refl
  ]) refl

  pub closed_sound : IsSound next (record { visits = later; path = take knot.first walk.path; pending = walk.pending; knots = rest })
  closed_sound =
      let long : length (take knot.first walk.path) ≡ knot.first = length-take-le knot.first walk.path (omega (arith, this.some)) in
      record {
        size = settled.0 ∙ is.size;
        places = λ i within. let below : i < knot.first = omega arith in
            rw (get_or-take knot.first walk.path i 0 below) (as_before (vertex i) (not_in_knot i below) ∙ is.places i (omega (arith, this.some)));
        opens = λ v i there. (elim (in_knot v) as (λ b. in_knot v ≡ b → (i < length (take knot.first walk.path)) × (get_or (take knot.first walk.path) i 0 ≡ v)) [
          | true ↦ λ taken. let done = now_done v taken in absurd (cc (there, done))
          | false ↦ λ untaken.
              let old = is.opens v i (sym (as_before v untaken) ∙ there) in
              elim (cases_lt i knot.first) [
                | inl below ↦ (omega arith, get_or-take knot.first walk.path i 0 below ∙ old.1)
                | inr from ↦ let taken : in_knot v ≡ true = subst (λ x. in_knot x ≡ true) old.1 (knot_has i from old.0) in absurd (cc)
              ]
        ]) refl;
        rises = λ i j less within. let below : j < knot.first = omega arith in
            rw (get_or-take knot.first walk.path i 0 (omega arith)) (rw (get_or-take knot.first walk.path j 0 below) (is.rises i j less (omega (arith, this.some))));
        done_steps = closed_steps;
        on_loop = closed_loop;
        on_none = closed_none;
        knots = rw long (rw none
            (keep_knots next walk.visits later walk.path (take knot.first walk.path) walk.pending walk.pending (reverse rest) knot.first knot.step
            (λ i below. get_or-take knot.first walk.path i 0 below) (λ p below. refl) settles apart.1));
      }

left_same : (visits later : List Visit) (next : List (List ℕ)) → length later ≡ length visits → ((v : ℕ) → is_new (visit_of later v) ≡ is_new (visit_of visits v))
    → left_of later next ≡ left_of visits next
left_same [] [] next size same = refl
left_same [] (visit ∷ later) next size same = absurd (omega (arith, size))
left_same (visit ∷ visits) [] next size same = absurd (omega (arith, size))
left_same (visit ∷ visits) (other ∷ later) [] size same = refl
left_same (visit ∷ visits) (other ∷ later) (steps ∷ next) size same =
    let rest = left_same visits later next (omega (arith, size)) (λ v. same (suc v)) in
    let here : is_new other ≡ is_new visit = same 0 in
    rw here (omega (arith, rest))

pub settled_same : (next : List (List ℕ)) (visits later : List Visit) (done : List ℕ) (on_loop : Bool) → ((v : ℕ) → is_taken done v ≡ true → is_new (visit_of visits v) ≡ false)
    → AreSettled visits done on_loop later → left_of later next ≡ left_of visits next
settled_same next visits later done on_loop seen settled = left_same visits later next settled.0 (λ v. ap is_new (settled.1 v) ∙ by v (is_taken done v) refl) where
  by : (v : ℕ) (b : Bool) → is_taken done v ≡ b → is_new (cond b (Done on_loop) (visit_of visits v)) ≡ is_new (visit_of visits v)
  by v true taken = sym (seen v taken)
  by v false taken = refl

pub settled_grows : (next : List (List ℕ)) (visits later : List Visit) (done : List ℕ) (on_loop : Bool) → ((v : ℕ) → is_taken done v ≡ true → IsSeen visits v)
    → AreSettled visits done on_loop later → Grows next visits later
settled_grows next visits later done on_loop seen settled v now_seen = (v, by (is_taken done v) refl, inl refl) where
  by : (b : Bool) → is_taken done v ≡ b → IsSeen visits v
  by true taken = seen v taken
  by false untaken = ap is_new (sym (settled.1 v ∙ ap (λ b. cond b (Done on_loop) (visit_of visits v)) untaken)) ∙ now_seen

-- one vertex more is done
pub settle_more : (visits settled : List Visit) (whole path fewer : List ℕ) (v : ℕ) (on_loop : Bool)
    → ((i : ℕ) → i < length whole → get_or whole i 0 < length visits) → path ≡ fewer ++ v ∷ [] → path ≡ take (length path) whole → length path ≤ length whole
    → AreSettled visits (drop (length path) whole) on_loop settled
    → (fewer ≡ take (length fewer) whole) × AreSettled visits (drop (length fewer) whole) on_loop (set settled v (Done on_loop))
settle_more visits settled whole path fewer v on_loop vertices last front short before =
    let more : length path ≡ length fewer + 1 = ap length last ∙ length_push fewer v in
    let both : (fewer ≡ take (length fewer) whole) × (v ≡ get_or whole (length fewer) 0) =
    same_from_push fewer (take (length fewer) whole) v (get_or whole (length fewer) 0)
    (sym last ∙ front ∙ ap (λ n. take n whole) more ∙ take_more whole (length fewer) 0 (omega arith)) in
    let rest : drop (length fewer) whole ≡ v ∷ drop (length path) whole =
    drop_more whole (length fewer) 0 (omega arith) ∙ rw (sym both.1) (ap (λ n. v ∷ drop n whole) (sym more)) in
    let below : v < length visits = rw both.1 (vertices (length fewer) (omega arith)) in (
      both.0,
      (
        length-set settled v (Done on_loop) ∙ before.0,
        λ u. rw rest (elim (cases_eq u v) [
          | inl same ↦
              let here : nat_eq u v ≡ true = eq-eqb u v same in
              ap (visit_of (set settled v (Done on_loop))) same ∙ visit_same settled v (Done on_loop) (omega (arith, before.0)) ∙ rw here refl
          | inr other ↦
              let unlike : nat_eq u v ≡ false = ne_eqb u v other in
              visit_other settled v u (Done on_loop) other ∙ before.1 u ∙ rw unlike refl
        ]),
      ),
    )

-- a walk whose last knot is done
module _ (next : List (List ℕ)) (walk after : Walk) (rest : List Knot) (knot : Knot) (is : IsSound next walk) (top : walk.knots ≡ rest ++ knot ∷ []) (none : length walk.pending ≡ knot.step)
    (settled : AreSettled walk.visits (drop knot.first walk.path) (is_loop_from next walk.path knot.first) after.visits)
    (path : after.path ≡ take knot.first walk.path) (pending : after.pending ≡ walk.pending) (knots : after.knots ≡ rest) where
  pub after_sound : IsSound next after
  after_sound =
      let all = closed_sound next walk rest knot after.visits (is_loop_from next walk.path knot.first) is top none refl settled in
      subst (λ front. IsSound next (record { visits = after.visits; path = front; pending = after.pending; knots = after.knots })) (sym path)
      (subst (λ steps. IsSound next (record { visits = after.visits; path = take knot.first walk.path; pending = steps; knots = after.knots })) (sym pending)
      (subst (λ others. IsSound next (record { visits = after.visits; path = take knot.first walk.path; pending = walk.pending; knots = others })) (sym knots) all))

  pub after_goes : GoOn walk.visits after.visits
  after_goes = settles next walk rest knot after.visits (is_loop_from next walk.path knot.first) is top none refl settled

  pub after_grows : Grows next walk.visits after.visits
  after_grows = settled_grows next walk.visits after.visits (drop knot.first walk.path) (is_loop_from next walk.path knot.first)
      (knot_seen next walk rest knot after.visits (is_loop_from next walk.path knot.first) is top none refl settled) settled

  pub after_less : work_of next after < work_of next walk
  after_less =
      let same = settled_same next walk.visits after.visits (drop knot.first walk.path) (is_loop_from next walk.path knot.first)
      (knot_seen next walk rest knot after.visits (is_loop_from next walk.path knot.first) is top none refl settled) settled in
      omega (arith, same, ap length pending, ap length knots, ap length top, length_push rest knot)
