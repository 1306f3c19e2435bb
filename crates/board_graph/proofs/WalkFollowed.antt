-- A pending step that joins two knots or leads nowhere new.
use Rattle.std.proofs.Common.{◌≡◌, ℕ, ◌+◌, ◌<◌, ◌≤◌, ◌⊎◌, inl, inr, List, [], ◌∷◌, ◌++◌, length, get_or, reverse, refl, sym, ap, ◌∙◌, subst, arith}
use Rattle.std.proofs.lemmas.Bool.{cases_lt}
use Rattle.std.proofs.lemmas.List.{length_push, get_or_push, get_or_append_left}
use Rattle.board_graph.specs.declared.visit.Visit.TheVariants.{Open}
use Rattle.board_graph.specs.declared.knot.Knot.{Knot}
use Rattle.board_graph.specs.declared.walk.Walk.{Walk}
use Rattle.board_graph.specs.Ways.{Leads}
use Rattle.board_graph.specs.Inside.Net.{StepsTo, IsNet}
use Rattle.board_graph.specs.Inside.Walk.{Reaches, visit_of, IsDone, IsOpenFrom, IsKnot, AreKnots, IsSound, IsSeen, is_new}
use Rattle.board_graph.proofs.WalkKept.{reach_step, reaches, leads_reach, stays, Agree, keep_knots, last_first, knots_apart}

-- the last pending step leads to a vertex that is open before the last knot, and so that joins the one before it
module _ (next : List (List ℕ)) (walk : Walk) (rest : List Knot) (knot : Knot) (earlier : List ℕ) (v at : ℕ)
    (is : IsSound next walk) (top : walk.knots ≡ rest ++ knot ∷ []) (last : walk.pending ≡ earlier ++ v ∷ []) (some : knot.step ≤ length earlier) where
  last_at : get_or walk.pending (length earlier) 0 ≡ v
  last_at = rw last (get_or_push earlier v 0 (length earlier) refl)

  one_more : length walk.pending ≡ length earlier + 1
  one_more = ap length last ∙ length_push earlier v

  join_knots : (below : List Knot) → visit_of walk.visits v ≡ Open at → at < knot.first
      → IsKnot next walk.visits walk.path walk.pending knot (length walk.path) (length walk.pending)
      → AreKnots next walk.visits walk.path walk.pending below knot.first knot.step
      → AreKnots next walk.visits walk.path walk.pending below (length walk.path) (length walk.pending)
  join_knots [] opens before this are = absurd (omega (arith, are))
  join_knots (lower ∷ below) opens before this are =
      let low = are.0 in
      let open_at = is.opens v at opens in
      let from = this.from (length earlier) some (omega (arith, one_more)) in
      let step : StepsTo next (get_or walk.path from.0 0) v = subst (StepsTo next (get_or walk.path from.0 0)) last_at from.3 in
      let home : Reaches next v (get_or walk.path lower.first 0) = subst (λ x. Reaches next x (get_or walk.path lower.first 0)) open_at.1 (elim (cases_lt at lower.first) [
        | inl less ↦ is.rises at lower.first (omega arith) (omega (arith, low.some, this.some))
        | inr more ↦ low.back at more before
      ]) in
      let around : Leads (StepsTo next) (get_or walk.path knot.first 0) (get_or walk.path lower.first 0) =
      leads_reach next (get_or walk.path knot.first 0) v (get_or walk.path lower.first 0)
      (reach_step next (get_or walk.path knot.first 0) (get_or walk.path from.0 0) v (is.rises knot.first from.0 from.1 from.2) step) home in (
        record {
          some = omega (arith, low.some, this.some);
          steps = omega (arith, low.steps, this.steps);
          back = λ i first within. elim (cases_lt i knot.first) [
            | inl less ↦ low.back i first less
            | inr more ↦ reaches next (get_or walk.path i 0) (get_or walk.path knot.first 0) (get_or walk.path lower.first 0) (this.back i more within) (inr around)
          ];
          from = λ p first within. elim (cases_lt p knot.step) [
            | inl less ↦ let there = low.from p first less in (there.0, there.1, omega (arith, there.2, this.some), there.3)
            | inr more ↦ let there = this.from p more within in (there.0, omega (arith, there.1, low.some), there.2, there.3)
          ];
          to = λ i u first within goes. elim (cases_lt i knot.first) [
            | inl less ↦ elim (low.to i u first less goes) [
              | inl pends ↦ inl (pends.0, pends.1, omega (arith, pends.2, this.steps), pends.3)
              | inr others ↦ inr others
            ]
            | inr more ↦ elim (this.to i u more within goes) [
              | inl pends ↦ inl (pends.0, omega (arith, pends.1, low.steps), pends.2, pends.3)
              | inr (inl done) ↦ inr (inl done)
              | inr (inr there) ↦ inr (inr (there.0, omega (arith, there.1, low.some), there.2))
            ]
          ];
        },
        are.1,
      )

  pub joined_sound : visit_of walk.visits v ≡ Open at → at < knot.first → IsSound next (record walk { knots = rest })
  joined_sound opens before =
      let both = knots_apart next walk rest knot is top in
      record {
        size = is.size;
        places = is.places;
        opens = is.opens;
        rises = is.rises;
        done_steps = is.done_steps;
        on_loop = is.on_loop;
        on_none = is.on_none;
        knots = join_knots (reverse rest) opens before both.0 both.1;
      }

  -- the last pending step has been followed
  followed : IsKnot next walk.visits walk.path walk.pending knot (length walk.path) (length walk.pending)
      → (IsDone walk.visits v ⊎ IsOpenFrom walk.visits knot.first v) → IsKnot next walk.visits walk.path earlier knot (length walk.path) (length earlier)
  followed this known = record {
    some = this.some;
    steps = some;
    back = this.back;
    from = λ p first within. let there = this.from p first (omega (arith, one_more)) in
        (there.0, there.1, there.2, subst (StepsTo next (get_or walk.path there.0 0)) (earlier_at p within) there.3);
    to = λ i u first within goes. elim (this.to i u first within goes) [
      | inl pends ↦ elim (cases_lt pends.0 (length earlier)) [
        | inl less ↦ inl (pends.0, pends.1, less, sym (earlier_at pends.0 less) ∙ pends.3)
        | inr more ↦
            let here : pends.0 ≡ length earlier = omega (arith, pends.2, one_more) in
            let same : v ≡ u = sym last_at ∙ ap (λ p. get_or walk.pending p 0) (sym here) ∙ pends.3 in
            inr (subst (λ x. IsDone walk.visits x ⊎ IsOpenFrom walk.visits knot.first x) same known)
      ]
      | inr others ↦ inr others
    ];
  } where
    earlier_at : (p : ℕ) → p < length earlier → get_or walk.pending p 0 ≡ get_or earlier p 0
    earlier_at p within = rw last (get_or_append_left earlier (v ∷ []) 0 p within)

  pub followed_sound : (IsDone walk.visits v ⊎ IsOpenFrom walk.visits knot.first v) → IsSound next (record walk { pending = earlier })
  followed_sound known =
      let both = knots_apart next walk rest knot is top in
      let same_before : Agree knot.step walk.pending earlier = λ p within. rw last (sym (get_or_append_left earlier (v ∷ []) 0 p (omega arith))) in
      record {
        size = is.size;
        places = is.places;
        opens = is.opens;
        rises = is.rises;
        done_steps = is.done_steps;
        on_loop = is.on_loop;
        on_none = is.on_none;
        knots = subst (λ knots. AreKnots next walk.visits walk.path earlier knots (length walk.path) (length earlier)) (sym (ap reverse top ∙ last_first rest knot))
            (followed both.0 known, keep_knots next walk.visits walk.visits walk.path walk.path walk.pending earlier (reverse rest) knot.first knot.step (λ i below. refl) same_before (stays walk.visits) both.1);
      }

-- where a pending step of the last knot leads
module _ (next : List (List ℕ)) (walk : Walk) (rest : List Knot) (knot : Knot) (p : ℕ)
    (is : IsSound next walk) (top : walk.knots ≡ rest ++ knot ∷ []) (some : knot.step ≤ p) (below : p < length walk.pending) where
  this_knot : IsKnot next walk.visits walk.path walk.pending knot (length walk.path) (length walk.pending)
  this_knot = (knots_apart next walk rest knot is top).0

  pub to_vertex : IsNet next → get_or walk.pending p 0 < length next
  to_vertex net = let from = this_knot.from p some below in net (get_or walk.path from.0 0) (get_or walk.pending p 0) from.3

  pub all_lead : (i : ℕ) → i < length walk.path → Leads (StepsTo next) (get_or walk.path i 0) (get_or walk.pending p 0)
  all_lead i within =
      let from = this_knot.from p some below in
      reach_step next (get_or walk.path i 0) (get_or walk.path from.0 0) (get_or walk.pending p 0) (elim (cases_lt i knot.first) [
        | inl less ↦ is.rises i from.0 (omega (arith, from.1)) from.2
        | inr more ↦ reaches next (get_or walk.path i 0) (get_or walk.path knot.first 0) (get_or walk.path from.0 0) (this_knot.back i more within) (is.rises knot.first from.0 from.1 from.2)
      ]) from.3

-- a pending step is a step of a vertex that was seen
pub pending_seen : (next : List (List ℕ)) (walk : Walk) (rest : List Knot) (knot : Knot) (p : ℕ) → IsSound next walk → walk.knots ≡ rest ++ knot ∷ []
    → knot.step ≤ p → p < length walk.pending → (u : ℕ) × IsSeen walk.visits u × StepsTo next u (get_or walk.pending p 0)
pending_seen next walk rest knot p is top some below =
    let from = (knots_apart next walk rest knot is top).0.from p some below in
    (get_or walk.path from.0 0, ap is_new (is.places from.0 from.2), from.3)
