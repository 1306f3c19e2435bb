-- A graph without loops of blocks has an order.
use Rattle.std.proofs.Common.{◌≡◌, ℕ, zero, suc, ◌+◌, ◌<◌, ◌≤◌, Bool, true, false, cond, ◌||◌, List, [], ◌∷◌, ◌++◌, Option, Some, None, inl, inr, refl, sym, ◌∙◌, subst, arith, get_or, append_assoc, eq-eqb, eqb-true}
use Rattle.std.specs.Prelude.{All, IfSome, flat_map, nat_eq, slice_get, option_and_then}
use Rattle.std.specs.List.{list_all}
use Rattle.std.specs.Option.{option_map_or}
use Rattle.std.proofs.lemmas.Bool.{and_parts, or_left, or_right, cases_lt, not-true}
use Rattle.std.proofs.lemmas.List.{append-nil}
use Rattle.std.proofs.lemmas.List.Folds.{list_any-append}
use Rattle.std.proofs.lemmas.Option.{slice_get_within, slice_get-get_or}
use Rattle.board_graph.specs.declared.graph.Graph.{Graph}
use Rattle.board_graph.specs.Ways.{Leads}
use Rattle.board_graph.specs.Graph.{count_of, IsGraph, supply_at, IsIn, members, Feeds, IsOnBlockLoop}
use Rattle.board_graph.specs.Inside.Turns.{failing}
use Rattle.board_graph.specs.Order.{is_taken, is_supplied, is_ready, next_group, ComeInTurn, IsOrder}
use Rattle.board_graph.proofs.Ways.{step_leads}
use Rattle.board_graph.proofs.Members.{is_member, member_is, one_fails, next_is_ready, none_is_ready, at_taken}

-- what passes the first test passes the second
abbrev pub Implies : (ℕ → Bool) → (ℕ → Bool) → Type 0
Implies p q = (x : ℕ) → p x ≡ true → q x ≡ true

no_more_fail : (p q : ℕ → Bool) → Implies p q → (n : ℕ) → failing q n ≤ failing p n
no_more_fail p q implies zero = omega arith
no_more_fail p q implies (suc n) =
    let before = no_more_fail p q implies n in
    (elim (p n) as (λ b. p n ≡ b → cond (q n) 0 1 + failing q n ≤ cond b 0 1 + failing p n) [
      | true ↦ λ passes. rw (implies n passes) (omega (arith, before))
      | false ↦ λ _. elim (q n) as (λ b. cond b 0 1 + failing q n ≤ 1 + failing p n) [ true ↦ omega (arith, before) | false ↦ omega (arith, before) ]
    ]) refl

pub fewer_fail : (p q : ℕ → Bool) → Implies p q → (x n : ℕ) → x < n → p x ≡ false → q x ≡ true → failing q n < failing p n
fewer_fail p q implies x zero within fails passes = absurd (omega arith)
fewer_fail p q implies x (suc n) within fails passes = elim (cases_lt x n) [
  | inl below ↦
      let before = fewer_fail p q implies x n below fails passes in
      (elim (p n) as (λ b. p n ≡ b → cond (q n) 0 1 + failing q n < cond b 0 1 + failing p n) [
        | true ↦ λ is. rw (implies n is) (omega (arith, before))
        | false ↦ λ _. elim (q n) as (λ b. cond b 0 1 + failing q n < 1 + failing p n) [ true ↦ omega (arith, before) | false ↦ omega (arith, before) ]
      ]) refl
  | inr above ↦
      let last : x ≡ n = omega arith in
      let old : p n ≡ false = subst (λ y. p y ≡ false) last fails in
      let new : q n ≡ true = subst (λ y. q y ≡ true) last passes in
      rw old (rw new (omega (arith, no_more_fail p q implies n)))
]

-- how many rails aren't in the list
abbrev left : Graph → List ℕ → ℕ
left graph taken = failing (is_taken taken) (count_of graph)

supply_below : (n : ℕ) (supplies : List (Option ℕ)) (r u : ℕ) → All (λ supply. IfSome supply (λ s. s < n)) supplies
    → option_and_then (λ supply. supply) (slice_get supplies r) ≡ Some u → u < n
supply_below n [] r u all is = absurd (cc)
supply_below n (x ∷ xs) zero u all is = subst (λ supply. IfSome supply (λ s. s < n)) is (all 0 x (omega arith))
supply_below n (x ∷ xs) (suc r) u all is = supply_below n xs r u (λ k d within. all (suc k) d (omega arith)) is

-- a rail that isn't taken, with a group that feeds the given one
record Waits (graph : Graph) (taken : List ℕ) (group : ℕ) : Type 0 where
  rail : ℕ
  above : ℕ
  in_above : IsIn graph above rail
  untaken : is_taken taken rail ≡ false
  feeds : Feeds graph above group

unsupplied : (graph : Graph) → IsGraph graph → (taken : List ℕ) (group lower : ℕ) → IsIn graph group lower → is_supplied graph taken lower ≡ false → Waits graph taken group
unsupplied graph is taken group lower in_group fails =
    (elim (supply_at graph lower) as (λ o. supply_at graph lower ≡ o → option_map_or (is_taken taken) o true ≡ false → Waits graph taken group) [
      | None ↦ λ _ never. absurd (cc)
      | Some upper ↦ λ supplies untaken.
          let within : upper < count_of graph = supply_below (count_of graph) graph.supply lower upper is.rails supplies in
          let in_above = slice_get-get_or graph.group upper 0 within in
          record {
            rail = upper;
            above = get_or graph.group upper 0;
            in_above = in_above;
            untaken = untaken;
            feeds = record { upper = upper; lower = lower; supplies = supplies; in_above = in_above; in_below = in_group };
          }
    ]) refl fails

-- where no group comes next, a group of a rail that isn't taken waits for another such
waits : (graph : Graph) → IsGraph graph → (taken : List ℕ) → next_group graph taken ≡ None → (r group : ℕ) → IsIn graph group r → is_taken taken r ≡ false
    → Waits graph taken group
waits graph is taken none r group in_group untaken =
    let unready : is_ready graph taken (r, group) ≡ false = none_is_ready graph taken r group none in_group in
    let fails : list_all (is_supplied graph taken) (members graph group) ≡ false = rw untaken at unready in
    let there = one_fails (is_supplied graph taken) (members graph group) fails in
    unsupplied graph is taken group there.0 (member_is graph group there.0 there.1) there.2

-- no rail is on a loop of blocks
abbrev pub HasNoLoop : Graph → Type 0
HasNoLoop graph = (r : ℕ) → ¬ IsOnBlockLoop graph r

-- the group feeds those of the rails that were seen
abbrev FeedsSeen : Graph → ℕ → List ℕ → Type 0
FeedsSeen graph group seen = (r below : ℕ) → is_taken seen r ≡ true → IsIn graph below r → Leads (Feeds graph) group below

seen_more : (graph : Graph) (above group r : ℕ) (seen : List ℕ) → Feeds graph above group → IsIn graph group r → FeedsSeen graph group seen → FeedsSeen graph above (r ∷ seen)
seen_more graph above group r seen feeds in_group fed other below is in_below =
    (elim (nat_eq other r) as (λ b. nat_eq other r ≡ b → (b || is_taken seen other) ≡ true → Leads (Feeds graph) above below) [
      | true ↦ λ same _.
          let there : IsIn graph below r = subst (λ x. IsIn graph below x) (eqb-true other r same) in_below in
          let one : group ≡ below = cc (in_group, there) in
          subst (λ x. Leads (Feeds graph) above x) one (record { between = []; way = feeds })
      | false ↦ λ _ before. step_leads above group below feeds (fed other below before in_below)
    ]) refl is

-- from group to group upwards, no rail comes twice, and so there is an end
climbs : (graph : Graph) → IsGraph graph → HasNoLoop graph → (taken : List ℕ) → next_group graph taken ≡ None → (n : ℕ) (seen : List ℕ) (r group : ℕ)
    → IsIn graph group r → is_taken taken r ≡ false → FeedsSeen graph group seen → is_taken seen r ≡ false → left graph seen < n → ⊥
climbs graph is no_loop taken none zero seen r group in_group untaken fed unseen few = absurd (omega (arith, few))
climbs graph is no_loop taken none (suc n) seen r group in_group untaken fed unseen few =
    let up = waits graph is taken none r group in_group untaken in
    let new = seen_more graph up.above group r seen up.feeds in_group fed in
    let here : is_taken (r ∷ seen) r ≡ true = or_left _ _ (eq-eqb r r refl) in
    let less : left graph (r ∷ seen) < left graph seen =
    fewer_fail (is_taken seen) (is_taken (r ∷ seen)) (λ x before. or_right _ _ before) r (count_of graph) (slice_get_within graph.group r group in_group) unseen here in
    (elim (is_taken (r ∷ seen) up.rail) as (λ b. is_taken (r ∷ seen) up.rail ≡ b → ⊥) [
      | true ↦ λ again. no_loop up.rail (record { group = up.above; in_group = up.in_above; loop = new up.rail up.above again up.in_above })
      | false ↦ λ first. climbs graph is no_loop taken none n (r ∷ seen) up.rail up.above up.in_above up.untaken new first (omega (arith, few, less))
    ]) refl

-- every rail is among these
abbrev pub AreTaken : Graph → List ℕ → Type 0
AreTaken graph taken = (r : ℕ) → r < count_of graph → is_taken taken r ≡ true

pub none_left : (graph : Graph) → IsGraph graph → HasNoLoop graph → (taken : List ℕ) → next_group graph taken ≡ None → AreTaken graph taken
none_left graph is no_loop taken none r within =
    let in_group = slice_get-get_or graph.group r 0 within in
    (elim (is_taken taken r) as (λ b. is_taken taken r ≡ b → b ≡ true) [
      | true ↦ λ _. refl
      | false ↦ λ untaken. absurd (climbs graph is no_loop taken none (left graph [] + 1) [] r (get_or graph.group r 0) in_group untaken (λ other below never. absurd (cc)) refl (omega arith))
    ]) refl

-- a turn takes the rail that was ready
turn_takes : (graph : Graph) (taken : List ℕ) (group : ℕ) → next_group graph taken ≡ Some group → left graph (taken ++ members graph group) < left graph taken
turn_takes graph taken group next =
    let there = next_is_ready graph taken group next in
    let r : ℕ = there.0 in
    let untaken : is_taken taken r ≡ false = not-true _ (and_parts _ _ there.2).0 in
    let with_group : (x : ℕ) → is_taken (taken ++ members graph group) x ≡ (is_taken taken x || is_taken (members graph group) x) = λ x.
    list_any-append (nat_eq x) taken (members graph group) in
    fewer_fail (is_taken taken) (is_taken (taken ++ members graph group)) (λ x before. with_group x ∙ or_left _ _ before)
    r (count_of graph) (slice_get_within graph.group r group there.1) untaken (with_group r ∙ or_right _ _ (is_member graph group r there.1))

-- the turns that are left once these rails are taken
record Turns (graph : Graph) (taken : List ℕ) : Type 0 where
  groups : List ℕ
  turns : ComeInTurn graph taken groups
  all : AreTaken graph (taken ++ flat_map (members graph) groups)

turns_left : (graph : Graph) → IsGraph graph → HasNoLoop graph → (n : ℕ) (taken : List ℕ) → left graph taken < n → Turns graph taken
turns_left graph is no_loop zero taken few = absurd (omega (arith, few))
turns_left graph is no_loop (suc n) taken few =
    (elim (next_group graph taken) as (λ o. next_group graph taken ≡ o → Turns graph taken) [
      | None ↦ λ none. record { groups = []; turns = tt; all = subst (AreTaken graph) (sym (append-nil taken)) (none_left graph is no_loop taken none) }
      | Some group ↦ λ next.
          let less = turn_takes graph taken group next in
          let later = turns_left graph is no_loop n (taken ++ members graph group) (omega (arith, few, less)) in
          record { groups = group ∷ later.groups; turns = (next, later.turns); all = subst (AreTaken graph) (append_assoc taken (members graph group) (flat_map (members graph) later.groups)) later.all }
    ]) refl

pub order_exists_lem : (graph : Graph) → IsGraph graph → HasNoLoop graph → (order : List ℕ) × IsOrder graph order
order_exists_lem graph is no_loop =
    let all = turns_left graph is no_loop (left graph [] + 1) [] (omega arith) in
    (flat_map (members graph) all.groups, record { groups = all.groups; blocks = refl; turns = all.turns; all = λ r within. at_taken r _ (all.all r within) })
