-- The blocks of leaders that come in turn are the order of a graph.
use Rattle.std.proofs.Common.{◌≡◌, ℕ, zero, suc, ◌+◌, ◌<◌, ◌&&◌, inl, inr, Bool, true, false, not, cond, List, [], ◌∷◌, ◌++◌, Option, Some, None, Result, Ok, Err, length, get_or, take, map, filter, flat_map, refl, sym, ap, ◌∙◌, subst, arith, slice_get, eq-eqb, eqb-true, nat_eq, Contains, append_assoc}
use Rattle.std.specs.List.{count_by, enumerate_from, list_all}
use Rattle.std.specs.Option.{option_map_or}
use Rattle.std.specs.Result.{IfOk}
use Rattle.std.specs.declared.alloc.AllocError.{AllocError}
use Rattle.std.proofs.lemmas.Bool.{and_parts, and_from, not-false, lt-ltb, ltb-true}
use Rattle.std.proofs.lemmas.List.{append-nil, length-take-le, take_more, map-append}
use Rattle.std.proofs.lemmas.List.Folds.{list_any-append}
use Rattle.std.proofs.lemmas.List.Sums.{sum_by-cons}
use Rattle.std.proofs.lemmas.Option.{slice_get_within, slice_get-get_or, get_or_from_slice_get}
use Rattle.board_graph.specs.declared.graph.Graph.{Graph}
use Rattle.board_graph.specs.declared.feeds.Feeds.{Feeds}
use Rattle.board_graph.specs.Graph.{count_of, supply_at, IsGraph, IsIn, members, IsOnBlockLoop}
use Rattle.board_graph.specs.Loops.{IsLeastSuch}
use Rattle.board_graph.specs.Order.{is_taken, is_supplied, is_ready, next_group, ComeInTurn, IsOrder}
use Rattle.board_graph.specs.Inside.Lists.{listed, turned, AreBelow, AreLists}
use Rattle.board_graph.specs.Inside.Blocks.{AreLeaders, AreFeedsOf, feeds_of}
use Rattle.board_graph.specs.Inside.Turns.{waiting, is_leader, is_next, LeadersInTurn, AreAllTurns, AreFeeds}
use Rattle.board_graph.proofs.Members.{is_member, member_is, all_at, all_from, at_taken, ready_is_next, none_ready_next}
use Rattle.board_graph.proofs.OrderExists.{none_left}
use Rattle.board_graph.proofs.NetLemmas.{HasPair, pair_feeds, feed_pair, feed_rails, leader_rail, pair_cases, later_pair}
use Rattle.board_graph.proofs.TurnLemmas.{taken_push}

-- where nothing is counted nothing passes, and the other way round
count_none : (test : ℕ × ℕ → Bool) (pairs : List (ℕ × ℕ)) → ((a b : ℕ) → HasPair pairs a b → test (a, b) ≡ false) → count_by test pairs ≡ 0
count_none test [] none = refl
count_none test (pair ∷ pairs) none =
    let here : test pair ≡ false = none pair.0 pair.1 (0, omega arith, refl) in
    let zero_is : cond {A = ℕ} (test pair) 1 0 ≡ 0 = rw here refl in
    omega (arith, zero_is, count_none test pairs (λ a b has. none a b (later_pair pair (a, b) pairs has)), sum_by-cons (λ p. cond (test p) 1 0) pair pairs)

none_counted : (test : ℕ × ℕ → Bool) (pairs : List (ℕ × ℕ)) (a b : ℕ) → count_by test pairs ≡ 0 → HasPair pairs a b → test (a, b) ≡ false
none_counted test [] a b none has = absurd (omega (arith, has.1))
none_counted test (pair ∷ pairs) a b none has =
    let parts = sum_by-cons (λ p. cond (test p) 1 0) pair pairs in
    elim (pair_cases pair (a, b) pairs has) [
      | inl same ↦ subst (λ p. test p ≡ false) same (by (test pair) (omega (arith, parts, none)))
      | inr later ↦ none_counted test pairs a b (omega (arith, parts, none)) later
    ]
  where
    by : (t : Bool) → cond {A = ℕ} t 1 0 ≡ 0 → t ≡ false
    by true never = absurd (omega (arith, never))
    by false is = refl

same_truth : (a b : Bool) → (a ≡ true → b ≡ true) → (b ≡ true → a ≡ true) → a ≡ b
same_truth true b to from = sym (to refl)
same_truth false true to from = from refl
same_truth false false to from = refl

-- the rails with one leader are those with its group
listed_members : (leader group n : ℕ) (leaders groups : List ℕ) → length leaders ≡ length groups → ((i : ℕ) → i < length groups → nat_eq (get_or leaders i 0) leader ≡ nat_eq (get_or groups i 0) group)
    → listed (turned (enumerate_from n leaders)) leader ≡ map (λ p. p.0) (filter (λ p. nat_eq p.1 group) (enumerate_from n groups))
listed_members leader group n [] [] size same = refl
listed_members leader group n [] (g ∷ groups) size same = absurd (omega (arith, size))
listed_members leader group n (l ∷ leaders) [] size same = absurd (omega (arith, size))
listed_members leader group n (l ∷ leaders) (g ∷ groups) size same =
    let here : nat_eq l leader ≡ nat_eq g group = same 0 (omega arith) in
    let rest = listed_members leader group (n + 1) leaders groups (omega (arith, size)) (λ i within. same (suc i) (omega arith)) in
    rw here (by (nat_eq g group) rest)
  where
    by : (b : Bool) → listed (turned (enumerate_from (n + 1) leaders)) leader ≡ map (λ p. p.0) (filter (λ p. nat_eq p.1 group) (enumerate_from (n + 1) groups))
        → map (λ p. p.1) (cond b ((l, n) ∷ filter (λ p. nat_eq p.0 leader) (turned (enumerate_from (n + 1) leaders))) (filter (λ p. nat_eq p.0 leader) (turned (enumerate_from (n + 1) leaders))))
        ≡ map (λ p. p.0) (cond b ((n, g) ∷ filter (λ p. nat_eq p.1 group) (enumerate_from (n + 1) groups)) (filter (λ p. nat_eq p.1 group) (enumerate_from (n + 1) groups)))
    by true rest = ap (λ xs. n ∷ xs) rest
    by false rest = rest

module _ (graph : Graph) (leaders : List ℕ) (feeds : Feeds) (is : IsGraph graph) (led : AreLeaders graph.group leaders) (are : AreFeedsOf graph leaders feeds) where
  abbrev group_at : ℕ → ℕ
  group_at v = get_or graph.group v 0

  in_own : (r : ℕ) → r < count_of graph → IsIn graph (group_at r) r
  in_own r below = slice_get-get_or graph.group r 0 below

  leader_is : (r : ℕ) → r < count_of graph → is_leader leaders (get_or leaders r 0) ≡ true
  leader_is r below =
      let rail = leader_rail graph leaders r led below in
      and_from _ _ (lt-ltb (get_or leaders r 0) (length leaders) (omega (arith, rail, led.size)))
      (eq-eqb (get_or leaders (get_or leaders r 0) 0) (get_or leaders r 0) (led.one (get_or leaders r 0) r rail below (led.block r below)))

  leads_within : (l : ℕ) → is_leader leaders l ≡ true → l < count_of graph
  leads_within l leads = omega (arith, led.size, ltb-true l (length leaders) (and_parts _ _ leads).0)

  leads_itself : (l : ℕ) → is_leader leaders l ≡ true → get_or leaders l 0 ≡ l
  leads_itself l leads = eqb-true (get_or leaders l 0) l (and_parts _ _ leads).1

  pub all_feeds : AreFeeds leaders feeds
  all_feeds = record {
    lists = subst (λ n. AreLists n feeds.pairs feeds.down) (sym led.size) are.lists;
    led = λ a b has.
        let feed = pair_feeds graph leaders false (count_of graph) a b (subst (λ pairs. HasPair pairs a b) are.pairs has) in
        let rails = feed_rails graph false feed.upper feed.lower is feed.feeds in
        (subst (λ x. is_leader leaders x ≡ true) feed.leads_upper (leader_is feed.upper rails.0), subst (λ x. is_leader leaders x ≡ true) feed.leads_lower (leader_is feed.lower rails.1));
  }

  -- a rail has a leader where it has the leader's group
  same_group : (l r : ℕ) → is_leader leaders l ≡ true → r < count_of graph → nat_eq (get_or leaders r 0) l ≡ nat_eq (group_at r) (group_at l)
  same_group l r leads below =
      let l_in = leads_within l leads in
      same_truth (nat_eq (get_or leaders r 0) l) (nat_eq (group_at r) (group_at l))
      (λ one.
      let same : get_or leaders r 0 ≡ l = eqb-true (get_or leaders r 0) l one in
      let there : IsIn graph (group_at r) l = subst (λ x. IsIn graph (group_at r) x) same (led.block r below ∙ in_own r below) in
      let here = in_own l l_in in
      eq-eqb (group_at r) (group_at l) (cc (there, here)))
      (λ one.
      let same : group_at r ≡ group_at l = eqb-true (group_at r) (group_at l) one in
      eq-eqb (get_or leaders r 0) l (led.one r l below l_in (in_own r below ∙ ap Some same ∙ sym (in_own l l_in)) ∙ leads_itself l leads))

  members_are : (lists : List (List ℕ)) (l : ℕ) → AreLists (length leaders) (turned (enumerate_from 0 leaders)) lists → is_leader leaders l ≡ true → get_or lists l [] ≡ members graph (group_at l)
  members_are lists l shared leads =
      shared.at l (ltb-true l (length leaders) (and_parts _ _ leads).0)
      ∙ listed_members l (group_at l) 0 leaders graph.group led.size (λ r below. same_group l r leads below)

  member_test : (l r : ℕ) → is_leader leaders l ≡ true → r < count_of graph → is_taken (members graph (group_at l)) r ≡ nat_eq (get_or leaders r 0) l
  member_test l r leads below =
      same_truth (is_taken (members graph (group_at l)) r) (nat_eq (get_or leaders r 0) l)
      (λ taken.
      let there : IsIn graph (group_at l) r = member_is graph (group_at l) r taken in
      let here = in_own r below in
      same_group l r leads below ∙ eq-eqb (group_at r) (group_at l) (cc (there, here)))
      (λ one.
      let same : group_at r ≡ group_at l = eqb-true (group_at r) (group_at l) (sym (same_group l r leads below) ∙ one) in
      is_member graph (group_at l) r (subst (λ g. IsIn graph g r) same (in_own r below)))

  -- the rails that are taken are those whose leader is
  abbrev Agrees : List ℕ → List ℕ → Type 0
  Agrees rails taken = (r : ℕ) → r < count_of graph → is_taken rails r ≡ is_taken taken (get_or leaders r 0)

  agrees_more : (rails taken : List ℕ) (l : ℕ) → Agrees rails taken → is_leader leaders l ≡ true → Agrees (rails ++ members graph (group_at l)) (taken ++ l ∷ [])
  agrees_more rails taken l agree leads r below =
      list_any-append (nat_eq r) rails (members graph (group_at l)) ∙ rw (agree r below) (rw (member_test l r leads below) (sym (taken_push taken l (get_or leaders r 0))))

  -- a rail's block may come where its leader may
  module _ (rails taken : List ℕ) (agree : Agrees rails taken) where
    ready_next : (r : ℕ) → r < count_of graph → is_ready graph rails (r, group_at r) ≡ true → is_next leaders feeds.pairs taken (get_or leaders r 0) ≡ true
    ready_next r below ready =
        let both = and_parts _ _ ready in
        let untaken : not (is_taken taken (get_or leaders r 0)) ≡ true = ap not (sym (agree r below)) ∙ both.0 in
        let none : waiting feeds.pairs taken (get_or leaders r 0) ≡ 0 =
        count_none (λ p. nat_eq p.1 (get_or leaders r 0) && not (is_taken taken p.0)) feeds.pairs (λ a b has. by a b has both.1 (nat_eq b (get_or leaders r 0)) refl) in
        and_from _ _ (and_from _ _ (leader_is r below) untaken) (eq-eqb (waiting feeds.pairs taken (get_or leaders r 0)) 0 none)
      where
        by : (a b : ℕ) → HasPair feeds.pairs a b → list_all (is_supplied graph rails) (members graph (group_at r)) ≡ true → (t : Bool) → nat_eq b (get_or leaders r 0) ≡ t → (t && not (is_taken taken a)) ≡ false
        by a b has all false other = refl
        by a b has all true one =
            let feed = pair_feeds graph leaders false (count_of graph) a b (subst (λ pairs. HasPair pairs a b) are.pairs has) in
            let both = feed_rails graph false feed.upper feed.lower is feed.feeds in
            let here : get_or leaders feed.lower 0 ≡ get_or leaders r 0 = feed.leads_lower ∙ eqb-true b (get_or leaders r 0) one in
            let in_group : IsIn graph (group_at r) feed.lower =
            sym (led.block feed.lower both.1) ∙ ap (slice_get graph.group) here ∙ led.block r below ∙ in_own r below in
            let supplied : is_supplied graph rails feed.lower ≡ true = all_at (is_supplied graph rails) (members graph (group_at r)) feed.lower all (is_member graph (group_at r) feed.lower in_group) in
            let upper : is_taken rails feed.upper ≡ true = sym (ap (λ there. option_map_or (is_taken rails) there true) feed.feeds) ∙ supplied in
            let taken_is : is_taken taken a ≡ true = ap (is_taken taken) (sym feed.leads_upper) ∙ sym (agree feed.upper both.0) ∙ upper in
            rw taken_is refl

    next_ready : (l : ℕ) → is_next leaders feeds.pairs taken l ≡ true → is_ready graph rails (l, group_at l) ≡ true
    next_ready l next =
        let parts = and_parts _ _ next in
        let both = and_parts _ _ parts.0 in
        let l_in = leads_within l both.0 in
        let untaken : not (is_taken rails l) ≡ true = ap not (agree l l_in ∙ ap (is_taken taken) (leads_itself l both.0)) ∙ both.1 in
        and_from _ _ untaken (all_from (is_supplied graph rails) (members graph (group_at l))
        (λ m in_it. by m (member_is graph (group_at l) m in_it) (eqb-true (waiting feeds.pairs taken l) 0 parts.1) both.0 (supply_at graph m) refl))
      where
        by : (m : ℕ) → IsIn graph (group_at l) m → waiting feeds.pairs taken l ≡ 0 → is_leader leaders l ≡ true → (there : Option ℕ) → supply_at graph m ≡ there → option_map_or (is_taken rails) there true ≡ true
        by m in_it none leads None no_supply = refl
        by m in_it none leads (Some upper) supplies =
            let both = feed_rails graph false upper m is supplies in
            let l_in = leads_within l leads in
            let here : get_or leaders m 0 ≡ l = led.one m l both.1 l_in (in_it ∙ sym (in_own l l_in)) ∙ leads_itself l leads in
            let has : HasPair feeds.pairs (get_or leaders upper 0) l = subst (λ pairs. HasPair pairs (get_or leaders upper 0) l) (sym are.pairs)
            (subst (λ y. HasPair (feeds_of graph leaders false (count_of graph)) (get_or leaders upper 0) y) here (feed_pair graph leaders false (count_of graph) upper m both.1 supplies)) in
            let fails = none_counted (λ p. nat_eq p.1 l && not (is_taken taken p.0)) feeds.pairs (get_or leaders upper 0) l none has in
            let one : nat_eq l l ≡ true = eq-eqb l l refl in
            let free : not (is_taken taken (get_or leaders upper 0)) ≡ false = rw one at fails in
            agree upper both.0 ∙ not-false (is_taken taken (get_or leaders upper 0)) free

    unready : (q h : ℕ) → IsIn graph h q → ¬ (is_next leaders feeds.pairs taken (get_or leaders q 0) ≡ true) → is_ready graph rails (q, h) ≡ false
    unready q h in_group never = by (is_ready graph rails (q, h)) refl where
      by : (b : Bool) → is_ready graph rails (q, h) ≡ b → b ≡ false
      by true ready =
          let own : h ≡ group_at q = sym (get_or_from_slice_get graph.group q h 0 in_group) in
          absurd (never (ready_next q (slice_get_within graph.group q h in_group) (subst (λ g. is_ready graph rails (q, g) ≡ true) own ready)))
      by false _ = refl

    next_group_is : (l : ℕ) → IsLeastSuch (λ v. is_next leaders feeds.pairs taken v ≡ true) l → next_group graph rails ≡ Some (group_at l)
    next_group_is l least =
        let l_in = leads_within l (and_parts _ _ (and_parts _ _ least.such).0).0 in
        ready_is_next graph rails l (group_at l) (in_own l l_in) (next_ready l least.such)
        (λ q h before in_group. unready q h in_group (λ next. absurd (omega (arith, before, least.least (get_or leaders q 0) next, led.least q (slice_get_within graph.group q h in_group)))))

    none_next : ((v : ℕ) → is_next leaders feeds.pairs taken v ≡ false) → next_group graph rails ≡ None
    none_next none = none_ready_next graph rails (λ q h in_group. unready q h in_group (λ next. let never = none (get_or leaders q 0) in cc))

  -- the groups of leaders in turn come in turn
  turns_come : (rails taken rest : List ℕ) → Agrees rails taken → LeadersInTurn leaders feeds.pairs taken rest → ComeInTurn graph rails (map group_at rest)
  turns_come rails taken [] agree turns = tt
  turns_come rails taken (l ∷ rest) agree turns =
      let leads : is_leader leaders l ≡ true = (and_parts _ _ (and_parts _ _ turns.0.such).0).0 in
      (next_group_is rails taken agree l turns.0, turns_come (rails ++ members graph (group_at l)) (taken ++ l ∷ []) rest (agrees_more rails taken l agree leads) turns.1)

  agrees_all : (rails taken rest : List ℕ) → Agrees rails taken → LeadersInTurn leaders feeds.pairs taken rest → Agrees (rails ++ flat_map (members graph) (map group_at rest)) (taken ++ rest)
  agrees_all rails taken [] agree turns = λ r below. ap (λ xs. is_taken xs r) (append-nil rails) ∙ agree r below ∙ sym (ap (λ xs. is_taken xs (get_or leaders r 0)) (append-nil taken))
  agrees_all rails taken (l ∷ rest) agree turns =
      let leads : is_leader leaders l ≡ true = (and_parts _ _ (and_parts _ _ turns.0.such).0).0 in
      let later = agrees_all (rails ++ members graph (group_at l)) (taken ++ l ∷ []) rest (agrees_more rails taken l agree leads) turns.1 in
      λ r below. ap (λ xs. is_taken xs r) (sym (append_assoc rails (members graph (group_at l)) (flat_map (members graph) (map group_at rest))))
      ∙ later r below ∙ ap (λ xs. is_taken xs (get_or leaders r 0)) (append_assoc taken (l ∷ []) rest)

  pub led_within : (taken rest : List ℕ) → LeadersInTurn leaders feeds.pairs taken rest → (i : ℕ) → i < length rest → get_or rest i 0 < count_of graph
  led_within taken [] turns i within = absurd (omega arith)
  led_within taken (l ∷ rest) turns zero within = leads_within l (and_parts _ _ (and_parts _ _ turns.0.such).0).0
  led_within taken (l ∷ rest) turns (suc i) within = led_within (taken ++ l ∷ []) rest turns.1 i (omega arith)

  blocks_are : (lists : List (List ℕ)) (taken rest : List ℕ) → AreLists (length leaders) (turned (enumerate_from 0 leaders)) lists → LeadersInTurn leaders feeds.pairs taken rest
      → flat_map (λ k. get_or lists k []) rest ≡ flat_map (members graph) (map group_at rest)
  blocks_are lists taken [] shared turns = refl
  blocks_are lists taken (l ∷ rest) shared turns =
      let first : get_or lists l [] ≡ members graph (group_at l) = members_are lists l shared (and_parts _ _ (and_parts _ _ turns.0.such).0).0 in
      let others = blocks_are lists (taken ++ l ∷ []) rest shared turns.1 in
      rw first (ap (λ xs. members graph (group_at l) ++ xs) others)

  pub is_order : (lists : List (List ℕ)) (taken order : List ℕ) → AreLists (length leaders) (turned (enumerate_from 0 leaders)) lists → AreAllTurns leaders feeds.pairs taken
      → ((r : ℕ) → ¬ IsOnBlockLoop graph r) → order ≡ flat_map (λ k. get_or lists k []) taken → IsOrder graph order
  is_order lists taken order shared all no_loop same =
      let agree : Agrees [] [] = λ r below. refl in
      let blocks : order ≡ flat_map (members graph) (map group_at taken) = same ∙ blocks_are lists [] taken shared all.turns in
      let none = none_next (flat_map (members graph) (map group_at taken)) taken (agrees_all [] [] taken agree all.turns) all.none in
      record {
        groups = map group_at taken;
        blocks = blocks;
        turns = turns_come [] [] taken agree all.turns;
        all = λ r below. subst (λ xs. Contains xs r) (sym blocks) (at_taken r (flat_map (members graph) (map group_at taken)) (none_left graph is no_loop (flat_map (members graph) (map group_at taken)) none r below));
      }

  pub order_ok : (lists : List (List ℕ)) (taken : List ℕ) (result : Result (List ℕ) AllocError) → AreLists (length leaders) (turned (enumerate_from 0 leaders)) lists → AreAllTurns leaders feeds.pairs taken
      → ((r : ℕ) → ¬ IsOnBlockLoop graph r) → IfOk result (λ all. all ≡ flat_map (λ k. get_or lists k []) taken) → IfOk result (IsOrder graph)
  order_ok lists taken (Ok order) shared all no_loop same = is_order lists taken order shared all no_loop same
  order_ok lists taken (Err e) shared all no_loop same = tt

-- a rail more
enumerate_push : (n : ℕ) (xs : List ℕ) (x : ℕ) → enumerate_from n (xs ++ x ∷ []) ≡ enumerate_from n xs ++ (n + length xs, x) ∷ []
enumerate_push n [] x = let e : n ≡ n + 0 = omega arith in ap (λ k. (k, x) ∷ []) e
enumerate_push n (y ∷ xs) x =
    let e : n + 1 + length xs ≡ n + suc (length xs) = omega arith in
    ap (λ ps. (n, y) ∷ ps) (enumerate_push (n + 1) xs x ∙ ap (λ k. enumerate_from (n + 1) xs ++ (k, x) ∷ []) e)

pub numbered_more : (leaders : List ℕ) (i : ℕ) → i < length leaders → turned (enumerate_from 0 (take (i + 1) leaders)) ≡ turned (enumerate_from 0 (take i leaders)) ++ (get_or leaders i 0, i) ∷ []
numbered_more leaders i within =
    let long : 0 + length (take i leaders) ≡ i = omega (arith, length-take-le i leaders (omega arith)) in
    ap (λ xs. turned (enumerate_from 0 xs)) (take_more leaders i 0 within)
    ∙ ap turned (enumerate_push 0 (take i leaders) (get_or leaders i 0) ∙ ap (λ k. enumerate_from 0 (take i leaders) ++ (k, get_or leaders i 0) ∷ []) long)
    ∙ map-append (λ p. (p.1, p.0)) (enumerate_from 0 (take i leaders)) ((i, get_or leaders i 0) ∷ [])

pub numbered_below : (count : ℕ) (leaders : List ℕ) → ((r : ℕ) → r < length leaders → get_or leaders r 0 < count) → AreBelow count (turned (enumerate_from 0 leaders))
numbered_below count leaders below = by 0 leaders below where
  by : (n : ℕ) (xs : List ℕ) → ((r : ℕ) → r < length xs → get_or xs r 0 < count) → AreBelow count (turned (enumerate_from n xs))
  by n [] below i within = absurd (omega arith)
  by n (x ∷ xs) below zero within = below 0 (omega arith)
  by n (x ∷ xs) below (suc i) within = by (n + 1) xs (λ r less. below (suc r) (omega arith)) i (omega arith)
