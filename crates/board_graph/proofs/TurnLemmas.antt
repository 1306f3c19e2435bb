-- How the leaders come in turn.
use Rattle.std.proofs.Common.{◌≡◌, ℕ, ◌+◌, ◌<◌, ◌≤◌, ◌&&◌, ◌||◌, inl, inr, Bool, true, false, not, cond, zero-add, List, [], ◌∷◌, ◌++◌, append_assoc, length, get_or, take, refl, sym, ap, ◌∙◌, subst, arith, eq-eqb, eqb-true, nat_eq}
use Rattle.std.specs.List.{count_by}
use Rattle.std.proofs.lemmas.Bool.{cases_eq, cases_lt, ne_eqb, or_cases, or_left, or_right, or_parts, and_parts, not-true, ltb-true}
use Rattle.std.proofs.lemmas.List.{get_or_past, append-nil}
use Rattle.std.proofs.lemmas.List.Sums.{sum_by-cons, sum_by_more, sum_by-take-le}
use Rattle.std.proofs.lemmas.List.Elements.{Contains-get_or}
use Rattle.board_graph.proofs.OrderExists.{fewer_fail}
use Rattle.board_graph.proofs.NetLemmas.{listed_pair}
use Rattle.board_graph.specs.Order.{is_taken}
use Rattle.board_graph.specs.Inside.Lists.{listed}
use Rattle.board_graph.specs.Inside.Turns.{waiting, is_leader, is_next, LeadersInTurn, left_in, AreFeeds, AreTurns}
use Rattle.board_graph.specs.declared.feeds.Feeds.{Feeds}
use Rattle.board_graph.specs.declared.turns.Turns.{Turns}
use Rattle.board_graph.specs.Loops.{IsLeastSuch}
use Rattle.std.specs.BTreeSet.{contains}
use Rattle.std.specs.Ordering.{nat_cmp}

pub taken_push : (xs : List ℕ) (x v : ℕ) → is_taken (xs ++ x ∷ []) v ≡ (is_taken xs v || nat_eq v x)
taken_push [] x v = by (nat_eq v x) where
  by : (b : Bool) → (b || false) ≡ b
  by true = refl
  by false = refl
taken_push (y ∷ xs) x v = by (nat_eq v y) (taken_push xs x v) where
  by : (b : Bool) → is_taken (xs ++ x ∷ []) v ≡ (is_taken xs v || nat_eq v x) → (b || is_taken (xs ++ x ∷ []) v) ≡ (b || is_taken xs v || nat_eq v x)
  by true rest = refl
  by false rest = rest

-- one of those that are fed waits for one less
module _ (fed before waits : List ℕ) (i : ℕ) (within : i < length fed)
    (enough : (v : ℕ) → count_by (nat_eq v) fed ≤ get_or before v 0) (is : (v : ℕ) → get_or waits v 0 + count_by (nat_eq v) (take i fed) ≡ get_or before v 0) where
  abbrev fed_one : ℕ
  fed_one = get_or fed i 0

  more : (v : ℕ) → count_by (nat_eq v) (take (i + 1) fed) ≡ count_by (nat_eq v) (take i fed) + cond (nat_eq v fed_one) 1 0
  more v = sum_by_more (λ x. cond (nat_eq v x) 1 0) fed i 0 within

  pub waits_some : 0 < get_or waits fed_one 0
  waits_some =
      let here : nat_eq fed_one fed_one ≡ true = eq-eqb fed_one fed_one refl in
      let one : count_by (nat_eq fed_one) (take (i + 1) fed) ≡ count_by (nat_eq fed_one) (take i fed) + 1 = more fed_one ∙ rw here refl in
      omega (arith, one, sum_by-take-le (λ x. cond (nat_eq fed_one x) 1 0) fed (i + 1), enough fed_one, is fed_one)

  pub waits_within : fed_one < length waits
  waits_within = elim (cases_lt fed_one (length waits)) [
    | inl below ↦ below
    | inr past ↦ absurd (omega (arith, waits_some, get_or_past waits fed_one 0 past))
  ]

flips : (a b : ℕ) → nat_eq a b ≡ nat_eq b a
flips a b = elim (cases_eq a b) [
  | inl same ↦ eq-eqb a b same ∙ sym (eq-eqb b a (sym same))
  | inr other ↦ ne_eqb a b other ∙ sym (ne_eqb b a (λ e. other (sym e)))
]

both_ways : (m n : Bool) → m ≡ n → cond (m && not (false || true)) 1 0 + cond n 1 0 ≡ cond (m && not false) 1 0
both_ways true true same = refl
both_ways true false same = absurd (cc)
both_ways false true same = absurd (cc)
both_ways false false same = refl

plain : (m t : Bool) → cond (m && not (t || false)) 1 0 + 0 ≡ cond (m && not t) 1 0
plain true true = refl
plain true false = refl
plain false t = refl

-- what waits, once one more is taken
waiting_less : (pairs : List (ℕ × ℕ)) (taken : List ℕ) (leader v : ℕ) → is_taken taken leader ≡ false
    → waiting pairs (taken ++ leader ∷ []) v + count_by (nat_eq v) (listed pairs leader) ≡ waiting pairs taken v
waiting_less [] taken leader v untaken = omega arith
waiting_less (pair ∷ pairs) taken leader v untaken =
    let rest = waiting_less pairs taken leader v untaken in
    let now : waiting (pair ∷ pairs) (taken ++ leader ∷ []) v ≡ cond (nat_eq pair.1 v && not (is_taken (taken ++ leader ∷ []) pair.0)) 1 0 + waiting pairs (taken ++ leader ∷ []) v =
    sum_by-cons (λ p. cond (nat_eq p.1 v && not (is_taken (taken ++ leader ∷ []) p.0)) 1 0) pair pairs in
    let was : waiting (pair ∷ pairs) taken v ≡ cond (nat_eq pair.1 v && not (is_taken taken pair.0)) 1 0 + waiting pairs taken v =
    sum_by-cons (λ p. cond (nat_eq p.1 v && not (is_taken taken p.0)) 1 0) pair pairs in
    let one = by (nat_eq pair.0 leader) refl in
    omega (arith, rest, now, was, one.0, one.1)
  where
    by : (here : Bool) → nat_eq pair.0 leader ≡ here
        → (count_by (nat_eq v) (listed (pair ∷ pairs) leader) ≡ cond here (cond (nat_eq v pair.1) 1 0) 0 + count_by (nat_eq v) (listed pairs leader))
        × (cond (nat_eq pair.1 v && not (is_taken (taken ++ leader ∷ []) pair.0)) 1 0 + cond here (cond (nat_eq v pair.1) 1 0) 0 ≡ cond (nat_eq pair.1 v && not (is_taken taken pair.0)) 1 0)
    by true here =
        let same : pair.0 ≡ leader = eqb-true pair.0 leader here in
        let free : is_taken taken pair.0 ≡ false = ap (is_taken taken) same ∙ untaken in (
          rw here (sum_by-cons (λ x. cond (nat_eq v x) 1 0) pair.1 (listed pairs leader)),
          rw (taken_push taken leader pair.0) (rw here (rw free (both_ways (nat_eq pair.1 v) (nat_eq v pair.1) (flips pair.1 v)))),
        )
    by false other = (rw other (sym (zero-add (count_by (nat_eq v) (listed pairs leader)))), rw (taken_push taken leader pair.0) (rw other (plain (nat_eq pair.1 v) (is_taken taken pair.0))))

-- leaders that are taken one by one
pub turns_push : (leaders : List ℕ) (pairs : List (ℕ × ℕ)) (taken rest : List ℕ) (leader : ℕ) → LeadersInTurn leaders pairs taken rest
    → IsLeastSuch (λ v. is_next leaders pairs (taken ++ rest) v ≡ true) leader → LeadersInTurn leaders pairs taken (rest ++ leader ∷ [])
turns_push leaders pairs taken [] leader turns least =
    (subst (λ all. IsLeastSuch (λ v. is_next leaders pairs all v ≡ true) leader) (append-nil taken) least, tt)
turns_push leaders pairs taken (first ∷ rest) leader turns least =
    (turns.0, turns_push leaders pairs (taken ++ first ∷ []) rest leader turns.1 (subst (λ all. IsLeastSuch (λ v. is_next leaders pairs all v ≡ true) leader) (sym (append_assoc taken (first ∷ []) rest)) least))

counted_some : (v : ℕ) (xs : List ℕ) → is_taken xs v ≡ true → 0 < count_by (nat_eq v) xs
counted_some v [] never = absurd (cc)
counted_some v (x ∷ xs) taken = elim (or_cases (nat_eq v x) (is_taken xs v) taken) [
  | inl here ↦
      let one : cond {A = ℕ} (nat_eq v x) 1 0 ≡ 1 = rw here refl in
      omega (arith, one, sum_by-cons (λ y. cond (nat_eq v y) 1 0) x xs)
  | inr there ↦ omega (arith, counted_some v xs there, sum_by-cons (λ y. cond (nat_eq v y) 1 0) x xs)
]

counted_none : (v : ℕ) (xs : List ℕ) → is_taken xs v ≡ false → count_by (nat_eq v) xs ≡ 0
counted_none v [] out = refl
counted_none v (x ∷ xs) out =
    let both = or_parts (nat_eq v x) (is_taken xs v) out in
    let zero_is : cond {A = ℕ} (nat_eq v x) 1 0 ≡ 0 = rw both.0 refl in
    omega (arith, zero_is, counted_none v xs both.1, sum_by-cons (λ y. cond (nat_eq v y) 1 0) x xs)

not_true : (b : Bool) → ¬ (b ≡ true) → b ≡ false
not_true true never = absurd (never refl)
not_true false never = refl

and_false : (b : Bool) → (b && false) ≡ false
and_false true = refl
and_false false = refl

rearranged : (e l t z : Bool) → (not e && (l && not t && z) || false) ≡ (l && not (t || e) && z)
rearranged true true true z = refl
rearranged true true false z = refl
rearranged true false t z = refl
rearranged false true true z = refl
rearranged false true false true = refl
rearranged false true false false = refl
rearranged false false t z = refl

-- one turn: the least leader that may come is taken, and those that it feeds wait for one less
module _ (leaders : List ℕ) (feeds : Feeds) (turns : Turns) (leader : ℕ)
    (are : AreFeeds leaders feeds) (is : AreTurns leaders feeds.pairs turns)
    (some : contains nat_cmp turns.ready leader ≡ true) (least : (v : ℕ) → contains nat_cmp turns.ready v ≡ true → leader ≤ v) where
  abbrev pub fed : List ℕ
  fed = get_or feeds.down leader []

  next : is_next leaders feeds.pairs turns.taken leader ≡ true
  next = sym (is.ready leader) ∙ some

  leads : is_leader leaders leader ≡ true
  leads = (and_parts _ _ (and_parts _ _ next).0).0

  untaken : is_taken turns.taken leader ≡ false
  untaken = not-true _ (and_parts _ _ (and_parts _ _ next).0).1

  waits_none : waiting feeds.pairs turns.taken leader ≡ 0
  waits_none = eqb-true (waiting feeds.pairs turns.taken leader) 0 (and_parts _ _ next).1

  pub leader_within : leader < length leaders
  leader_within = ltb-true leader (length leaders) (and_parts _ _ leads).0

  fed_is : fed ≡ listed feeds.pairs leader
  fed_is = are.lists.at leader leader_within

  counted : (v : ℕ) → waiting feeds.pairs (turns.taken ++ leader ∷ []) v + count_by (nat_eq v) fed ≡ get_or turns.waits v 0
  counted v = ap (λ xs. waiting feeds.pairs (turns.taken ++ leader ∷ []) v + count_by (nat_eq v) xs) fed_is
      ∙ waiting_less feeds.pairs turns.taken leader v untaken ∙ sym (is.waits v)

  pub enough : (v : ℕ) → count_by (nat_eq v) fed ≤ get_or turns.waits v 0
  enough v = omega (arith, counted v)

  module _ (after : Turns) (popped : ℕ → Bool) (taken : after.taken ≡ turns.taken ++ leader ∷ []) (size : length after.waits ≡ length turns.waits)
      (waits : (v : ℕ) → get_or after.waits v 0 + count_by (nat_eq v) fed ≡ get_or turns.waits v 0)
      (rest : (v : ℕ) → popped v ≡ (not (nat_eq leader v) && contains nat_cmp turns.ready v))
      (ready : (v : ℕ) → contains nat_cmp after.ready v ≡ (popped v || is_taken fed v && nat_eq (get_or after.waits v 0) 0)) where
    abbrev new : List ℕ
    new = turns.taken ++ leader ∷ []

    waits_new : (v : ℕ) → get_or after.waits v 0 ≡ waiting feeds.pairs new v
    waits_new v = omega (arith, waits v, counted v)

    -- one that is fed waited before
    waited : (v : ℕ) → is_taken fed v ≡ true → 0 < waiting feeds.pairs turns.taken v
    waited v in_fed = omega (arith, counted_some v fed in_fed, counted v, is.waits v)

    fed_next : (v : ℕ) → is_taken fed v ≡ true → contains nat_cmp after.ready v ≡ is_next leaders feeds.pairs new v
    fed_next v in_fed =
        let led : is_leader leaders v ≡ true = (are.led leader v (listed_pair feeds.pairs leader v (subst (λ xs. is_taken xs v ≡ true) fed_is in_fed))).1 in
        let free : is_taken turns.taken v ≡ false = not_true (is_taken turns.taken v) (λ was. absurd (omega (arith, waited v in_fed, is.done v was))) in
        let other : nat_eq v leader ≡ false = ne_eqb v leader (λ same. absurd (omega (arith, waited v in_fed, waits_none, ap (waiting feeds.pairs turns.taken) same))) in
        let free_now : is_taken new v ≡ false = taken_push turns.taken leader v ∙ rw free (rw other refl) in
        let busy : nat_eq (waiting feeds.pairs turns.taken v) 0 ≡ false = ne_eqb (waiting feeds.pairs turns.taken v) 0 (λ never. absurd (omega (arith, never, waited v in_fed))) in
        let unready : contains nat_cmp turns.ready v ≡ false = is.ready v ∙ rw busy (and_false (is_leader leaders v && not (is_taken turns.taken v))) in
        let not_popped : popped v ≡ false = rest v ∙ rw unready (and_false (not (nat_eq leader v))) in
        ready v ∙ rw not_popped (rw in_fed (rw (waits_new v) (rw led (rw free_now refl))))

    unfed_next : (v : ℕ) → is_taken fed v ≡ false → contains nat_cmp after.ready v ≡ is_next leaders feeds.pairs new v
    unfed_next v out =
        let same : waiting feeds.pairs turns.taken v ≡ waiting feeds.pairs new v = omega (arith, counted v, is.waits v, counted_none v fed out) in
        let free_now : is_taken new v ≡ (is_taken turns.taken v || nat_eq v leader) = taken_push turns.taken leader v in
        ready v ∙ rw out (rw (rest v) (rw (is.ready v) (rw same (rw free_now (rw (flips leader v)
        (rearranged (nat_eq v leader) (is_leader leaders v) (is_taken turns.taken v) (nat_eq (waiting feeds.pairs new v) 0)))))))

    pub after_turns : AreTurns leaders feeds.pairs after
    after_turns = record {
      order = subst (LeadersInTurn leaders feeds.pairs []) (sym taken) (turns_push leaders feeds.pairs [] turns.taken leader is.order
          (record { such = next; least = λ v may. least v (is.ready v ∙ may) }));
      size = size ∙ is.size;
      waits = λ v. waits_new v ∙ ap (λ all. waiting feeds.pairs all v) (sym taken);
      ready = λ v. (elim (is_taken fed v) as (λ b. is_taken fed v ≡ b → contains nat_cmp after.ready v ≡ is_next leaders feeds.pairs new v) [
        | true ↦ fed_next v
        | false ↦ unfed_next v
      ]) refl ∙ ap (λ all. is_next leaders feeds.pairs all v) (sym taken);
      done = λ v was. subst (λ all. waiting feeds.pairs all v ≡ 0) (sym taken) (elim (or_cases (is_taken turns.taken v) (nat_eq v leader) (sym (taken_push turns.taken leader v) ∙ subst (λ all. is_taken all v ≡ true) taken was)) [
        | inl old ↦ omega (arith, counted v, is.waits v, is.done v old)
        | inr now ↦ omega (arith, counted v, is.waits v, waits_none, ap (waiting feeds.pairs turns.taken) (eqb-true v leader now))
      ]);
    }

    pub after_fewer : left_in leaders after.taken < left_in leaders turns.taken
    after_fewer = subst (λ all. left_in leaders all < left_in leaders turns.taken) (sym taken)
        (fewer_fail (is_taken turns.taken) (is_taken new) (λ x was. taken_push turns.taken leader x ∙ or_left _ _ was) leader (length leaders) leader_within untaken
        (taken_push turns.taken leader leader ∙ or_right _ _ (eq-eqb leader leader refl)))

-- the numbers of the pairs are below the count of the leaders
pub led_below : (leaders : List ℕ) (feeds : Feeds) → AreFeeds leaders feeds → (i : ℕ) → i < length feeds.pairs → (get_or feeds.pairs i (0, 0)).1 < length leaders
led_below leaders feeds are i within =
    let pair : ℕ × ℕ = get_or feeds.pairs i (0, 0) in
    let led : is_leader leaders pair.1 ≡ true = (are.led pair.0 pair.1 (Contains-get_or {X = ℕ × ℕ} feeds.pairs i (0, 0) within)).1 in
    ltb-true pair.1 (length leaders) (and_parts _ _ led).0
