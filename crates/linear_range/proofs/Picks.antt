-- The picks of a table, by what the table has and not by its list.
use Rattle.std.proofs.Common.{◌≡◌, ℕ, zero, suc, ◌+◌, ◌<◌, ◌≤◌, Bool, true, false, cond, leb, List, [], ◌∷◌, Option, None, Some, refl, sym, ◌∙◌, ap, subst, ◌⊎◌, inl, inr, arith}
use Rattle.std.proofs.lemmas.Bool.{leb-true, leb-false, le-leb, false≢true, cases_eq}
use Rattle.std.specs.Option.{option_map}
use Rattle.std.specs.List.{filter, filter_map, range_with_len}
use Rattle.linear_range.specs.Values.{lesser_pair, least_pair, greater_pair, greatest_pair}

-- an order of the µV, as a test
pub record IsOrder (le : ℕ → ℕ → Bool) : Type 0 where
  pub total : (a b : ℕ) → le a b ≡ false → le b a ≡ true
  pub trans : (a b c : ℕ) → le a b ≡ true → le b c ≡ true → le a c ≡ true
  pub antisym : (a b : ℕ) → le a b ≡ true → le b a ≡ true → a ≡ b

abbrev pub upwards : ℕ → ℕ → Bool
upwards a b = leb a b

abbrev pub downwards : ℕ → ℕ → Bool
downwards a b = leb b a

pub upwards_order : IsOrder upwards
upwards_order = record {
  total = λ a b h. le-leb b a (omega (arith, leb-false a b h));
  trans = λ a b c h k. le-leb a c (omega (arith, leb-true a b h, leb-true b c k));
  antisym = λ a b h k. omega (arith, leb-true a b h, leb-true b a k);
}

pub downwards_order : IsOrder downwards
downwards_order = record {
  total = λ a b h. le-leb a b (omega (arith, leb-false b a h));
  trans = λ a b c h k. le-leb c a (omega (arith, leb-true b a h, leb-true c b k));
  antisym = λ a b h k. omega (arith, leb-true b a h, leb-true a b k);
}

order-refl : (le : ℕ → ℕ → Bool) → IsOrder le → (a : ℕ) → le a a ≡ true
order-refl le order a = by_test (le a a) refl
  where
    by_test : (b : Bool) → le a a ≡ b → le a a ≡ true
    by_test true e = e
    by_test false e = order.total a a e

pair_same : (p q : ℕ × ℕ) → p.0 ≡ q.0 → p.1 ≡ q.1 → p ≡ q
pair_same p q h k = ap (λ sel. (sel, p.1)) h ∙ ap (λ uv. (q.0, uv)) k

-- p is allowed, no allowed member comes before it, and it is the first with its µV
pub record IsFirstBest (ok : ℕ → Bool) (le : ℕ → ℕ → Bool) (M : ℕ → ℕ → Type 0) (p : ℕ × ℕ) : Type 0 where
  pub has : M p.0 p.1
  pub allowed : ok p.1 ≡ true
  pub best : (sel uv : ℕ) → M sel uv → ok uv ≡ true → le p.1 uv ≡ true
  pub first : (sel : ℕ) → M sel p.1 → p.0 ≤ sel

-- the pick among the members, or that none is allowed
abbrev pub BestOf : (ℕ → Bool) → (ℕ → ℕ → Bool) → (ℕ → ℕ → Type 0) → Option (ℕ × ℕ) → Type 0
BestOf ok le M None = (sel uv : ℕ) → M sel uv → ok uv ≡ false
BestOf ok le M (Some p) = IsFirstBest ok le M p

-- the members of the third are those of the first and of the second
pub record IsUnion (L R M : ℕ → ℕ → Type 0) : Type 0 where
  pub left : (sel uv : ℕ) → L sel uv → M sel uv
  pub right : (sel uv : ℕ) → R sel uv → M sel uv
  pub either : (sel uv : ℕ) → M sel uv → L sel uv ⊎ R sel uv

pub union_swap : {L R M : ℕ → ℕ → Type 0} → IsUnion L R M → IsUnion R L M
union_swap u = record {
  left = u.right;
  right = u.left;
  either = λ sel uv m. elim (u.either sel uv m) [ inl l ↦ inr l | inr r ↦ inl r ];
}

module _ (ok : ℕ → Bool) (le : ℕ → ℕ → Bool) (order : IsOrder le) where
  -- there is one pick
  pub best_unique : (M : ℕ → ℕ → Type 0) (o o' : Option (ℕ × ℕ))
      → BestOf ok le M o → BestOf ok le M o' → o ≡ o'
  best_unique M None None a b = refl
  best_unique M None (Some q) a b = absurd (false≢true (sym (a q.0 q.1 b.has) ∙ b.allowed))
  best_unique M (Some p) None a b = absurd (false≢true (sym (b p.0 p.1 a.has) ∙ a.allowed))
  best_unique M (Some p) (Some q) a b =
      let same_uv : p.1 ≡ q.1 = order.antisym _ _ (a.best _ _ b.has b.allowed) (b.best _ _ a.has a.allowed) in
      let below : p.0 ≤ q.0 = a.first q.0 (subst (λ uv. M q.0 uv) (sym same_uv) b.has) in
      let above : q.0 ≤ p.0 = b.first p.0 (subst (λ uv. M p.0 uv) same_uv a.has) in
      let same_sel : p.0 ≡ q.0 = omega arith in
      ap Some (pair_same p q same_sel same_uv)

  module _ {L R M : ℕ → ℕ → Type 0} (union : IsUnion L R M) where
    pub best_none : BestOf ok le L None → BestOf ok le R None → BestOf ok le M None
    best_none a b sel uv m = elim (union.either sel uv m) [ inl l ↦ a sel uv l | inr r ↦ b sel uv r ]

    pub best_left : (p : ℕ × ℕ) → BestOf ok le L (Some p) → BestOf ok le R None → BestOf ok le M (Some p)
    best_left p a b = record {
      has = union.left _ _ a.has;
      allowed = a.allowed;
      best = λ sel uv m h. elim (union.either sel uv m) [
        | inl l ↦ a.best sel uv l h
        | inr r ↦ absurd (false≢true (sym (b sel uv r) ∙ h))
      ];
      first = λ sel m. elim (union.either sel p.1 m) [
        | inl l ↦ a.first sel l
        | inr r ↦ absurd (false≢true (sym (b sel p.1 r) ∙ a.allowed))
      ];
    }

    -- p comes before q, and at the same µV it has the lesser selector
    pub best_both : (p q : ℕ × ℕ) → BestOf ok le L (Some p) → BestOf ok le R (Some q)
        → le p.1 q.1 ≡ true → (le q.1 p.1 ≡ true → p.0 ≤ q.0) → BestOf ok le M (Some p)
    best_both p q a b before tie = record {
      has = union.left _ _ a.has;
      allowed = a.allowed;
      best = λ sel uv m h. elim (union.either sel uv m) [
        | inl l ↦ a.best sel uv l h
        | inr r ↦ order.trans _ _ _ before (b.best sel uv r h)
      ];
      first = λ sel m. elim (union.either sel p.1 m) [
        | inl l ↦ a.first sel l
        | inr r ↦ first_right sel r
      ];
    }
      where
        first_right : (sel : ℕ) → R sel p.1 → p.0 ≤ sel
        first_right sel r =
            let after : le q.1 p.1 ≡ true = b.best sel p.1 r a.allowed in
            let same_uv : p.1 ≡ q.1 = order.antisym _ _ before after in
            let q_first : q.0 ≤ sel = b.first sel (subst (λ uv. R sel uv) same_uv r) in
            let p_first : p.0 ≤ q.0 = tie after in
            omega arith

-- an earlier pair, unless the later pick comes before it
abbrev pub preferred : (ℕ → ℕ → Bool) → ℕ × ℕ → Option (ℕ × ℕ) → ℕ × ℕ
preferred le p None = p
preferred le p (Some q) = cond (le p.1 q.1) p q

-- the pair that comes first by the order, at its first place
abbrev pub best_pair : (ℕ → ℕ → Bool) → List (ℕ × ℕ) → Option (ℕ × ℕ)
best_pair le [] = None
best_pair le (p ∷ ps) = Some (preferred le p (best_pair le ps))

lesser_pair-is : (p : ℕ × ℕ) (o : Option (ℕ × ℕ)) → lesser_pair p o ≡ preferred upwards p o
lesser_pair-is p None = refl
lesser_pair-is p (Some q) = refl

greater_pair-is : (p : ℕ × ℕ) (o : Option (ℕ × ℕ)) → greater_pair p o ≡ preferred downwards p o
greater_pair-is p None = refl
greater_pair-is p (Some q) = refl

pub least_pair-is : (ps : List (ℕ × ℕ)) → least_pair ps ≡ best_pair upwards ps
least_pair-is [] = refl
least_pair-is (p ∷ ps) = rw (least_pair-is ps) (ap Some (lesser_pair-is p (best_pair upwards ps)))

pub greatest_pair-is : (ps : List (ℕ × ℕ)) → greatest_pair ps ≡ best_pair downwards ps
greatest_pair-is [] = refl
greatest_pair-is (p ∷ ps) = rw (greatest_pair-is ps) (ap Some (greater_pair-is p (best_pair downwards ps)))

-- the members of the value function whose selectors are n in a row from a on
abbrev pub InSegment : (ℕ → Option ℕ) → ℕ → ℕ → ℕ → ℕ → Type 0
InSegment value a n sel uv = (a ≤ sel) × (sel < a + n) × (value sel ≡ Some uv)

-- the one selector a
abbrev AtOne : (ℕ → Option ℕ) → ℕ → ℕ → ℕ → Type 0
AtOne value a sel uv = (sel ≡ a) × (value a ≡ Some uv)

segment_union : (value : ℕ → Option ℕ) (a n : ℕ)
    → IsUnion (AtOne value a) (InSegment value (a + 1) n) (InSegment value a (suc n))
segment_union value a n = record {
  left = λ sel uv m. (omega arith, omega arith, subst (λ s. value s ≡ Some uv) (sym m.0) m.1);
  right = λ sel uv m. (omega arith, omega arith, m.2);
  either = λ sel uv m. first_or_later sel uv m.0 m.1 m.2 (cases_eq sel a);
}
  where
    first_or_later : (sel uv : ℕ) → a ≤ sel → sel < a + suc n → value sel ≡ Some uv
        → (sel ≡ a) ⊎ (sel ≡ a → ⊥) → AtOne value a sel uv ⊎ InSegment value (a + 1) n sel uv
    first_or_later sel uv low high e (inl same) = inl (same, subst (λ s. value s ≡ Some uv) same e)
    first_or_later sel uv low high e (inr other) = inr (omega arith, omega arith, e)

-- the pairs of these selectors
abbrev pub pairs_between : (ℕ → Option ℕ) → ℕ → ℕ → List (ℕ × ℕ)
pairs_between value a n = filter_map (λ sel. option_map (λ uv. (sel, uv)) (value sel)) (range_with_len a n)

module _ (ok : ℕ → Bool) (le : ℕ → ℕ → Bool) (order : IsOrder le) where
  -- where the one part has nothing that is allowed, the pick is that of the other
  pub best_right : {L R M : ℕ → ℕ → Type 0} → IsUnion L R M → (o : Option (ℕ × ℕ))
      → BestOf ok le L None → BestOf ok le R o → BestOf ok le M o
  best_right union None a b = best_none ok le order union a b
  best_right union (Some q) a b = best_left ok le order (union_swap union) q b a

  module _ (value : ℕ → Option ℕ) (a n : ℕ) where
    with_first : (uv : ℕ) → value a ≡ Some uv → ok uv ≡ true → (o : Option (ℕ × ℕ))
        → BestOf ok le (InSegment value (a + 1) n) o
        → BestOf ok le (InSegment value a (suc n)) (Some (preferred le (a, uv) o))
    with_first uv e h o later = with_pick o later
      where
        union : IsUnion (AtOne value a) (InSegment value (a + 1) n) (InSegment value a (suc n))
        union = segment_union value a n

        same : (w : ℕ) → value a ≡ Some w → w ≡ uv
        same w f = let g : Some w ≡ Some uv = sym f ∙ e in cc

        here : BestOf ok le (AtOne value a) (Some (a, uv))
        here = record {
          has = (refl, e);
          allowed = h;
          best = λ sel w m k. rw (same w m.1) (order-refl le order uv);
          first = λ sel m. omega arith;
        }

        with_test : (q : ℕ × ℕ) → BestOf ok le (InSegment value (a + 1) n) (Some q)
            → (b : Bool) → le uv q.1 ≡ b → BestOf ok le (InSegment value a (suc n)) (Some (cond b (a, uv) q))
        with_test q later true t =
            best_both ok le order union (a, uv) q here later t (λ _. let low : a + 1 ≤ q.0 = later.has.0 in omega arith)
        with_test q later false t =
            best_both ok le order (union_swap union) q (a, uv) later here (order.total _ _ t)
            (λ k. absurd (false≢true (sym t ∙ k)))

        with_pick : (o : Option (ℕ × ℕ)) → BestOf ok le (InSegment value (a + 1) n) o
            → BestOf ok le (InSegment value a (suc n)) (Some (preferred le (a, uv) o))
        with_pick None later = best_left ok le order union (a, uv) here later
        with_pick (Some q) later = with_test q later (le uv q.1) refl

  -- the pick of the pairs is the pick of the members
  pub best_of_segment : (value : ℕ → Option ℕ) (a n : ℕ)
      → BestOf ok le (InSegment value a n) (best_pair le (filter (λ p. ok p.1) (pairs_between value a n)))
  best_of_segment value a zero = λ sel uv m. absurd (omega arith)
  best_of_segment value a (suc n) = by_value (value a) refl (best_of_segment value (a + 1) n)
    where
      union : IsUnion (AtOne value a) (InSegment value (a + 1) n) (InSegment value a (suc n))
      union = segment_union value a n

      by_test : (uv : ℕ) → value a ≡ Some uv → (b : Bool) → ok uv ≡ b
          → BestOf ok le (InSegment value (a + 1) n) (best_pair le (filter (λ p. ok p.1) (pairs_between value (a + 1) n)))
          → BestOf ok le (InSegment value a (suc n))
          (best_pair le (filter (λ p. ok p.1) ((a, uv) ∷ pairs_between value (a + 1) n)))
      by_test uv e true h best = rw h (with_first value a n uv e h _ best)
      by_test uv e false h best =
          rw h (best_right union _ (λ sel w m. let same : Some w ≡ Some uv = sym m.1 ∙ e in let is : w ≡ uv = cc in rw is h) best)

      by_value : (o : Option ℕ) → value a ≡ o
          → BestOf ok le (InSegment value (a + 1) n) (best_pair le (filter (λ p. ok p.1) (pairs_between value (a + 1) n)))
          → BestOf ok le (InSegment value a (suc n)) (best_pair le (filter (λ p. ok p.1) (pairs_between value a (suc n))))
      by_value None e best =
          rw e (best_right union _ (λ sel w m. let none : None ≡ Some w = sym e ∙ m.1 in cc) best)
      by_value (Some uv) e best = rw e (by_test uv e (ok uv) refl best)
