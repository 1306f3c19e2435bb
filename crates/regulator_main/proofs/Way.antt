-- The way of a rail, one value at a time.
use Rattle.std.proofs.Common.{◌≡◌, ℕ, Bool, true, false, not, ◌&&◌, ◌||◌, cond, eqb, eqb-true, List, [], ◌∷◌, refl, sym, ap, ◌∙◌, filter}
use Rattle.regulator_main.specs.Inside.Way.{in_order, stretch}
use Rattle.regulator_main.proofs.Ordered.{has, IsOrder, Chain-in_order, has-in_order, has-filter, leads_all, same_chain, and_false}

pub left_true : (a b : Bool) → (a && b) ≡ true → a ≡ true
left_true true b is = refl
left_true false b is = is

none_step : (v : ℕ) (vs : List ℕ) (t : Bool) → vs ≡ [] → cond (t && not t) (v ∷ vs) vs ≡ []
none_step v vs true is = is
none_step v vs false is = is

module _ (before : ℕ → ℕ → Bool) (order : IsOrder before) where
  -- the numbers of a stretch
  has-stretch : (values : List ℕ) (from to v : ℕ) → has v (stretch before values from to) ≡ ((before from v && not (before to v)) && has v values)
  has-stretch values from to v =
      has-in_order before v (filter (λ w. before from w && not (before to w)) values) ∙ has-filter (λ w. before from w && not (before to w)) v values

  -- what is behind from, and isn't the nearest there, is behind the nearest
  behind_nearest : (from next v : ℕ) (a c : Bool) → before from v ≡ a → before next v ≡ c → eqb v next ≡ false → before from next ≡ true
      → (before from v ≡ true → before v next ≡ false) → a ≡ c
  behind_nearest from next v true c is here apart behind nearest = sym (order.total v next (nearest is) apart) ∙ here
  behind_nearest from next v false true is here apart behind nearest = sym is ∙ order.goes_on from next v behind here
  behind_nearest from next v false false is here apart behind nearest = refl

  same_by : (values : List ℕ) (from next to v : ℕ) (h e : Bool) → has v values ≡ h → eqb v next ≡ e → has next values ≡ true → before from next ≡ true → before to next ≡ false
      → (h ≡ true → before from v ≡ true → before v next ≡ false)
      → ((before from v && not (before to v)) && h) ≡ (e || ((before next v && not (before to v)) && h))
  same_by values from next to v h true here same among behind short nearest =
      let is = eqb-true v next same in
      let h_is : h ≡ true = sym here ∙ ap (λ w. has w values) is ∙ among in
      let a : before from v ≡ true = ap (before from) is ∙ behind in
      let b : before to v ≡ false = ap (before to) is ∙ short in
      rw (h_is, a, b)
  same_by values from next to v true false here same among behind short nearest =
      ap (λ x. (x && not (before to v)) && true) (behind_nearest from next v (before from v) (before next v) refl refl same behind (nearest refl))
  same_by values from next to v false false here same among behind short nearest = sym (and_false (before from v && not (before to v))) ∙ and_false (before next v && not (before to v))

  -- a stretch is its nearest value, and the stretch from there on
  pub stretch-step : (values : List ℕ) (from next to : ℕ) → has next values ≡ true → before from next ≡ true → before to next ≡ false
      → ((w : ℕ) → has w values ≡ true → before from w ≡ true → before w next ≡ false)
      → stretch before values from to ≡ next ∷ stretch before values next to
  stretch-step values from next to among behind short nearest =
      same_chain before order (stretch before values from to) (next ∷ stretch before values next to)
      (Chain-in_order before order (filter (λ v. before from v && not (before to v)) values)) (
        leads_all before next (stretch before values next to) (λ v is. left_true (before next v) (not (before to v)) (left_true (before next v && not (before to v)) (has v values) (sym (has-stretch values next to v) ∙ is))),
        Chain-in_order before order (filter (λ v. before next v && not (before to v)) values),
      )
      (λ v. has-stretch values from to v
      ∙ same_by values from next to v (has v values) (eqb v next) refl refl among behind short (nearest v)
      ∙ ap (λ b. eqb v next || b) (sym (has-stretch values next to v)))

  -- no value is behind a value and not behind it
  none_passes : (to : ℕ) (vs : List ℕ) → filter (λ v. before to v && not (before to v)) vs ≡ []
  none_passes to [] = refl
  none_passes to (v ∷ vs) = none_step v (filter (λ w. before to w && not (before to w)) vs) (before to v) (none_passes to vs)

  -- nothing lies between a value and itself
  pub stretch-same : (values : List ℕ) (to : ℕ) → stretch before values to to ≡ []
  stretch-same values to = ap (in_order before) (none_passes to values)
