-- The first selector of a value, by the pick not below it.
use Rattle.std.proofs.Common.{◌≡◌, ℕ, Bool, true, false, cond, leb, List, [], ◌∷◌, Option, Some, None, refl, sym, ap, ◌∙◌, filter, find, arith, leb-true, leb-false, eqb-true}
use Rattle.std.specs.Prelude.{◌==◌, option_map}
use Rattle.std.proofs.lemmas.Bool.{eqb-false, false_from_ne_true}
use Rattle.std.proofs.lemmas.Bool.Decides.{nat_tests}
use Rattle.std.specs.Bool.{then_some}
use Rattle.linear_range.specs.declared.pick.Pick.{Pick}
use Rattle.linear_range.specs.Pick.{pair_of}
use Rattle.linear_range.specs.Values.{lesser_pair, least_pair, pick_high}
use Rattle.board.specs.declared.rail.Rail.{Rail}
use Rattle.board.specs.declared.table.Table.{Table}
use Rattle.board.specs.Table.{values_of, passing}
use Rattle.plain_board.specs.Plan.{table_selector}

-- no value below v
not_below : ℕ → Option (ℕ × ℕ) → Bool
not_below v None = true
not_below v (Some p) = leb v p.1

lesser_not_below : (v : ℕ) (p : ℕ × ℕ) (o : Option (ℕ × ℕ)) → leb v p.1 ≡ true → not_below v o ≡ true → leb v (lesser_pair p o).1 ≡ true
unfolding not_below
lesser_not_below v p None h rest = h
lesser_not_below v p (Some q) h rest = grind (arith, nat_tests)

high_not_below_by : (v : ℕ) (p : ℕ × ℕ) (ps : List (ℕ × ℕ)) (t : Bool) → leb v p.1 ≡ t → not_below v (least_pair ps) ≡ true → not_below v (least_pair (cond t (p ∷ ps) ps)) ≡ true
unfolding not_below
high_not_below_by v p ps true h rest = lesser_not_below v p (least_pair ps) h rest
high_not_below_by v p ps false h rest = rest

high_not_below : (v : ℕ) (ps : List (ℕ × ℕ)) → not_below v (pick_high ps v) ≡ true
unfolding not_below
high_not_below v [] = refl
high_not_below v (p ∷ ps) = high_not_below_by v p (filter (λ q. leb v q.1) ps) (leb v p.1) refl (high_not_below v ps)

abbrev has_value : ℕ → ℕ → Bool
has_value v w = w == v

-- the first with the value, of a pair that isn't below it and those behind it
first_alone : (p q : ℕ × ℕ) (a b : Bool) → (a ≡ false → b ≡ false) → cond a (Some p) (cond b (Some q) None) ≡ cond a (Some p) None
first_alone p q true b same = refl
first_alone p q false b same = ap (λ (t : Bool). cond t (Some q) None) (same refl)

first_of_both : (v : ℕ) (p q : ℕ × ℕ) (t : Bool) → leb p.1 q.1 ≡ t → leb v p.1 ≡ true → leb v q.1 ≡ true
    → cond (p.1 == v) (Some p) (cond (q.1 == v) (Some q) None) ≡ cond ((cond {A = ℕ × ℕ} t p q).1 == v) (Some (cond t p q)) None
first_of_both v p q true is low high = first_alone p q (p.1 == v) (q.1 == v) (λ other. false_from_ne_true _ (λ same.
    let equal = eqb-true q.1 v same in
    let apart = eqb-false p.1 v other in
    let first = leb-true p.1 q.1 is in
    let second = leb-true v p.1 low in
    apart (omega arith)))
first_of_both v p q false is low high =
    let less = leb-false p.1 q.1 is in
    let most = leb-true v q.1 high in
    let other : (p.1 == v) ≡ false = false_from_ne_true _ (λ same. let equal = eqb-true p.1 v same in omega arith) in
    ap (λ (t : Bool). cond t (Some p) (cond (q.1 == v) (Some q) None)) other

first_of_two : (v : ℕ) (p : ℕ × ℕ) (o : Option (ℕ × ℕ)) → leb v p.1 ≡ true → not_below v o ≡ true → cond (p.1 == v) (Some p) (passing (has_value v) o) ≡ passing (has_value v) (Some (lesser_pair p o))
unfolding not_below
first_of_two v p None h rest = refl
first_of_two v p (Some q) h rest = first_of_both v p q (leb p.1 q.1) refl h rest

first_behind : (v : ℕ) (p : ℕ × ℕ) (o : Option (ℕ × ℕ)) → leb v p.1 ≡ false → cond (p.1 == v) (Some p) o ≡ o
first_behind v p o h =
    let above = leb-false v p.1 h in
    let other : (p.1 == v) ≡ false = false_from_ne_true _ (λ same. let equal = eqb-true p.1 v same in omega arith) in
    ap (λ (t : Bool). cond t (Some p) o) other

find_high_by : (v : ℕ) (p : ℕ × ℕ) (ps : List (ℕ × ℕ)) (rest : Option (ℕ × ℕ)) (t : Bool) → leb v p.1 ≡ t → not_below v (least_pair ps) ≡ true → rest ≡ passing (has_value v) (least_pair ps)
    → cond (p.1 == v) (Some p) rest ≡ passing (has_value v) (least_pair (cond t (p ∷ ps) ps))
find_high_by v p ps rest true h low is = ap (cond (p.1 == v) (Some p)) is ∙ first_of_two v p (least_pair ps) h low
find_high_by v p ps rest false h low is = ap (cond (p.1 == v) (Some p)) is ∙ first_behind v p (passing (has_value v) (least_pair ps)) h

find_high : (v : ℕ) (ps : List (ℕ × ℕ)) → find (λ p. p.1 == v) ps ≡ passing (has_value v) (pick_high ps v)
find_high v [] = refl
find_high v (p ∷ ps) = find_high_by v p (filter (λ q. leb v q.1) ps) (find (λ q. q.1 == v) ps) (leb v p.1) refl (high_not_below v ps) (find_high v ps)

pub selector_by_pick : (rail : Rail) (table : Table) (uv : ℕ) (o : Option Pick) → rail.desc.table ≡ table → option_map pair_of o ≡ pick_high (values_of table) uv
    → table_selector rail uv ≡ option_map (λ p. p.0) (passing (λ w. w == uv) (option_map pair_of o))
selector_by_pick rail table uv o is pick =
    ap (option_map (λ p. p.0)) (find_high uv (values_of rail.desc.table))
    ∙ ap (λ t. option_map (λ p. p.0) (passing (λ w. w == uv) (pick_high (values_of t) uv))) is
    ∙ ap (λ q. option_map (λ p. p.0) (passing (λ w. w == uv) q)) (sym pick)

-- what is told of a pick that passes
pub selector_told : (t : Bool) (pick : Pick) → then_some t pick.sel ≡ option_map (λ p. p.0) (cond t (Some (pair_of pick)) None)
selector_told true pick = refl
selector_told false pick = refl

pub value_told : (t : Bool) (pick : Pick) → then_some t pick.uv ≡ option_map (λ p. p.1) (cond t (Some (pair_of pick)) None)
value_told true pick = refl
value_told false pick = refl
