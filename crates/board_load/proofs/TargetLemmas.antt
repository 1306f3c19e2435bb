-- Where a rail is to stand, by the picks of its table.
use Rattle.std.proofs.Common.{◌≡◌, ℕ, ◌≤◌, Bool, true, false, cond, leb, min, max, List, [], ◌∷◌, Option, Some, None, refl, sym, ap, ◌∙◌, subst, arith, map, filter, Contains, le-leb, leb-true, leb-false}
use Rattle.std.specs.Prelude.{option_map, unwrap_or}
use Rattle.std.specs.Option.{option_map_or}
use Rattle.std.proofs.lemmas.List.Elements.{All-contains, filter_passes}
use Rattle.linear_range.specs.Values.{lesser_pair, least_pair, greater_pair, greatest_pair, pick_high, pick_low}
use Rattle.board.specs.declared.rail.Rail.{Rail}
use Rattle.board.specs.Rail.{uv, is_on, is_within, least, lesser}
use Rattle.board.specs.Table.{values_of, passing}
use Rattle.board.proofs.Picks.{least_pair-within, pick_low-within}
use Rattle.rail_law.proofs.Admissible.{in_filtered}
use Rattle.plain_board.proofs.AloneLeast.{IsLeastIn}
use Rattle.plain_board.proofs.Run.{filtered}
use Rattle.board_load.specs.Loading.{HasValueInside}
use Rattle.board_load.specs.Start.{values_inside, loadable, greatest, floor, start_values}
use Rattle.board_load.specs.Inside.Targets.{start_of}
use Rattle.board_load.proofs.StartValues.{greatest_in, start_is_loadable, start_is_least}
use Rattle.board_load.proofs.LoadedRails.{sole, filter_values}

-- the least of the values is the value of the least pair
lesser-pair : (p : ℕ × ℕ) (o : Option (ℕ × ℕ)) → lesser p.1 (option_map (λ q. q.1) o) ≡ (lesser_pair p o).1
lesser-pair p None = refl
lesser-pair p (Some q) = elim (leb p.1 q.1) as (λ t. cond t p.1 q.1 ≡ (cond {A = ℕ × ℕ} t p q).1) [ true ↦ refl | false ↦ refl ]

least_step : (p : ℕ × ℕ) (vs : List ℕ) (ps : List (ℕ × ℕ)) (t : Bool) → least vs ≡ option_map (λ q. q.1) (least_pair ps)
    → least (cond t (p.1 ∷ vs) vs) ≡ option_map (λ q. q.1) (least_pair (cond t (p ∷ ps) ps))
least_step p vs ps true ih = ap (λ o. Some (lesser p.1 o)) ih ∙ ap Some (lesser-pair p (least_pair ps))
least_step p vs ps false ih = ih

least-values : (ok : ℕ → Bool) (ps : List (ℕ × ℕ)) → least (filter ok (map (λ p. p.1) ps)) ≡ option_map (λ p. p.1) (least_pair (filter (λ p. ok p.1) ps))
least-values ok [] = refl
least-values ok (p ∷ ps) = least_step p (filter ok (map (λ q. q.1) ps)) (filter (λ q. ok q.1) ps) (ok p.1) (least-values ok ps)

pub least_inside : (low high : ℕ) (ps : List (ℕ × ℕ)) → least (filter (is_within (Some (low, high))) (map (λ p. p.1) ps)) ≡ option_map (λ p. p.1) (passing (λ v. leb v high) (pick_high ps low))
least_inside low high ps = least-values (is_within (Some (low, high))) ps ∙ ap (option_map (λ p. p.1)) (least_pair-within low high ps)

-- and so is the greatest
max-pair : (p q : ℕ × ℕ) (t : Bool) → leb q.1 p.1 ≡ t → max p.1 q.1 ≡ (cond {A = ℕ × ℕ} t p q).1
max-pair p q true is = let below = leb-true q.1 p.1 is in omega arith
max-pair p q false is = let above = leb-false q.1 p.1 is in omega arith

greater-pair : (p : ℕ × ℕ) (o : Option (ℕ × ℕ)) → option_map_or (max p.1) (option_map (λ q. q.1) o) p.1 ≡ (greater_pair p o).1
greater-pair p None = refl
greater-pair p (Some q) = max-pair p q (leb q.1 p.1) refl

greatest_step : (p : ℕ × ℕ) (vs : List ℕ) (ps : List (ℕ × ℕ)) (t : Bool) → greatest vs ≡ option_map (λ q. q.1) (greatest_pair ps)
    → greatest (cond t (p.1 ∷ vs) vs) ≡ option_map (λ q. q.1) (greatest_pair (cond t (p ∷ ps) ps))
greatest_step p vs ps true ih = ap (λ o. Some (option_map_or (max p.1) o p.1)) ih ∙ ap Some (greater-pair p (greatest_pair ps))
greatest_step p vs ps false ih = ih

greatest-values : (ok : ℕ → Bool) (ps : List (ℕ × ℕ)) → greatest (filter ok (map (λ p. p.1) ps)) ≡ option_map (λ p. p.1) (greatest_pair (filter (λ p. ok p.1) ps))
greatest-values ok [] = refl
greatest-values ok (p ∷ ps) = greatest_step p (filter ok (map (λ q. q.1) ps)) (filter (λ q. ok q.1) ps) (ok p.1) (greatest-values ok ps)

pub greatest_inside : (low high most : ℕ) (ps : List (ℕ × ℕ))
    → greatest (filter (λ v. leb v most) (filter (is_within (Some (low, high))) (map (λ p. p.1) ps))) ≡ option_map (λ p. p.1) (passing (leb low) (pick_low ps (min most high)))
greatest_inside low high most ps =
    ap (λ vs. greatest (filter (λ v. leb v most) vs)) (sym (filter_values (is_within (Some (low, high))) ps))
    ∙ greatest-values (λ v. leb v most) (filter (λ p. is_within (Some (low, high)) p.1) ps)
    ∙ ap (option_map (λ p. p.1)) (pick_low-within low high most ps)

-- without bounds a rail stays where it is
pub start_found : (rail : Rail) (regs : List (List ℕ)) → HasValueInside rail → rail.limits.bounds ≡ None → start_of regs rail ≡ uv rail regs
start_found rail regs has none =
    let loads : loadable rail regs ≡ uv rail regs ∷ [] = ap (λ o. option_map_or (values_inside rail) o (uv rail regs ∷ [])) none in
    sole (uv rail regs) (start_of regs rail) (subst (λ (ns : List ℕ). Contains {X = ℕ} ns (start_of regs rail)) loads (start_is_loadable rail regs has))

-- the least of those from a number of them on is that number
from_one : (ns : List ℕ) (g : ℕ) → Contains ns g → IsLeastIn (filter (leb g) ns) (unwrap_or (least (filter (leb g) ns)) 0) → unwrap_or (least (filter (leb g) ns)) 0 ≡ g
from_one ns g has is =
    let kept : Contains (filter (leb g) ns) g = in_filtered (leb g) ns g has.0 has.1 has.2 (le-leb g g (omega arith)) in
    let most = All-contains (λ n. unwrap_or (least (filter (leb g) ns)) 0 ≤ n) (filter (leb g) ns) g is.least kept in
    let low = leb-true g _ (All-contains (λ n. leb g n ≡ true) (filter (leb g) ns) (unwrap_or (least (filter (leb g) ns)) 0) (filter_passes (leb g) ns) is.among) in
    omega arith

filter_all : (test : ℕ → Bool) (ns : List ℕ) → ((n : ℕ) → test n ≡ true) → filter test ns ≡ ns
filter_all test [] each = refl
filter_all test (n ∷ ns) each = ap (λ t. cond t (n ∷ filter test ns) (filter test ns)) (each n) ∙ ap (λ rest. n ∷ rest) (filter_all test ns each)

all_from_zero : (ns : List ℕ) → filter (leb 0) ns ≡ ns
all_from_zero ns = filter_all (leb 0) ns (λ n. le-leb 0 n (omega arith))

module _ (rail : Rail) (regs : List (List ℕ)) (bounds : ℕ × ℕ) (bound : rail.limits.bounds ≡ Some bounds) (has : HasValueInside rail) where
  abbrev inside : List ℕ
  inside = filter (is_within (Some bounds)) (map (λ p. p.1) (values_of rail.desc.table))

  -- the greatest that isn't above where it is found
  abbrev top : Option ℕ
  top = greatest (filter (λ v. leb v (uv rail regs)) inside)

  loads : loadable rail regs ≡ inside
  loads = ap (λ o. option_map_or (values_inside rail) o (uv rail regs ∷ [])) bound

  floor_is : floor rail regs ≡ cond (is_on rail regs) (unwrap_or top 0) 0
  floor_is = ap (λ ns. cond (is_on rail regs) (unwrap_or (greatest (filter (λ v. leb v (uv rail regs)) ns)) 0) 0) loads

  starts : start_values rail regs ≡ filter (leb (cond (is_on rail regs) (unwrap_or top 0) 0)) inside
  starts = ap (λ n. filter (leb n) (loadable rail regs)) floor_is ∙ ap (filter (leb (cond (is_on rail regs) (unwrap_or top 0) 0))) loads

  start_is : IsLeastIn (start_values rail regs) (start_of regs rail)
  start_is = start_is_least rail regs has

  pub start_kept : (g : ℕ) → is_on rail regs ≡ true → top ≡ Some g → start_of regs rail ≡ g
  start_kept g on is =
      let low : cond (is_on rail regs) (unwrap_or top 0) 0 ≡ g = ap (λ (t : Bool). cond t (unwrap_or top 0) 0) on ∙ ap (λ (o : Option ℕ). unwrap_or o 0) is in
      let same : start_values rail regs ≡ filter (leb g) inside = starts ∙ ap (λ n. filter (leb n) inside) low in
      let among : Contains inside g = filtered (λ v. leb v (uv rail regs)) inside g (greatest_in (filter (λ v. leb v (uv rail regs)) inside) g is) in
      let is_least : IsLeastIn (filter (leb g) inside) (unwrap_or (least (filter (leb g) inside)) 0) = subst (λ (ns : List ℕ). IsLeastIn ns (unwrap_or (least ns) 0)) same start_is in
      ap (λ ns. unwrap_or (least ns) 0) same ∙ from_one inside g among is_least

  start_low : cond (is_on rail regs) (unwrap_or top 0) 0 ≡ 0 → start_of regs rail ≡ unwrap_or (least inside) 0
  start_low low = ap (λ ns. unwrap_or (least ns) 0) (starts ∙ ap (λ n. filter (leb n) inside) low ∙ all_from_zero inside)

  pub start_off : is_on rail regs ≡ false → start_of regs rail ≡ unwrap_or (least inside) 0
  start_off off = start_low (ap (λ (t : Bool). cond t (unwrap_or top 0) 0) off)

  pub start_least : is_on rail regs ≡ true → top ≡ None → start_of regs rail ≡ unwrap_or (least inside) 0
  start_least on none = start_low (ap (λ (t : Bool). cond t (unwrap_or top 0) 0) on ∙ ap (λ (o : Option ℕ). unwrap_or o 0) none)
