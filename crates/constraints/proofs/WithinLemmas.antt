-- Whether a value of a table lies within bounds, by the nearest one that isn't below them.
use Rattle.std.proofs.Common.{◌≡◌, ℕ, Bool, true, false, ◌&&◌, ◌||◌, cond, leb, eqb, List, [], ◌∷◌, Option, Some, None, refl, sym, ap, ◌∙◌, filter, arith}
use Rattle.std.proofs.lemmas.Bool.Decides.{nat_tests}
use Rattle.std.specs.List.{list_any}
use Rattle.std.specs.Option.{option_map, is_some}
use Rattle.linear_range.specs.declared.pick.Pick.{Pick}
use Rattle.linear_range.specs.Pick.{pair_of}
use Rattle.linear_range.specs.Values.{least_pair, pick_high}
use Rattle.board.specs.Table.{passing}
use Rattle.board.specs.Rail.{is_within}
use Rattle.board.proofs.Picks.{least_pair-within}

any_step : (b : Bool) (p : ℕ × ℕ) (found : Bool) (ps : List (ℕ × ℕ)) → found ≡ is_some (least_pair ps) → (b || found) ≡ is_some (least_pair (cond b (p ∷ ps) ps))
any_step true p found ps is = refl
any_step false p found ps is = is

-- some pair passes a test exactly where there is a least one of those that pass
any-least : (test : ℕ × ℕ → Bool) (ps : List (ℕ × ℕ)) → list_any test ps ≡ is_some (least_pair (filter test ps))
any-least test [] = refl
any-least test (p ∷ ps) = any_step (test p) p (list_any test ps) (filter test ps) (any-least test ps)

-- the pick is there, and isn't above
abbrev pub is_not_above : ℕ → Option Pick → Bool
is_not_above greatest None = false
is_not_above greatest (Some pick) = leb pick.uv greatest

some_if : (b : Bool) (p : ℕ × ℕ) → is_some (cond b (Some p) None) ≡ b
some_if true p = refl
some_if false p = refl

is_some-passing : (greatest : ℕ) (pick : Option Pick) → is_some (passing (λ v. leb v greatest) (option_map pair_of pick)) ≡ is_not_above greatest pick
is_some-passing greatest None = refl
is_some-passing greatest (Some pick) = some_if (leb pick.uv greatest) (pair_of pick)

pub within_by_pick : (least greatest : ℕ) (ps : List (ℕ × ℕ)) (pick told : Option Pick) → option_map pair_of pick ≡ pick_high ps least → pick ≡ told
    → is_not_above greatest told ≡ list_any (λ pair. is_within (Some (least, greatest)) pair.1) ps
within_by_pick least greatest ps pick told is same =
    ap (is_not_above greatest) (sym same)
    ∙ sym (is_some-passing greatest pick)
    ∙ ap (λ p. is_some (passing (λ v. leb v greatest) p)) is
    ∙ ap is_some (sym (least_pair-within least greatest ps))
    ∙ sym (any-least (λ pair. is_within (Some (least, greatest)) pair.1) ps)

-- within bounds that are both the same lies that value alone
same_test : (uv v : ℕ) → (leb uv v && leb v uv) ≡ eqb v uv
same_test uv v = grind (arith, nat_tests)

pub any-same : (uv : ℕ) (ps : List (ℕ × ℕ)) → list_any (λ pair. is_within (Some (uv, uv)) pair.1) ps ≡ list_any (λ pair. eqb pair.1 uv) ps
any-same uv [] = refl
any-same uv (p ∷ ps) = ap (λ b. b || list_any (λ pair. is_within (Some (uv, uv)) pair.1) ps) (same_test uv p.1) ∙ ap (λ b. eqb p.1 uv || b) (any-same uv ps)
