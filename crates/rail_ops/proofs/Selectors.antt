-- The selector of a value that a rail may stand at has room in its field, and that value.
use Rattle.std.proofs.Common.{◌≡◌, ℕ, zero, suc, Bool, true, false, cond, List, [], ◌∷◌, Some, refl, ap, ◌∙◌, subst, arith, map, filter, find, Contains}
use Rattle.std.specs.Prelude.{◌==◌, unwrap_or, option_map}
use Rattle.std.proofs.lemmas.Bool.{eqb-true, eq-eqb, both_ways}
use Rattle.linear_range.proofs.Listed.{lists_values}
use Rattle.voltage_table.proofs.Listed.{lists_values as lists_entries}
use Rattle.chip_regs.specs.declared.field.Field.{Field}
use Rattle.chip_regs.specs.Field.{FitsField}
use Rattle.board.specs.declared.rail.Rail.{Rail}
use Rattle.board.specs.declared.table.Table.{Table}
use Rattle.board.specs.declared.table.Table.TheVariants.{Ranges, List as Listed}
use Rattle.board.specs.Desc.{HoldsSelectors}
use Rattle.board.specs.Rail.{allowed, choices, is_within}
use Rattle.board.specs.Table.{uv_of, values_of}
use Rattle.rail_law.specs.Moves.{selector_for}
use Rattle.plain_board.proofs.Run.{filtered}

-- the first pair with a value among the pairs
record IsFirst (pairs : List (ℕ × ℕ)) (v : ℕ) : Type 0 where
  pair : ℕ × ℕ
  first : find (λ p. p.1 == v) pairs ≡ Some pair
  among : Contains pairs pair
  value : pair.1 ≡ v

first_with : (pairs : List (ℕ × ℕ)) (v : ℕ) → Contains (map (λ p. p.1) pairs) v → IsFirst pairs v
first_with [] v has = absurd (omega (arith, has.1))
first_with (p ∷ rest) v has = by (p.1 == v) refl has (first_with rest v) where
  by : (t : Bool) → (p.1 == v) ≡ t → Contains (map (λ q. q.1) (p ∷ rest)) v → (Contains (map (λ q. q.1) rest) v → IsFirst rest v) → IsFirst (p ∷ rest) v
  by true is has further = record { pair = p; first = rw is refl; among = (0, omega arith, refl); value = eqb-true p.1 v is }
  by false is (zero, within, same) further = absurd (both_ways _ is (eq-eqb p.1 v same))
  by false is (suc k, within, same) further =
      let later = further (k, omega arith, same) in
      record { pair = later.pair; first = rw is later.first; among = (suc later.among.0, omega (arith, later.among.1), later.among.2); value = later.value }

value_listed : (table : Table) (sel v : ℕ) → Contains (values_of table) (sel, v) → uv_of table sel ≡ Some v
value_listed (Ranges ranges) sel v has = (lists_values ranges sel v).0 has
value_listed (Listed list) sel v has = (lists_entries list sel v).0 has

module _ (rail : Rail) (field : Field) (holds : HoldsSelectors rail.desc.table field) (v : ℕ) (has : Contains (allowed rail) v) where
  -- of a rail that can change
  module _ (changeable : rail.changeable ≡ true) where
    pub selector_value : uv_of rail.desc.table (selector_for rail v) ≡ Some v
    selector_value =
        let there = first_with (choices rail) v has in
        let listed : choices rail ≡ filter (λ pair. is_within rail.limits.bounds pair.1) (values_of rail.desc.table) =
        ap (λ t. cond t (filter (λ pair. is_within rail.limits.bounds pair.1) (values_of rail.desc.table)) ((0, rail.kept_uv) ∷ [])) changeable in
        let in_table = filtered (λ pair. is_within rail.limits.bounds pair.1) (values_of rail.desc.table) there.pair (subst (λ (ps : List (ℕ × ℕ)). Contains {X = ℕ × ℕ} ps there.pair) listed there.among) in
        ap (uv_of rail.desc.table) (ap (λ o. unwrap_or (option_map (λ (pair : ℕ × ℕ). pair.0) o) 0) there.first)
        ∙ value_listed rail.desc.table there.pair.0 there.pair.1 in_table ∙ ap Some there.value

    changing_fits : FitsField field (selector_for rail v)
    changing_fits = (holds (selector_for rail v)).1 (let value = selector_value in rw value refl)

  -- of one that can't its number is 0
  fixed_fits : rail.changeable ≡ false → FitsField field (selector_for rail v)
  fixed_fits fixed =
      let only : choices rail ≡ (0, rail.kept_uv) ∷ [] = ap (λ t. cond t (filter (λ pair. is_within rail.limits.bounds pair.1) (values_of rail.desc.table)) ((0, rail.kept_uv) ∷ [])) fixed in
      let none : selector_for rail v ≡ 0 = ap (λ (ps : List (ℕ × ℕ)). unwrap_or (option_map (λ (pair : ℕ × ℕ). pair.0) (find (λ (pair : ℕ × ℕ). pair.1 == v) ps)) 0) only ∙ by (rail.kept_uv == v) in
      omega (arith, none)
    where
      by : (t : Bool) → unwrap_or (option_map (λ (pair : ℕ × ℕ). pair.0) (cond t (Some (0, rail.kept_uv)) (find (λ (pair : ℕ × ℕ). pair.1 == v) []))) 0 ≡ 0
      by true = refl
      by false = refl

  pub selector_fits : FitsField field (selector_for rail v)
  selector_fits = by rail.changeable refl where
    by : (t : Bool) → rail.changeable ≡ t → FitsField field (selector_for rail v)
    by true is = changing_fits is
    by false is = fixed_fits is
