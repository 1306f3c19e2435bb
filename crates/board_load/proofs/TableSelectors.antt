-- The first selector that a table has for a value, and what a selector field holds.
use Rattle.std.proofs.Common.{◌≡◌, ℕ, zero, suc, ◌*◌, ◌/◌, ◌^◌, ◌≤◌, Bool, true, false, cond, List, [], ◌∷◌, Option, Some, None, refl, sym, ap, ◌∙◌, arith, map, find, pow_pos, bit_and, Contains, eqb-true, eq-eqb}
use Rattle.std.specs.Prelude.{◌==◌, ◌↔◌, option_map}
use Rattle.std.proofs.Math.Nat.{div-mul-le_self}
use Rattle.std.proofs.lemmas.Bool.{both_ways}
use Rattle.std.proofs.lemmas.Nat.{le-div, and_le_r}
use Rattle.std.proofs.lemmas.Option.{same_Some}
use Rattle.linear_range.proofs.Listed.{lists_values}
use Rattle.voltage_table.proofs.Listed.{lists_values as lists_entries}
use Rattle.chip_regs.specs.declared.field.Field.{Field}
use Rattle.chip_regs.specs.Field.{FitsField}
use Rattle.chip_regs.specs.Registers.{byte_of, field_of}
use Rattle.board.specs.declared.rail.Rail.{Rail}
use Rattle.board.specs.declared.table.Table.{Table}
use Rattle.board.specs.declared.table.Table.TheVariants.{Ranges, List as Listed}
use Rattle.board.specs.Table.{uv_of, values_of}
use Rattle.rail_law.proofs.Admissible.{in_mapped, in_more}
use Rattle.plain_board.specs.Plan.{table_selector}

-- the pair is one of these, and has the value
record IsPair (ps : List (ℕ × ℕ)) (v : ℕ) (pair : ℕ × ℕ) : Type 0 where
  among : Contains ps pair
  value : pair.1 ≡ v

is_pair_by : (p pair : ℕ × ℕ) (ps : List (ℕ × ℕ)) (v : ℕ) (t : Bool) (rest : Option (ℕ × ℕ)) → (p.1 == v) ≡ t → (rest ≡ Some pair → IsPair ps v pair) → cond t (Some p) rest ≡ Some pair → IsPair (p ∷ ps) v pair
is_pair_by p pair ps v true rest is later found =
    let same : p ≡ pair = same_Some p pair found in
    record { among = (0, omega arith, same); value = ap (λ (q : ℕ × ℕ). q.1) (sym same) ∙ eqb-true p.1 v is }
is_pair_by p pair ps v false rest is later found = let there = later found in record { among = in_more pair ps p there.among; value = there.value }

is_pair : (ps : List (ℕ × ℕ)) (v : ℕ) (pair : ℕ × ℕ) → find (λ p. p.1 == v) ps ≡ Some pair → IsPair ps v pair
is_pair [] v pair is = absurd (cc)
is_pair (p ∷ ps) v pair is = is_pair_by p pair ps v (p.1 == v) (find (λ q. q.1 == v) ps) refl (is_pair ps v pair) is

has_pair_by : (p : ℕ × ℕ) (ps : List (ℕ × ℕ)) (v : ℕ) (t : Bool) (rest : Option (ℕ × ℕ)) → (p.1 == v) ≡ t → (Contains (map (λ q. q.1) ps) v → (pair : ℕ × ℕ) × (rest ≡ Some pair))
    → Contains (map (λ q. q.1) (p ∷ ps)) v → (pair : ℕ × ℕ) × (cond t (Some p) rest ≡ Some pair)
has_pair_by p ps v true rest is later has = (p, refl)
has_pair_by p ps v false rest is later (zero, within, same) = absurd (both_ways _ is (eq-eqb p.1 v same))
has_pair_by p ps v false rest is later (suc k, within, same) = later (k, omega arith, same)

has_pair : (ps : List (ℕ × ℕ)) (v : ℕ) → Contains (map (λ q. q.1) ps) v → (pair : ℕ × ℕ) × (find (λ p. p.1 == v) ps ≡ Some pair)
has_pair [] v has = let within = has.1 in absurd (omega (arith, within))
has_pair (p ∷ ps) v has = has_pair_by p ps v (p.1 == v) (find (λ q. q.1 == v) ps) refl (has_pair ps v) has

-- the pairs of a table are its selectors with their values
lists : (table : Table) (sel v : ℕ) → Contains (values_of table) (sel, v) ↔ (uv_of table sel ≡ Some v)
lists (Ranges ranges) sel v = lists_values ranges sel v
lists (Listed list) sel v = lists_entries list sel v

-- a selector for a value has it
pub selector_has : (rail : Rail) (v sel : ℕ) → table_selector rail v ≡ Some sel → uv_of rail.desc.table sel ≡ Some v
selector_has rail v sel is = by (find (λ p. p.1 == v) (values_of rail.desc.table)) refl is where
  by : (o : Option (ℕ × ℕ)) → find (λ p. p.1 == v) (values_of rail.desc.table) ≡ o → option_map (λ pair. pair.0) o ≡ Some sel → uv_of rail.desc.table sel ≡ Some v
  by None found none = absurd (cc)
  by (Some pair) found first =
      let there = is_pair (values_of rail.desc.table) v pair found in
      ap (uv_of rail.desc.table) (sym (same_Some pair.0 sel first)) ∙ (lists rail.desc.table pair.0 pair.1).0 there.among ∙ ap Some there.value

-- a value of a table has a selector
pub selector_there : (rail : Rail) (v : ℕ) → Contains (map (λ p. p.1) (values_of rail.desc.table)) v → (sel : ℕ) × (table_selector rail v ≡ Some sel)
selector_there rail v has = let pair = has_pair (values_of rail.desc.table) v has in (pair.0.0, ap (option_map (λ (p : ℕ × ℕ). p.0)) pair.1)

-- what a selector has is a value of the table
pub value_there : (table : Table) (sel v : ℕ) → uv_of table sel ≡ Some v → Contains (map (λ p. p.1) (values_of table)) v
value_there table sel v is = let there = (lists table sel v).1 is in in_mapped (λ p. p.1) (values_of table) (sel, v) there.0 there.1 there.2

-- what a field holds fits it
pub held_fits : (regs : List (List ℕ)) (f : Field) → FitsField f (field_of regs f)
unfolding field_of
held_fits regs f =
    let under = bit_and (byte_of regs f.chip f.reg) f.mask in
    let low : under / 2 ^ f.shift * 2 ^ f.shift ≤ under = div-mul-le_self under (2 ^ f.shift) in
    let most : under ≤ f.mask = and_le_r (byte_of regs f.chip f.reg) f.mask in
    le-div (under / 2 ^ f.shift) f.mask (2 ^ f.shift) (pow_pos f.shift) (omega (arith, low, most))
