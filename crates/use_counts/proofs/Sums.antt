-- The sums over the handles of a rail, as handles come, change and go.
use Rattle.std.proofs.Common.{◌≡◌, ℕ, ◌+◌, ◌-◌, ◌≤◌, ◌==◌, Bool, true, false, cond, List, Some, get_or, arith, subst, sym, ap, inl, inr}
use Rattle.std.specs.List.{All, remove, slice_get}
use Rattle.std.proofs.lemmas.Bool.{cases_order}
use Rattle.std.proofs.lemmas.List.Edits.{get_or-remove_below, get_or-remove_above, length-remove}
use Rattle.std.proofs.lemmas.List.Sums.{sum_by-remove, sum_by-le, get_or-le-sum_by}
use Rattle.std.proofs.lemmas.Option.{get_or_from_slice_get, slice_get_within}
use Rattle.use_counts.specs.declared.handle_row.HandleRow.{HandleRow}
use Rattle.use_counts.specs.Counts.{drawn}
use Rattle.use_counts.specs.Inside.Kept.{Kept}

abbrev IsSmall : HandleRow → Type 0
IsSmall row = (row.enables ≤ 4294967295) × (row.load ≤ 4294967295)

pub drawn-le : (row : HandleRow) → row.load ≤ 4294967295 → drawn row ≤ 4294967295
drawn-le row h = elim (row.enables == 0) as (λ (b : Bool). cond b 0 row.load ≤ 4294967295) [ true ↦ omega arith | false ↦ h ]

module _ {rows : List HandleRow} {enables sum : ℕ} (kept : Kept rows enables sum) where
  -- the sums fit
  pub kept-enables-le : enables ≤ 18446744065119617025
  kept-enables-le = omega (arith, kept.enables_is, kept.few, sum_by-le (λ (row : HandleRow). row.enables) 4294967295 rows (λ k d below. (kept.small k d below).0))

  pub kept-drawn-le : sum ≤ 18446744065119617025
  kept-drawn-le = omega (arith, kept.drawn_is, kept.few, sum_by-le drawn 4294967295 rows (λ k d below. drawn-le (get_or rows k d) (kept.small k d below).1))

  module _ (at : ℕ) (row : HandleRow) (there : slice_get rows at ≡ Some row) where
    -- the share of a handle is a part of them
    pub share-enables : row.enables ≤ enables
    share-enables =
        let is = get_or_from_slice_get rows at row row there in
        omega (arith, kept.enables_is, ap (λ (row : HandleRow). row.enables) is, get_or-le-sum_by (λ (row : HandleRow). row.enables) rows at row (slice_get_within rows at row there))

    pub share-drawn : drawn row ≤ sum
    share-drawn =
        let is = get_or_from_slice_get rows at row row there in
        omega (arith, kept.drawn_is, ap drawn is, get_or-le-sum_by drawn rows at row (slice_get_within rows at row there))

    small-remove : All IsSmall (remove rows at)
    small-remove k d below =
        let inside = slice_get_within rows at row there in
        let few = length-remove rows at inside in
        let behind : at ≤ k → IsSmall (get_or (remove rows at) k d) =
        λ behind. subst IsSmall (sym (get_or-remove_above rows at d k behind inside)) (kept.small (k + 1) d (omega arith)) in
        elim (cases_order k at) [
          | inl same ↦ behind (omega arith)
          | inr (inl before) ↦ subst IsSmall (sym (get_or-remove_below rows at d k before inside)) (kept.small k d (omega arith))
          | inr (inr after) ↦ behind (omega arith)
        ]

    -- a handle goes
    pub kept-remove : Kept (remove rows at) (enables - row.enables) (sum - drawn row)
    kept-remove =
        let inside = slice_get_within rows at row there in
        let is = get_or_from_slice_get rows at row row there in record {
          enables_is = omega (arith, kept.enables_is, ap (λ (row : HandleRow). row.enables) is, sum_by-remove (λ (row : HandleRow). row.enables) rows at row inside);
          drawn_is = omega (arith, kept.drawn_is, ap drawn is, sum_by-remove drawn rows at row inside);
          few = omega (arith, kept.few, length-remove rows at inside);
          small = small-remove;
        }
