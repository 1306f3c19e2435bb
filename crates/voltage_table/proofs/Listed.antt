-- What holds of each list.
use Rattle.std.proofs.Common.{◌≡◌, ℕ, ◌+◌, ◌^◌, ◌<◌, List, Some, length, get_or, sym, ◌∙◌, ap, subst, arith}
use Rattle.std.proofs.lemmas.List.FromFn.{length-enumerate_from, get_or-enumerate_from}
use Rattle.std.proofs.lemmas.Option.{slice_get-get_or, slice_get_within, get_or_from_slice_get}
use Rattle.std.specs.Prelude.{slice_get}
use Rattle.std.specs.List.{All, Contains}
use Rattle.value_list.proofs.Extremes as pairs
use Rattle.voltage_table.specs.Values.{value_of, values}
use Rattle.voltage_table.specs.VoltList.{IsSound}
use Rattle.voltage_table.specs.Laws.{ListsValues, SelectorsRise, IsBounded, PicksHigh, PicksLow}

-- the pair at place k is that of selector k
values_at : (xs : List ℕ) (k : ℕ) (d : ℕ × ℕ) → k < length (values xs)
    → (get_or (values xs) k d ≡ (k, get_or xs k d.1)) × (k < length xs)
values_at xs k d h =
    let within : k < length xs = omega (arith, length-enumerate_from 0 xs) in
    let place : 0 + k ≡ k = omega arith in
    (get_or-enumerate_from 0 xs k d within ∙ ap (λ j. (j, get_or xs k d.1)) place, within)

pub lists_values : (xs : List ℕ) → ListsValues xs
lists_values xs sel uv = (from_contains, to_contains)
  where
    from_contains : Contains (values xs) (sel, uv) → value_of xs sel ≡ Some uv
    from_contains c =
        let at = values_at xs c.0 (sel, uv) c.1 in
        let same : (c.0, get_or xs c.0 uv) ≡ (sel, uv) = sym at.0 ∙ c.2 in
        let here : c.0 ≡ sel = ap (λ p. p.0) same in
        let value : get_or xs c.0 uv ≡ uv = ap (λ p. p.1) same in
        subst (λ k. slice_get xs k ≡ Some uv) here (slice_get-get_or xs c.0 uv at.1 ∙ ap Some value)

    to_contains : value_of xs sel ≡ Some uv → Contains (values xs) (sel, uv)
    to_contains h =
        let within : sel < length xs = slice_get_within xs sel uv h in
        let listed : sel < length (values xs) = omega (arith, length-enumerate_from 0 xs) in
        (sel, listed, (values_at xs sel (sel, uv) listed).0 ∙ ap (λ v. (sel, v)) (get_or_from_slice_get xs sel uv uv h))

pub selectors_rise : (xs : List ℕ) → SelectorsRise xs
selectors_rise xs i j d h k =
    let first : i < length (values xs) = omega arith in
    rw ((values_at xs i d first).0, (values_at xs j d k).0) h

pub is_bounded : (n : ℕ) (xs : List ℕ) → IsSound n xs → All (λ uv. uv < 2 ^ 32) xs → IsBounded xs
is_bounded n xs sound small k d h =
    let at = values_at xs k d h in
    rw at.0 (omega (arith, at.1, sound.selectable), small k d.1 at.1)

pub picks_high : (xs : List ℕ) → PicksHigh xs
picks_high xs = pairs.picks_high (values xs) (selectors_rise xs)

pub picks_low : (xs : List ℕ) → PicksLow xs
picks_low xs = pairs.picks_low (values xs) (selectors_rise xs)
