-- What holds of a board where a test passes that computes.
use Rattle.std.proofs.Common.{◌≡◌, ◌≢◌, ◌⊎◌, inl, inr, ℕ, zero, suc, ◌+◌, ◌*◌, ◌<◌, ◌≤◌, Bool, true, ◌&&◌, leb, ltb, List, [], ◌∷◌, Option, Some, refl, sym, ap, ◌∙◌, arith, length, get_or}
use Rattle.std.specs.Prelude.{All, Contains, slice_get}
use Rattle.std.specs.Option.{option_and_then}
use Rattle.std.proofs.lemmas.Bool.{and_parts, leb-true, ltb-true}
use Rattle.std.proofs.lemmas.List.Elements.{All-nil, All-cons, All-head, All-contains}
use Rattle.chip_regs.specs.declared.field.Field.{Field}
use Rattle.chip_regs.specs.Field.{SharesBit}
use Rattle.board.specs.declared.board.Board.{Board}
use Rattle.board.specs.declared.part.Part.{Part}
use Rattle.board.specs.declared.part.Part.TheVariants.{Selector, Enable, ModePart, SuspendEnable, SuspendSelector}
use Rattle.board.specs.declared.rail.Rail.{Rail}
use Rattle.board.specs.Rail.{part_field}
use Rattle.board.specs.Fields.{field_at}
use Rattle.board.specs.Gaps.{AreNeighbours}
use Rattle.board.proofs.Apart.{all_pairs, both_apart, none_shared}

-- the fields of rails, part by part
abbrev pub places : List Rail → List (Option Field)
places [] = []
places (rail ∷ rails) =
    part_field Selector rail ∷ part_field Enable rail ∷ part_field ModePart rail ∷ part_field SuspendEnable rail ∷ part_field SuspendSelector rail ∷ places rails

-- the place of a part among them, and the part at a place
place_of : Part → ℕ
place_of Selector = 0
place_of Enable = 1
place_of ModePart = 2
place_of SuspendEnable = 3
place_of SuspendSelector = 4

part_at : ℕ → Part
part_at zero = Selector
part_at (suc zero) = Enable
part_at (suc (suc zero)) = ModePart
part_at (suc (suc (suc zero))) = SuspendEnable
part_at (suc (suc (suc (suc n)))) = SuspendSelector

part_at-place_of : (part : Part) → part_at (place_of part) ≡ part
unfolding part_at place_of
part_at-place_of Selector = refl
part_at-place_of Enable = refl
part_at-place_of ModePart = refl
part_at-place_of SuspendEnable = refl
part_at-place_of SuspendSelector = refl

place_of-below : (part : Part) → place_of part < 5
unfolding place_of
place_of-below Selector = omega arith
place_of-below Enable = omega arith
place_of-below ModePart = omega arith
place_of-below SuspendEnable = omega arith
place_of-below SuspendSelector = omega arith

first_place : (rail : Rail) (rails : List Rail) (part : Part) → slice_get (places (rail ∷ rails)) (place_of part) ≡ Some (part_field part rail)
unfolding place_of
first_place rail rails Selector = refl
first_place rail rails Enable = refl
first_place rail rails ModePart = refl
first_place rail rails SuspendEnable = refl
first_place rail rails SuspendSelector = refl

at_place : (rails : List Rail) (r : ℕ) (part : Part) (f : Field) → option_and_then (part_field part) (slice_get rails r) ≡ Some f
    → slice_get (places rails) (5 * r + place_of part) ≡ Some (Some f)
at_place [] r part f is = absurd (cc)
at_place (rail ∷ rails) zero part f is = let first : 5 * 0 + place_of part ≡ place_of part = omega arith in rw first (first_place rail rails part ∙ ap Some is)
at_place (rail ∷ rails) (suc r) part f is =
    let further : 5 * suc r + place_of part ≡ suc (suc (suc (suc (suc (5 * r + place_of part))))) = omega arith in
    rw further (at_place rails r part f is)

places_differ : (r s : ℕ) (part other : Part) → (r ≢ s) ⊎ (part ≢ other) → 5 * r + place_of part ≢ 5 * s + place_of other
places_differ r s part other (inl ne) same = ne (omega (arith, place_of-below part, place_of-below other))
places_differ r s part other (inr ne) same =
    let parts : place_of part ≡ place_of other = omega (arith, place_of-below part, place_of-below other) in
    ne (sym (part_at-place_of part) ∙ ap part_at parts ∙ part_at-place_of other)

-- fields that a test finds apart share no bit
pub tested_apart : (board : Board) → all_pairs both_apart (places board.rails) ≡ true
    → (r s : ℕ) (part other : Part) (f g : Field) → (r ≢ s) ⊎ (part ≢ other)
    → field_at board r part ≡ Some f → field_at board s other ≡ Some g → ¬ SharesBit f g
tested_apart board tested r s part other f g ne first second =
    none_shared (places board.rails) (5 * r + place_of part) (5 * s + place_of other) f g tested (places_differ r s part other ne)
    (at_place board.rails r part f first) (at_place board.rails s other g second)

-- the values of a list rise by at most n from each to the next
abbrev pub rises_by : ℕ → List ℕ → Bool
rises_by n [] = true
rises_by n (v ∷ []) = true
rises_by n (v ∷ w ∷ vs) = (ltb v w && leb w (v + n)) && rises_by n (w ∷ vs)

-- above a value of such a list there is one that isn't far off, or none is above it
next_value : (n v : ℕ) (vs : List ℕ) (k low : ℕ) → rises_by n (v ∷ vs) ≡ true → k < length (v ∷ vs) → get_or (v ∷ vs) k low ≡ low
    → ((w : ℕ) × Contains (v ∷ vs) w × (low < w) × (w ≤ low + n)) ⊎ All (λ u. u ≤ low) (v ∷ vs)
next_value n v [] zero low rises within is = inr (All-cons (λ u. u ≤ low) v [] (omega arith) (All-nil (λ u. u ≤ low)))
next_value n v [] (suc k) low rises within is = absurd (omega arith)
next_value n v (w ∷ vs) zero low rises within is =
    let step = and_parts (ltb v w) (leb w (v + n)) ((and_parts (ltb v w && leb w (v + n)) (rises_by n (w ∷ vs)) rises).0) in
    let above : v < w = ltb-true v w step.0 in
    let near : w ≤ v + n = leb-true w (v + n) step.1 in
    inl (w, (1, omega arith, refl), omega arith, omega arith)
next_value n v (w ∷ vs) (suc k) low rises within is =
    let parts = and_parts (ltb v w && leb w (v + n)) (rises_by n (w ∷ vs)) rises in
    let above : v < w = ltb-true v w ((and_parts (ltb v w) (leb w (v + n)) parts.0).0) in
    elim (next_value n w vs k low parts.1 (omega arith) is) [
      | inl (u, here, more, near) ↦ inl (u, (suc here.0, omega (arith, here.1), here.2), more, near)
      | inr all ↦ inr (All-cons (λ u. u ≤ low) v (w ∷ vs) (omega (arith, All-head (λ u. u ≤ low) w vs all)) all)
    ]

-- so neighbours are no further apart
pub tested_narrow : (n : ℕ) (vs : List ℕ) (low high : ℕ) → rises_by n vs ≡ true → AreNeighbours vs low high → high ≤ low + n
tested_narrow n [] low high rises next = absurd (omega (arith, next.has_low.1))
tested_narrow n (v ∷ vs) low high rises next =
    elim (next_value n v vs next.has_low.0 low rises next.has_low.1 next.has_low.2) [
      | inl (w, here, more, near) ↦
          elim (All-contains (λ u. (u ≤ low) ⊎ (high ≤ u)) (v ∷ vs) w next.none_between here) [ inl under ↦ absurd (omega arith) | inr over ↦ omega arith ]
      | inr all ↦ absurd (omega (arith, next.rising, All-contains (λ u. u ≤ low) (v ∷ vs) high all next.has_high))
    ]
