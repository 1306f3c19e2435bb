-- The handle of a worker's name, and its rail, on a plain board that may be before the worker.
use Rattle.std.proofs.Common.{◌≡◌, ℕ, zero, suc, ◌<◌, ◌≤◌, Bool, true, false, cond, List, [], ◌∷◌, Option, Some, None, refl, sym, subst, ◌∙◌, arith, length, slice_get}
use Rattle.std.specs.Prelude.{All, find, option_map}
use Rattle.std.proofs.lemmas.List.Elements.{All-head, All-tail}
use Rattle.std.proofs.lemmas.Option.{same_Some}
use Rattle.board.specs.declared.board.Board.{Board}
use Rattle.board.specs.declared.rail.Rail.{Rail}
use Rattle.use_counts.specs.Uses.{rail_named}
use Rattle.plain_board.specs.declared.plain.Plain.{Plain}
use Rattle.plain_board.specs.Handles.{Entry, is_own, open_of}
use Rattle.plain_board.specs.Inv.{IsSoundEntry}
use Rattle.plain_board.specs.Refusals.{most_enables}
use Rattle.rail_ops.specs.Sight.{Place, MayBe}

-- an element that is found has what all have
pub found_has : {X : Type 0} (P : X → Type 0) (p : X → Bool) (xs : List X) (x : X) → All P xs → find p xs ≡ Some x → P x
found_has P p [] x all is = absurd cc
found_has P p (y ∷ ys) x all is =
    elim (p y) as (λ t. cond t (Some y) (find p ys) ≡ Some x → P x) [
      | true ↦ λ is. subst P (same_Some y x is) (All-head P y ys all)
      | false ↦ λ is. found_has P p ys x (All-tail P y ys all) is
    ] is

-- the open handle of a name, and its rail
pub record Found (board : Board) (plain : Plain) (worker : ℕ) (name : List ℕ) (r : ℕ) : Type 0 where
  pub entry : Entry
  pub opened : open_of plain.handles worker name ≡ Some entry
  pub on : entry.0.0 ≡ r
  pub rail : Rail
  pub there : slice_get board.rails r ≡ Some rail
  pub inside : r < length board.rails

-- the element at a place that there is
pub element : {X : Type 0} (xs : List X) (i : ℕ) → i < length xs → (x : X) × (slice_get xs i ≡ Some x)
element [] i within = absurd (omega (arith, within))
element (x ∷ xs) zero within = (x, refl)
element (x ∷ xs) (suc i) within = element xs i (omega (arith, within))

pub some_of : {X Y : Type 0} (f : X → Y) (o : Option X) (y : Y) → option_map f o ≡ Some y → (x : X) × (o ≡ Some x) × (f x ≡ y)
some_of f None y is = absurd cc
some_of f (Some x) y is = (x, refl, same_Some (f x) y is)

pub none_of : {X Y : Type 0} (f : X → Y) (o : Option X) → option_map f o ≡ None → o ≡ None
none_of f None is = refl
none_of f (Some x) is = absurd cc

module _ (place : Place) (plain : Plain) (may_be : MayBe place plain) (name : List ℕ) where
  pub found : (r : ℕ) → rail_named place.names name ≡ Some r → Found place.hands.board plain place.worker name r
  found r named =
      let some = some_of (λ (entry : Entry). entry.0.0) (open_of plain.handles place.worker name) r (sym (may_be.knows.rails name) ∙ named) in
      let sound = found_has (IsSoundEntry place.hands.board plain) (is_own place.worker name) plain.handles some.0 may_be.inv.kept.opens some.1 in
      let inside : r < length place.hands.board.rails = subst (λ (i : ℕ). i < length place.hands.board.rails) some.2 sound.rail in
      record {
        entry = some.0;
        opened = some.1;
        on = some.2;
        rail = (element place.hands.board.rails r inside).0;
        there = (element place.hands.board.rails r inside).1;
        inside = inside;
      }

  pub not_found : rail_named place.names name ≡ None → open_of plain.handles place.worker name ≡ None
  not_found named = none_of (λ (entry : Entry). entry.0.0) (open_of plain.handles place.worker name) (sym (may_be.knows.rails name) ∙ named)

  -- it has no more enables than it can have
  pub found_enables : (r : ℕ) (named : rail_named place.names name ≡ Some r) → (found r named).entry.1.enables ≤ most_enables
  found_enables r named =
      let it = found r named in
      let sound = found_has (IsSoundEntry place.hands.board plain) (is_own place.worker name) plain.handles it.entry may_be.inv.kept.opens it.opened in
      sound.enables
