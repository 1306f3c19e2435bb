-- A board of one rail that is sound is valid.
use Rattle.std.proofs.Common.{◌≡◌, ◌≢◌, ◌⊎◌, inl, inr, ℕ, zero, suc, ◌<◌, Bool, true, false, ◌&&◌, List, [], ◌∷◌, Some, refl, sym, ap, subst, ◌∙◌, arith, length}
use Rattle.std.specs.Prelude.{All, slice_get, IfSome}
use Rattle.std.specs.Option.{option_and_then}
use Rattle.std.proofs.lemmas.List.Elements.{All-nil, All-cons}
use Rattle.chip_regs.specs.declared.field.Field.{Field}
use Rattle.chip_regs.specs.Field.{SharesBit}
use Rattle.board_graph.specs.declared.graph.Graph.{Graph}
use Rattle.board_graph.specs.Ways.{IsWay}
use Rattle.board_graph.specs.Graph.{Supplies, IsAbove, IsIn, AreCoupled}
use Rattle.board_graph.specs.Order.{IsOrder}
use Rattle.board.specs.declared.board.Board.{Board}
use Rattle.board.specs.declared.part.Part.{Part}
use Rattle.board.specs.declared.rail.Rail.{Rail}
use Rattle.board.specs.Rail.{part_field}
use Rattle.board.specs.Gaps.{HasNarrowGaps}
use Rattle.board.specs.Lone.{lone_graph, IsLone}
use Rattle.board.specs.Valid.{IsSoundRail, CarriesSystemLoad, IsGraphOf, IsPrinted, HasNames, IsSoundBoard, IsValid}

none_supplies : (upper lower : ℕ) → Supplies lone_graph upper lower → ⊥
none_supplies upper zero is = cc
none_supplies upper (suc lower) is = cc

none_above_by : (upper lower : ℕ) (between : List ℕ) → IsWay (Supplies lone_graph) upper between lower → ⊥
none_above_by upper lower [] way = none_supplies upper lower way
none_above_by upper lower (via ∷ rest) way = none_supplies upper via way.0

none_above : (upper lower : ℕ) → IsAbove lone_graph upper lower → ⊥
none_above upper lower above = none_above_by upper lower above.between above.way

only_one : (group r : ℕ) → IsIn lone_graph group r → r ≡ 0
only_one group zero is = refl
only_one group (suc r) is = cc

none_coupled : (a b : ℕ) → AreCoupled lone_graph a b → ⊥
none_coupled a b coupled =
    let block = coupled.block in
    coupled.apart (only_one block.group a block.first ∙ sym (only_one block.group b block.second))

order_lone : IsOrder lone_graph (0 ∷ [])
order_lone = record {
  groups = 0 ∷ [];
  blocks = refl;
  turns = (refl, tt);
  all = λ r under. let e : 0 ≡ r = omega arith in (0, omega arith, e);
}

and_false : (b : Bool) → false ≡ (b && false)
and_false true = refl
and_false false = refl

module _ (board : Board) (lone : IsLone board) where
  all_rails : (P : Rail → Type 0) → P lone.rail → All P board.rails
  all_rails P holds = rw lone.rails (All-cons P lone.rail [] holds (All-nil P))

  the_rail : (r : ℕ) (rail : Rail) → slice_get (lone.rail ∷ []) r ≡ Some rail → (r ≡ 0) × (lone.rail ≡ rail)
  the_rail zero rail is = (refl, cc)
  the_rail (suc r) rail is = absurd (cc)

  place_of : (r : ℕ) (rail : Rail) → slice_get board.rails r ≡ Some rail → (r ≡ 0) × (lone.rail ≡ rail)
  place_of r rail is = the_rail r rail (ap (λ rails. slice_get rails r) (sym lone.rails) ∙ is)

  graph_lone : IsGraphOf board
  graph_lone = record {
    supplies = rw (lone.graph, lone.rails, lone.supply) refl;
    groups = rw (lone.graph, lone.rails, lone.group) refl;
    links = rw (lone.graph, lone.rails, lone.supply) (ap (λ b. b ∷ []) (and_false _));
    rails = all_rails (λ rail. IfSome rail.supply (λ s. s.0 < length board.rails)) (rw lone.supply tt);
  }

  names_lone : HasNames board
  names_lone = record {
    differ = λ i j d before within _. let one : length board.rails ≡ 1 = ap length lone.rails in absurd (omega arith);
    printed = all_rails (λ rail. All IsPrinted rail.name.bytes) lone.printed;
  }

  parts_differ : (part other : Part) → (zero ≢ zero) ⊎ (part ≢ other) → part ≢ other
  parts_differ part other (inl never) = absurd (never refl)
  parts_differ part other (inr ne) = ne

  apart_lone : (r s : ℕ) (part other : Part) (f g : Field) → (r ≢ s) ⊎ (part ≢ other)
      → option_and_then (part_field part) (slice_get (lone.rail ∷ []) r) ≡ Some f → option_and_then (part_field other) (slice_get (lone.rail ∷ []) s) ≡ Some g → SharesBit f g → ⊥
  apart_lone zero zero part other f g ne first second = lone.apart part other f g (parts_differ part other ne) first second
  apart_lone zero (suc s) part other f g ne first second = λ _. absurd (cc)
  apart_lone (suc r) s part other f g ne first second = λ _. absurd (cc)

  gaps_lone : (r : ℕ) (rail : Rail) → lone.rail ≡ rail → HasNarrowGaps board r rail
  gaps_lone r rail is = record {
    steps = λ limited. absurd (limited (ap (λ (x : Rail). x.limits.max_step) (sym is) ∙ lone.steps));
    spreads = λ spread binds. absurd (none_coupled r binds.other (subst (λ (g : Graph). AreCoupled g r binds.other) lone.graph binds.coupled));
  }

  sound_lone : IsSoundBoard board
  sound_lone = record {
    some = rw lone.rails (omega arith);
    few = rw lone.rails (omega arith);
    rails = all_rails (IsSoundRail board.chips) lone.sound;
    graph = graph_lone;
    spreads = all_rails (λ rail. rail.group < length board.spread) (rw (lone.group, lone.spread) (omega arith));
    order = rw (lone.graph, lone.order) order_lone;
    apart_from_supply = λ upper lower above _. none_above upper lower (subst (λ (g : Graph). IsAbove g upper lower) lone.graph above);
    names = names_lone;
    apart = λ r s part other f g ne first second.
        apart_lone r s part other f g ne
        (ap (λ rails. option_and_then (part_field part) (slice_get rails r)) (sym lone.rails) ∙ first)
        (ap (λ rails. option_and_then (part_field other) (slice_get rails s)) (sym lone.rails) ∙ second);
  }

  pub lone_valid : IsValid board
  lone_valid = record {
    sound = sound_lone;
    loads = all_rails CarriesSystemLoad lone.load;
    gaps = λ r rail place _. gaps_lone r rail (place_of r rail place).1;
  }
