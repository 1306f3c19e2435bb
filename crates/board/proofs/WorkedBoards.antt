-- Boards worked out by hand that are valid, and that aren't in one point alone.
use Rattle.std.specs.Prelude.{IfSome, All, AllPairs, Contains, codes, slice_get}
use Rattle.std.proofs.Common.{◌≡◌, ◌≢◌, ◌⊎◌, inl, ℕ, zero, suc, ◌<◌, Bool, true, false, List, [], ◌∷◌, Option, Some, None, refl, ap, subst, arith, length, map, get_or, leb, eqb, ◌&&◌}
use Rattle.std.specs.List.{list_all}
use Rattle.std.proofs.lemmas.Bool.{and_parts, leb-true, eqb-false}
use Rattle.std.proofs.lemmas.List.Elements.{All-nil, All-from_recursion, All-weaker}
use Rattle.std.proofs.lemmas.List.Sums.{AllPass-from_list_all}
use Rattle.linear_range.specs.Values.{values}
use Rattle.chip_regs.specs.declared.field.Field.{Field}
use Rattle.chip_regs.specs.Field.{SharesBit}
use Rattle.board_graph.specs.declared.graph.Graph.{Graph}
use Rattle.board_graph.specs.Ways.{IsWay}
use Rattle.board_graph.specs.Graph.{Supplies, IsAbove, AreCoupled}
use Rattle.board_graph.specs.Order.{IsOrder}
use Rattle.board_graph.proofs.FailsBy.{FailsBy}
use Rattle.board_graph.proofs.OneOrder.{one_order_lem}
use Rattle.board.specs.declared.board.Board.{Board}
use Rattle.board.specs.declared.part.Part.{Part}
use Rattle.board.specs.declared.part.Part.TheVariants.{Enable}
use Rattle.board.specs.declared.rail.Rail.{Rail}
use Rattle.board.specs.Fields.{field_at}
use Rattle.board.specs.Gaps.{HasNarrowGaps}
use Rattle.board.specs.Valid.{IsSoundRail, CarriesSystemLoad, supply_of, is_linked, IsGraphOf, IsPrinted, HasNames, IsSoundBoard, IsValid}
use Rattle.board.proofs.Boards.{bit, buck, core_table, rail_of, first_buck, second_buck, coupled_board, io_rail, usb_rail, battery, supplied_board, low_rail, high_rail, gaping_board}
use Rattle.board.proofs.Tested.{tested_apart}
use Rattle.board.proofs.WorkedGaps.{none_coupled, free_gaps, pair_narrow, a_gapes}
use Rattle.board.proofs.WorkedSound.{first_sound, second_sound, io_sound, usb_sound, battery_sound, low_sound, high_sound, renamed_sound, sharing_sound, loaded, loaded_sound, overloaded}

-- the ldo is linked to the buck that supplies it: that can change, and the ldo has a dropout
linked : is_linked supplied_board usb_rail ≡ true
linked = refl

-- no link without a dropout, to a supply that can't change, or without a supply
no_dropout : is_linked supplied_board (record usb_rail { desc = record usb_rail.desc { dropout = 0 } }) ≡ false
no_dropout = refl

fixed_supply : is_linked supplied_board (record usb_rail { supply = Some (record { 0 = 2 }) }) ≡ false
fixed_supply = refl

no_supply : is_linked supplied_board (record usb_rail { supply = None }) ≡ false
no_supply = refl

no_such_supply : is_linked supplied_board (record usb_rail { supply = Some (record { 0 = 3 }) }) ≡ false
no_such_supply = refl

-- bytes at the edges of what is printed
first_printed : IsPrinted 33
first_printed = (omega arith, omega arith)

last_printed : IsPrinted 126
last_printed = (omega arith, omega arith)

blank : ¬ IsPrinted 32
blank printed = absurd (omega (arith, printed.0))

past_last : ¬ IsPrinted 127
past_last printed = absurd (omega (arith, printed.1))

-- names by their bytes, each of which a test finds printed
printed_bytes : (bytes : List ℕ) → list_all (λ b. leb 33 b && leb b 126) bytes ≡ true → All IsPrinted bytes
printed_bytes bytes tested =
    All-weaker (λ (b : ℕ). (leb 33 b && leb b 126) ≡ true) IsPrinted
    (λ b passed. let parts = and_parts (leb 33 b) (leb b 126) passed in (leb-true 33 b parts.0, leb-true b 126 parts.1)) bytes
    (AllPass-from_list_all (λ b. leb 33 b && leb b 126) bytes tested)

-- names that differ, by the place of a byte that does
differ_at : (k : ℕ) (a b : List ℕ) → eqb (get_or a k 0) (get_or b k 0) ≡ false → a ≢ b
differ_at k a b tested same = eqb-false (get_or a k 0) (get_or b k 0) tested (ap (λ (bytes : List ℕ). get_or bytes k 0) same)

-- two rails and three rails in pairs
two_pairs : (R : Rail → Rail → Type 0) (a b : Rail) → R a b → AllPairs R (a ∷ b ∷ [])
two_pairs R a b ab zero zero d rises within = absurd (omega arith)
two_pairs R a b ab zero (suc zero) d rises within = ab
two_pairs R a b ab zero (suc (suc j)) d rises within = absurd (omega arith)
two_pairs R a b ab (suc i) zero d rises within = absurd (omega arith)
two_pairs R a b ab (suc i) (suc zero) d rises within = absurd (omega arith)
two_pairs R a b ab (suc i) (suc (suc j)) d rises within = absurd (omega arith)

three_pairs : (R : Rail → Rail → Type 0) (a b c : Rail) → R a b → R a c → R b c → AllPairs R (a ∷ b ∷ c ∷ [])
three_pairs R a b c ab ac bc zero zero d rises within = absurd (omega arith)
three_pairs R a b c ab ac bc zero (suc zero) d rises within = ab
three_pairs R a b c ab ac bc zero (suc (suc zero)) d rises within = ac
three_pairs R a b c ab ac bc zero (suc (suc (suc j))) d rises within = absurd (omega arith)
three_pairs R a b c ab ac bc (suc zero) zero d rises within = absurd (omega arith)
three_pairs R a b c ab ac bc (suc zero) (suc zero) d rises within = absurd (omega arith)
three_pairs R a b c ab ac bc (suc zero) (suc (suc zero)) d rises within = bc
three_pairs R a b c ab ac bc (suc zero) (suc (suc (suc j))) d rises within = absurd (omega arith)
three_pairs R a b c ab ac bc (suc (suc i)) zero d rises within = absurd (omega arith)
three_pairs R a b c ab ac bc (suc (suc i)) (suc zero) d rises within = absurd (omega arith)
three_pairs R a b c ab ac bc (suc (suc i)) (suc (suc zero)) d rises within = absurd (omega arith)
three_pairs R a b c ab ac bc (suc (suc i)) (suc (suc (suc j))) d rises within = absurd (omega arith)

abbrev names_differ : Rail → Rail → Type 0
names_differ a b = a.name.bytes ≢ b.name.bytes

abbrev name_printed : Rail → Type 0
name_printed rail = All IsPrinted rail.name.bytes

-- what the rails say of their supplies
abbrev supply_below : ℕ → Rail → Type 0
supply_below n rail = IfSome rail.supply (λ s. s.0 < n)

abbrev group_below : ℕ → Rail → Type 0
group_below n rail = rail.group < n

-- on a graph without supplies no rail is above another
abbrev no_supplies : Graph
no_supplies = coupled_board.graph

none_supplies : (upper lower : ℕ) → ¬ Supplies no_supplies upper lower
none_supplies upper zero is = cc
none_supplies upper (suc zero) is = cc
none_supplies upper (suc (suc lower)) is = cc

no_way : (upper lower : ℕ) (between : List ℕ) → ¬ IsWay (Supplies no_supplies) upper between lower
no_way upper lower [] way = none_supplies upper lower way
no_way upper lower (via ∷ rest) way = none_supplies upper via way.0

none_above : (upper lower : ℕ) → IsAbove no_supplies upper lower → ¬ AreCoupled no_supplies upper lower
none_above upper lower above = absurd (no_way upper lower above.between above.way)

two_in_order : (r : ℕ) → r < 2 → Contains (0 ∷ 1 ∷ []) r
two_in_order zero within = (0, omega arith, refl)
two_in_order (suc zero) within = (1, omega arith, refl)
two_in_order (suc (suc r)) within = absurd (omega arith)

pair_order : IsOrder no_supplies (0 ∷ 1 ∷ [])
pair_order = record { groups = 0 ∷ []; blocks = refl; turns = (refl, tt); all = two_in_order }

pair_graph : IsGraphOf coupled_board
pair_graph = record {
  supplies = refl;
  groups = refl;
  links = refl;
  rails = All-from_recursion (supply_below 2) coupled_board.rails (tt, (tt, tt));
}

pair_names : HasNames coupled_board
pair_names = record {
  differ = two_pairs names_differ first_buck second_buck (differ_at 4 (codes "buck1") (codes "buck2") refl);
  printed = All-from_recursion name_printed coupled_board.rails (printed_bytes (codes "buck1") refl, (printed_bytes (codes "buck2") refl, tt));
}

pair_rails : All (IsSoundRail 1) coupled_board.rails
pair_rails = All-from_recursion (IsSoundRail 1) coupled_board.rails (first_sound, (second_sound, tt))

pair_sound : IsSoundBoard coupled_board
pair_sound = record {
  some = omega arith;
  few = omega arith;
  rails = pair_rails;
  graph = pair_graph;
  spreads = All-from_recursion (group_below 1) coupled_board.rails (omega arith, (omega arith, tt));
  order = pair_order;
  apart_from_supply = none_above;
  names = pair_names;
  apart = tested_apart coupled_board refl;
}

-- a rail of two, by its place
of_two : (P : ℕ → Rail → Type 0) (a b : Rail) → P 0 a → P 1 b → (r : ℕ) (rail : Rail) → slice_get (a ∷ b ∷ []) r ≡ Some rail → P r rail
of_two P a b first second zero rail is = let same : a ≡ rail = cc in subst (P 0) same first
of_two P a b first second (suc zero) rail is = let same : b ≡ rail = cc in subst (P 1) same second
of_two P a b first second (suc (suc r)) rail is = absurd (cc)

-- it counts no loads
uncounted : (rail : Rail) → rail.limits.allow_load ≡ false → CarriesSystemLoad rail
uncounted rail none counts = let counted : false ≡ true = rw none at counts in absurd (cc)

pair_loads : All CarriesSystemLoad coupled_board.rails
pair_loads = All-from_recursion CarriesSystemLoad coupled_board.rails (uncounted first_buck refl, (uncounted second_buck refl, tt))

pair_valid : IsValid coupled_board
unfolding values
pair_valid = record {
  sound = pair_sound;
  loads = pair_loads;
  gaps = λ r rail place changeable.
      of_two (HasNarrowGaps coupled_board) first_buck second_buck
      (pair_narrow coupled_board 100000 0 first_buck refl refl (omega arith) refl refl)
      (pair_narrow coupled_board 100000 1 second_buck refl refl (omega arith) refl refl) r rail place;
}

-- a battery that supplies a buck that supplies an ldo
three_in_order : (r : ℕ) → r < 3 → Contains (2 ∷ 0 ∷ 1 ∷ []) r
three_in_order zero within = (1, omega arith, refl)
three_in_order (suc zero) within = (2, omega arith, refl)
three_in_order (suc (suc zero)) within = (0, omega arith, refl)
three_in_order (suc (suc (suc r))) within = absurd (omega arith)

supplied_sound : IsSoundBoard supplied_board
supplied_sound = record {
  some = omega arith;
  few = omega arith;
  rails = All-from_recursion (IsSoundRail 2) supplied_board.rails (io_sound, (usb_sound, (battery_sound, tt)));
  graph = record {
    supplies = refl;
    groups = refl;
    links = refl;
    rails = All-from_recursion (supply_below 3) supplied_board.rails (omega arith, (omega arith, (tt, tt)));
  };
  spreads = All-from_recursion (group_below 3) supplied_board.rails (omega arith, (omega arith, (omega arith, tt)));
  order = record { groups = 2 ∷ 0 ∷ 1 ∷ []; blocks = refl; turns = (refl, (refl, (refl, tt))); all = three_in_order };
  apart_from_supply = λ upper lower above. none_coupled upper lower;
  names = record {
    differ = three_pairs names_differ io_rail usb_rail battery
        (differ_at 0 (codes "buck3") (codes "ldo1") refl) (differ_at 0 (codes "buck3") (codes "vbat") refl) (differ_at 0 (codes "ldo1") (codes "vbat") refl);
    printed = All-from_recursion name_printed supplied_board.rails (printed_bytes (codes "buck3") refl, (printed_bytes (codes "ldo1") refl, (printed_bytes (codes "vbat") refl, tt)));
  };
  apart = tested_apart supplied_board refl;
}

of_three : (P : ℕ → Rail → Type 0) (a b c : Rail) → P 0 a → P 1 b → P 2 c → (r : ℕ) (rail : Rail) → slice_get (a ∷ b ∷ c ∷ []) r ≡ Some rail → P r rail
of_three P a b c first second third zero rail is = let same : a ≡ rail = cc in subst (P 0) same first
of_three P a b c first second third (suc zero) rail is = let same : b ≡ rail = cc in subst (P 1) same second
of_three P a b c first second third (suc (suc zero)) rail is = let same : c ≡ rail = cc in subst (P 2) same third
of_three P a b c first second third (suc (suc (suc r))) rail is = absurd (cc)

supplied_valid : IsValid supplied_board
supplied_valid = record {
  sound = supplied_sound;
  loads = All-from_recursion CarriesSystemLoad supplied_board.rails (uncounted io_rail refl, (uncounted usb_rail refl, (uncounted battery refl, tt)));
  gaps = λ r rail place changeable.
      of_three (HasNarrowGaps supplied_board) io_rail usb_rail battery
      (free_gaps 0 io_rail refl) (free_gaps 1 usb_rail refl) (free_gaps 2 battery refl) r rail place;
}

-- a board without rails
abbrev empty_board : Board
empty_board = record { rails = []; spread = []; chips = 0; graph = record { supply = []; group = []; link = [] }; order = [] }

no_rails : FailsBy (0 < length empty_board.rails) (IsSoundBoard empty_board)
no_rails = record {
  needs = λ sound. sound.some;
  suffices = λ some. record {
    some = some;
    few = omega arith;
    rails = All-nil (IsSoundRail 0);
    graph = record { supplies = refl; groups = refl; links = refl; rails = All-nil (supply_below 0) };
    spreads = All-nil (group_below 0);
    order = record { groups = []; blocks = refl; turns = tt; all = λ r within. absurd (omega arith) };
    apart_from_supply = λ upper lower above coupled. absurd (cc (coupled.block.first));
    names = record { differ = λ i j d rises within. absurd (omega arith); printed = All-nil name_printed };
    apart = tested_apart empty_board refl;
  };
  fails = λ some. absurd (omega arith);
}

-- with one rail that isn't sound: it is marked as one that can't change
abbrev frozen : Rail
frozen = record second_buck { changeable = false }

abbrev frozen_board : Board
frozen_board = record coupled_board { rails = first_buck ∷ frozen ∷ [] }

unsound_rail : FailsBy (IsSoundRail 1 frozen) (IsSoundBoard frozen_board)
unsound_rail = record {
  needs = λ sound. sound.rails 1 first_buck (omega arith);
  suffices = λ rail. record {
    some = omega arith;
    few = omega arith;
    rails = All-from_recursion (IsSoundRail 1) frozen_board.rails (first_sound, (rail, tt));
    graph = record { supplies = refl; groups = refl; links = refl; rails = All-from_recursion (supply_below 2) frozen_board.rails (tt, (tt, tt)) };
    spreads = All-from_recursion (group_below 1) frozen_board.rails (omega arith, (omega arith, tt));
    order = pair_order;
    apart_from_supply = none_above;
    names = record { differ = two_pairs names_differ first_buck frozen (differ_at 4 (codes "buck1") (codes "buck2") refl); printed = All-from_recursion name_printed frozen_board.rails (pair_names.printed 0 first_buck (omega arith), (pair_names.printed 1 first_buck (omega arith), tt)) };
    apart = tested_apart frozen_board refl;
  };
  fails = λ rail. let marked : false ≡ true = rail.changeable in cc;
}

-- the graph of two coupled rails, of which one list says something else
abbrev pair_with_graph : List (Option ℕ) → List ℕ → List Bool → Board
pair_with_graph supply group link = record coupled_board { graph = record { supply = supply; group = group; link = link } }

other_supply : FailsBy (◌≡◌ {A = List (Option ℕ)} (Some 1 ∷ None ∷ []) (map supply_of coupled_board.rails)) (IsGraphOf (pair_with_graph (Some 1 ∷ None ∷ []) (0 ∷ 0 ∷ []) (false ∷ false ∷ [])))
other_supply = record {
  needs = λ graph. graph.supplies;
  suffices = λ same. record { supplies = same; groups = refl; links = refl; rails = pair_graph.rails };
  fails = λ same. cc;
}

other_group : FailsBy (◌≡◌ {A = List ℕ} (0 ∷ 1 ∷ []) (map (λ rail. rail.group) coupled_board.rails)) (IsGraphOf (pair_with_graph (None ∷ None ∷ []) (0 ∷ 1 ∷ []) (false ∷ false ∷ [])))
other_group = record {
  needs = λ graph. graph.groups;
  suffices = λ same. record { supplies = refl; groups = same; links = refl; rails = pair_graph.rails };
  fails = λ same. cc;
}

other_link : FailsBy ((true ∷ false ∷ []) ≡ map (is_linked coupled_board) coupled_board.rails) (IsGraphOf (pair_with_graph (None ∷ None ∷ []) (0 ∷ 0 ∷ []) (true ∷ false ∷ [])))
other_link = record {
  needs = λ graph. graph.links;
  suffices = λ same. record { supplies = refl; groups = refl; links = same; rails = pair_graph.rails };
  fails = λ same. cc;
}

-- a rail that hangs on the first number behind the last rail's
abbrev hanging : Rail
hanging = rail_of (codes "buck2") (buck 1 core_table 0x7f) 800000 1000000 (Some 2) 0

abbrev hanging_board : Board
hanging_board = record (pair_with_graph (None ∷ Some 2 ∷ []) (0 ∷ 0 ∷ []) (false ∷ false ∷ [])) { rails = first_buck ∷ hanging ∷ [] }

supply_is_no_rail : FailsBy (2 < length hanging_board.rails) (IsGraphOf hanging_board)
supply_is_no_rail = record {
  needs = λ graph. graph.rails 1 first_buck (omega arith);
  suffices = λ there. record { supplies = refl; groups = refl; links = refl; rails = All-from_recursion (supply_below 2) hanging_board.rails (tt, (there, tt)) };
  fails = λ there. absurd (omega arith);
}

-- the graph of a board that is sound but for it
wrong_graph : FailsBy (IsGraphOf (pair_with_graph (None ∷ None ∷ []) (0 ∷ 0 ∷ []) (true ∷ false ∷ []))) (IsSoundBoard (pair_with_graph (None ∷ None ∷ []) (0 ∷ 0 ∷ []) (true ∷ false ∷ [])))
wrong_graph = record {
  needs = λ sound. sound.graph;
  suffices = λ graph. record {
    some = omega arith;
    few = omega arith;
    rails = pair_rails;
    graph = graph;
    spreads = pair_sound.spreads;
    order = record { groups = 0 ∷ []; blocks = refl; turns = (refl, tt); all = two_in_order };
    apart_from_supply = λ upper lower above. absurd (no_way upper lower above.between above.way);
    names = record { differ = pair_names.differ; printed = pair_names.printed };
    apart = pair_sound.apart;
  };
  fails = λ graph. other_link.fails graph.links;
}

-- a group without a spread
abbrev spreadless : Board
spreadless = record coupled_board { spread = [] }

no_spread_of_group : FailsBy (0 < length spreadless.spread) (IsSoundBoard spreadless)
no_spread_of_group = record {
  needs = λ sound. sound.spreads 0 first_buck (omega arith);
  suffices = λ there. record {
    some = omega arith;
    few = omega arith;
    rails = pair_rails;
    graph = record { supplies = refl; groups = refl; links = refl; rails = pair_graph.rails };
    spreads = All-from_recursion (group_below 0) spreadless.rails (there, (there, tt));
    order = pair_order;
    apart_from_supply = none_above;
    names = record { differ = pair_names.differ; printed = pair_names.printed };
    apart = pair_sound.apart;
  };
  fails = λ there. absurd (omega arith);
}

-- an order in which the numbers of a block fall
abbrev disordered : Board
disordered = record coupled_board { order = 1 ∷ 0 ∷ [] }

out_of_order : FailsBy (IsOrder no_supplies (1 ∷ 0 ∷ [])) (IsSoundBoard disordered)
out_of_order = record {
  needs = λ sound. sound.order;
  suffices = λ order. record {
    some = omega arith;
    few = omega arith;
    rails = pair_rails;
    graph = record { supplies = refl; groups = refl; links = refl; rails = pair_graph.rails };
    spreads = pair_sound.spreads;
    order = order;
    apart_from_supply = none_above;
    names = record { differ = pair_names.differ; printed = pair_names.printed };
    apart = pair_sound.apart;
  };
  fails = λ order. let same = one_order_lem no_supplies (1 ∷ 0 ∷ []) (0 ∷ 1 ∷ []) order pair_order in cc;
}

-- A rail that is coupled with its supply. Its block is on a loop then, so such a board has no order either.
coupled_with_supply : (board : Board) → board.graph ≡ record { supply = None ∷ Some 0 ∷ []; group = 0 ∷ 0 ∷ []; link = false ∷ false ∷ [] } → ¬ IsSoundBoard board
coupled_with_supply board is sound =
    sound.apart_from_supply 0 1
    (rw is (record { between = []; way = refl }))
    (rw is (record { apart = λ same. absurd (omega arith); block = record { group = 0; first = refl; second = refl } }))

-- two rails of one name, and one whose name has a blank
abbrev named : List ℕ → Board
named name = record coupled_board { rails = first_buck ∷ record second_buck { name = record { bytes = name; spare = [] } } ∷ [] }

abbrev second_named : List ℕ → Rail
second_named name = record second_buck { name = record { bytes = name; spare = [] } }

one_name : FailsBy (AllPairs names_differ (named (codes "buck1")).rails) (HasNames (named (codes "buck1")))
one_name = record {
  needs = λ names. names.differ;
  suffices = λ differ. record { differ = differ; printed = All-from_recursion name_printed (named (codes "buck1")).rails (printed_bytes (codes "buck1") refl, (printed_bytes (codes "buck1") refl, tt)) };
  fails = λ differ. differ 0 1 first_buck (omega arith) (omega arith) refl;
}

name_with_blank : FailsBy (All name_printed (named (codes "buck 2")).rails) (HasNames (named (codes "buck 2")))
name_with_blank = record {
  needs = λ names. names.printed;
  suffices = λ printed. record { differ = two_pairs names_differ first_buck (second_named (codes "buck 2")) (differ_at 4 (codes "buck1") (codes "buck 2") refl); printed = printed };
  fails = λ printed. blank (printed 1 first_buck (omega arith) 4 0 (omega arith));
}

bad_names : FailsBy (HasNames (named (codes "buck1"))) (IsSoundBoard (named (codes "buck1")))
bad_names = record {
  needs = λ sound. sound.names;
  suffices = λ names. record {
    some = omega arith;
    few = omega arith;
    rails = All-from_recursion (IsSoundRail 1) (named (codes "buck1")).rails (first_sound, (renamed_sound (codes "buck1"), tt));
    graph = record { supplies = refl; groups = refl; links = refl; rails = All-from_recursion (supply_below 2) (named (codes "buck1")).rails (tt, (tt, tt)) };
    spreads = All-from_recursion (group_below 1) (named (codes "buck1")).rails (omega arith, (omega arith, tt));
    order = pair_order;
    apart_from_supply = none_above;
    names = names;
    apart = tested_apart (named (codes "buck1")) refl;
  };
  fails = λ names. one_name.fails names.differ;
}

-- no bit is in two fields
abbrev NoneShared : Board → Type 0
NoneShared board = (r s : ℕ) (part other : Part) (f g : Field) → (r ≢ s) ⊎ (part ≢ other) → field_at board r part ≡ Some f → field_at board s other ≡ Some g → ¬ SharesBit f g

-- two rails with one on bit
abbrev sharing : Rail
sharing = record second_buck { desc = record second_buck.desc { enable = bit 0x20 0 } }

abbrev sharing_board : Board
sharing_board = record coupled_board { rails = first_buck ∷ sharing ∷ [] }

shared_bit : SharesBit (bit 0x20 0) (bit 0x20 0)
shared_bit = record { chip = 0; reg = 0x20; bit = 0; in_first = (refl, refl, λ clear. absurd (omega arith)); in_second = (refl, refl, λ clear. absurd (omega arith)) }

one_bit_twice : FailsBy (NoneShared sharing_board) (IsSoundBoard sharing_board)
one_bit_twice = record {
  needs = λ sound. sound.apart;
  suffices = λ apart. record {
    some = omega arith;
    few = omega arith;
    rails = All-from_recursion (IsSoundRail 1) sharing_board.rails (first_sound, (sharing_sound, tt));
    graph = record { supplies = refl; groups = refl; links = refl; rails = All-from_recursion (supply_below 2) sharing_board.rails (tt, (tt, tt)) };
    spreads = All-from_recursion (group_below 1) sharing_board.rails (omega arith, (omega arith, tt));
    order = pair_order;
    apart_from_supply = none_above;
    names = record { differ = two_pairs names_differ first_buck sharing (differ_at 4 (codes "buck1") (codes "buck2") refl); printed = All-from_recursion name_printed sharing_board.rails (pair_names.printed 0 first_buck (omega arith), (pair_names.printed 1 first_buck (omega arith), tt)) };
    apart = apart;
  };
  fails = λ apart. apart 0 1 Enable Enable (bit 0x20 0) (bit 0x20 0) (inl (λ same. absurd (omega arith))) refl refl shared_bit;
}

-- valid but that it isn't sound: without a spread no gap is bound
unsound_board : FailsBy (IsSoundBoard spreadless) (IsValid spreadless)
unsound_board = record {
  needs = λ valid. valid.sound;
  suffices = λ sound. record {
    sound = sound;
    loads = pair_loads;
    gaps = λ r rail place changeable.
        of_two (HasNarrowGaps spreadless) first_buck second_buck
        (record { steps = λ limited. absurd (limited refl); spreads = λ spread of. absurd (cc (of.spread_is)) })
        (record { steps = λ limited. absurd (limited refl); spreads = λ spread of. absurd (cc (of.spread_is)) }) r rail place;
  };
  fails = λ sound. no_spread_of_group.fails (no_spread_of_group.needs sound);
}

-- a rail that counts loads, and whose system load is too great by 1 µA
abbrev heavy_board : Board
heavy_board = record coupled_board { rails = loaded 3000001 15 ∷ second_buck ∷ [] }

too_heavy : FailsBy (CarriesSystemLoad (loaded 3000001 15)) (IsValid heavy_board)
unfolding values
too_heavy = record {
  needs = λ valid. valid.loads 0 first_buck (omega arith);
  suffices = λ carries. record {
    sound = record {
      some = omega arith;
      few = omega arith;
      rails = All-from_recursion (IsSoundRail 1) heavy_board.rails (loaded_sound 3000001 15, (second_sound, tt));
      graph = record { supplies = refl; groups = refl; links = refl; rails = All-from_recursion (supply_below 2) heavy_board.rails (tt, (tt, tt)) };
      spreads = All-from_recursion (group_below 1) heavy_board.rails (omega arith, (omega arith, tt));
      order = pair_order;
      apart_from_supply = none_above;
      names = record { differ = two_pairs names_differ (loaded 3000001 15) second_buck (differ_at 4 (codes "buck1") (codes "buck2") refl); printed = All-from_recursion name_printed heavy_board.rails (pair_names.printed 0 first_buck (omega arith), (pair_names.printed 1 first_buck (omega arith), tt)) };
      apart = tested_apart heavy_board refl;
    };
    loads = All-from_recursion CarriesSystemLoad heavy_board.rails (carries, (uncounted second_buck refl, tt));
    gaps = λ r rail place changeable.
        of_two (HasNarrowGaps heavy_board) (loaded 3000001 15) second_buck
        (pair_narrow heavy_board 100000 0 (loaded 3000001 15) refl refl (omega arith) refl refl)
        (pair_narrow heavy_board 100000 1 second_buck refl refl (omega arith) refl refl) r rail place;
  };
  fails = overloaded;
}

-- A {0, 100} and B {30, 130}, coupled with a spread of 40
abbrev Gaps : Board → Type 0
Gaps board = (r : ℕ) (rail : Rail) → slice_get board.rails r ≡ Some rail → rail.changeable ≡ true → HasNarrowGaps board r rail

too_wide_a_gap : FailsBy (Gaps gaping_board) (IsValid gaping_board)
too_wide_a_gap = record {
  needs = λ valid. valid.gaps;
  suffices = λ gaps. record {
    sound = record {
      some = omega arith;
      few = omega arith;
      rails = All-from_recursion (IsSoundRail 1) gaping_board.rails (low_sound, (high_sound, tt));
      graph = record { supplies = refl; groups = refl; links = refl; rails = All-from_recursion (supply_below 2) gaping_board.rails (tt, (tt, tt)) };
      spreads = All-from_recursion (group_below 1) gaping_board.rails (omega arith, (omega arith, tt));
      order = pair_order;
      apart_from_supply = none_above;
      names = record { differ = two_pairs names_differ low_rail high_rail (differ_at 0 (codes "a") (codes "b") refl); printed = All-from_recursion name_printed gaping_board.rails (printed_bytes (codes "a") refl, (printed_bytes (codes "b") refl, tt)) };
      apart = tested_apart gaping_board refl;
    };
    loads = All-from_recursion CarriesSystemLoad gaping_board.rails (uncounted low_rail refl, (uncounted high_rail refl, tt));
    gaps = gaps;
  };
  fails = λ gaps. a_gapes.fails (gaps 0 low_rail refl refl).spreads;
}
