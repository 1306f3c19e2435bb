-- Orders worked out by hand.
use Rattle.std.proofs.Common.{◌≡◌, ℕ, zero, suc, ◌<◌, true, false, List, [], ◌∷◌, Some, None, refl, sym, subst, arith}
use Rattle.std.specs.Prelude.{Contains, flat_map}
use Rattle.board_graph.specs.declared.graph.Graph.{Graph}
use Rattle.board_graph.specs.Ways.{IsWay}
use Rattle.board_graph.specs.Graph.{count_of, supply_at, IsIn, members, Feeds, IsOnBlockLoop}
use Rattle.board_graph.specs.Order.{is_taken, is_ready, next_group, ComeInTurn, IsOrder}
use Rattle.board_graph.proofs.WorkedGraphs.{graph_of, chain, supply_loop, block_loop}
use Rattle.board_graph.proofs.Members.{taken_at}
use Rattle.board_graph.proofs.OneOrder.{one_order_lem}

-- rail 0 has its supply in rail 2, and rails 1 and 2 are coupled
abbrev below_pair : Graph
below_pair = graph_of (Some 2 ∷ None ∷ None ∷ []) (0 ∷ 1 ∷ 1 ∷ [])

-- at first the pair is ready and rail 0 isn't, then rail 0 is and the pair isn't, and then none is
pair_ready : is_ready below_pair [] (1, 1) ≡ true
pair_ready = refl

unsupplied : is_ready below_pair [] (0, 0) ≡ false
unsupplied = refl

supplied : is_ready below_pair (1 ∷ 2 ∷ []) (0, 0) ≡ true
supplied = refl

taken_already : is_ready below_pair (1 ∷ 2 ∷ []) (1, 1) ≡ false
taken_already = refl

pair_comes_first : next_group below_pair [] ≡ Some 1
pair_comes_first = refl

lone_comes_second : next_group below_pair (1 ∷ 2 ∷ []) ≡ Some 0
lone_comes_second = refl

none_comes_third : next_group below_pair (1 ∷ 2 ∷ 0 ∷ []) ≡ None
none_comes_third = refl

-- a rail without a supply waits for that of the rail that it is coupled with
waits_for_other : is_ready (graph_of (None ∷ Some 2 ∷ None ∷ []) (0 ∷ 0 ∷ 1 ∷ [])) [] (0, 0) ≡ false
waits_for_other = refl

-- of two that are ready the one with the least rail comes next, whatever the numbers of the groups
least_comes_first : next_group (graph_of (None ∷ None ∷ []) (8 ∷ 7 ∷ [])) [] ≡ Some 8
least_comes_first = refl

each_in : (r : ℕ) → r < 3 → Contains (1 ∷ 2 ∷ 0 ∷ []) r
each_in zero within = (2, omega arith, refl)
each_in (suc zero) within = (0, omega arith, refl)
each_in (suc (suc zero)) within = (1, omega arith, refl)
each_in (suc (suc (suc r))) within = absurd (omega arith)

pair_then_lone : IsOrder below_pair (1 ∷ 2 ∷ 0 ∷ [])
pair_then_lone = record { groups = 1 ∷ 0 ∷ []; blocks = refl; turns = (refl, (refl, tt)); all = each_in }

-- no other order is that of this graph
no_other : (order : List ℕ) → IsOrder below_pair order → order ≡ 1 ∷ 2 ∷ 0 ∷ []
no_other order is = one_order_lem below_pair order (1 ∷ 2 ∷ 0 ∷ []) is pair_then_lone

-- by rising numbers the lone rail comes too early: it isn't the next one
out_of_turn : ¬ ComeInTurn below_pair [] (0 ∷ 1 ∷ [])
out_of_turn turns = cc (turns.0)

rising : ¬ IsOrder below_pair (0 ∷ 1 ∷ 2 ∷ [])
rising is = let same = no_other (0 ∷ 1 ∷ 2 ∷ []) is in cc

-- within the pair the numbers fall
falling : ¬ IsOrder below_pair (2 ∷ 1 ∷ 0 ∷ [])
falling is = let same = no_other (2 ∷ 1 ∷ 0 ∷ []) is in cc

-- the lone rail is missing
unfinished : ¬ IsOrder below_pair (1 ∷ 2 ∷ [])
unfinished is = let same = no_other (1 ∷ 2 ∷ []) is in cc

-- where none is ready no group comes next, and where none is at first there is no order
none_ready : (graph : Graph) (taken groups : List ℕ) → next_group graph taken ≡ None → ComeInTurn graph taken groups → groups ≡ []
none_ready graph taken [] none turns = refl
none_ready graph taken (group ∷ groups) none turns = absurd (cc (turns.0))

none_begins : (graph : Graph) (order : List ℕ) → next_group graph [] ≡ None → 0 < count_of graph → ¬ IsOrder graph order
none_begins graph order none some is =
    let here = is.all 0 some in
    let no_groups : is.groups ≡ [] = none_ready graph [] is.groups none is.turns in
    let empty : order ≡ [] = cc (is.blocks) in
    absurd (omega (arith, rw empty at here.1))

-- so a loop of supplies has none, and a loop of blocks
no_order_of_supply_loop : (order : List ℕ) → ¬ IsOrder supply_loop order
no_order_of_supply_loop order = none_begins supply_loop order refl (omega arith)

no_order_of_block_loop : (order : List ℕ) → ¬ IsOrder block_loop order
no_order_of_block_loop order = none_begins block_loop order refl (omega arith)

-- a chain of three comes up from its head
each_of_chain : (r : ℕ) → r < 3 → Contains (0 ∷ 1 ∷ 2 ∷ []) r
each_of_chain zero within = (0, omega arith, refl)
each_of_chain (suc zero) within = (1, omega arith, refl)
each_of_chain (suc (suc zero)) within = (2, omega arith, refl)
each_of_chain (suc (suc (suc r))) within = absurd (omega arith)

chain_from_its_head : IsOrder chain (0 ∷ 1 ∷ 2 ∷ [])
chain_from_its_head = record { groups = 0 ∷ 1 ∷ 2 ∷ []; blocks = refl; turns = (refl, (refl, (refl, tt))); all = each_of_chain }

-- rail 0 stands alone, and rails 1 and 2 supply each other: rail 0 comes up, and then none does
abbrev lone_and_loop : Graph
lone_and_loop = graph_of (None ∷ Some 2 ∷ Some 1 ∷ []) (0 ∷ 1 ∷ 2 ∷ [])

loop_of_two_blocks : IsOnBlockLoop lone_and_loop 1
loop_of_two_blocks = record {
  group = 1;
  in_group = refl;
  loop = record {
    between = 2 ∷ [];
    way = (record { upper = 1; lower = 2; supplies = refl; in_above = refl; in_below = refl }, record { upper = 2; lower = 1; supplies = refl; in_above = refl; in_below = refl });
  };
}

lone_comes_up : next_group lone_and_loop [] ≡ Some 0
lone_comes_up = refl

then_none : next_group lone_and_loop (0 ∷ []) ≡ None
then_none = refl

second_never_comes : (groups : List ℕ) → ComeInTurn lone_and_loop [] groups → is_taken (flat_map (members lone_and_loop) groups) 1 ≡ false
second_never_comes [] turns = refl
second_never_comes (group ∷ groups) turns =
    let first : 0 ≡ group = cc (turns.0) in
    let rest : ComeInTurn lone_and_loop (0 ∷ []) groups = subst (λ g. ComeInTurn lone_and_loop (members lone_and_loop g) groups) (sym first) turns.1 in
    rw (none_ready lone_and_loop (0 ∷ []) groups refl rest) (rw (sym first) refl)

no_order_beside_loop : (order : List ℕ) → ¬ IsOrder lone_and_loop order
no_order_beside_loop order is =
    let comes : is_taken order 1 ≡ true = taken_at 1 order (is.all 1 (omega arith)) in
    let never : is_taken order 1 ≡ false = rw is.blocks (second_never_comes is.groups is.turns) in
    cc

-- rail 0 has a supply that is no rail, and so it is no graph: there is no loop, and no order either
abbrev astray : Graph
astray = record { supply = Some 1 ∷ []; group = 0 ∷ []; link = false ∷ [] }

none_feeds : (above upper lower : ℕ) → supply_at astray lower ≡ Some upper → ¬ IsIn astray above upper
none_feeds above zero zero supplies in_above = absurd (cc)
none_feeds above (suc upper) zero supplies in_above = absurd (cc)
none_feeds above upper (suc lower) supplies in_above = absurd (cc)

nothing_leads : (above below : ℕ) (between : List ℕ) → ¬ IsWay (Feeds astray) above between below
nothing_leads above below [] feeds = none_feeds above feeds.upper feeds.lower feeds.supplies feeds.in_above
nothing_leads above below (via ∷ rest) (feeds, way) = none_feeds above feeds.upper feeds.lower feeds.supplies feeds.in_above

no_loop_astray : (r : ℕ) → ¬ IsOnBlockLoop astray r
no_loop_astray r on = nothing_leads on.group on.group on.loop.between on.loop.way

no_order_astray : (order : List ℕ) → ¬ IsOrder astray order
no_order_astray order = none_begins astray order refl (omega arith)
