-- The rails whose leader can be reached are the least set.
use Rattle.std.proofs.Common.{◌≡◌, ℕ, ◌<◌, inl, inr, Bool, true, false, not, cond, List, [], ◌∷◌, Some, None, Result, Ok, Err, length, get_or, refl, sym, ap, ◌∙◌, subst, arith, Contains}
use Rattle.std.specs.declared.alloc.AllocError.{AllocError}
use Rattle.std.specs.Result.{IfOk}
use Rattle.std.proofs.lemmas.List.Kept.{AllPairs-filter}
use Rattle.std.proofs.lemmas.Option.{slice_get_within, slice_get-get_or}
use Rattle.board_graph.specs.declared.graph.Graph.{Graph}
use Rattle.board_graph.specs.Ways.{IsWay}
use Rattle.board_graph.specs.Graph.{count_of, supply_at, IsGraph, Supplies, AreOneBlock}
use Rattle.board_graph.specs.Sets.{is_linked_at, rails_of, closure, movers, HoldsGuards, HoldsMovers, IsLeastWith}
use Rattle.board_graph.specs.Inside.Net.{StepsTo, IsNet}
use Rattle.board_graph.specs.Inside.Walk.{Reaches, AreReached}
use Rattle.board_graph.specs.Inside.Lists.{turned, AreLists}
use Rattle.board_graph.specs.Inside.Blocks.{AreLeaders, FeedsLeader, HoldsFeeders, feeder_of, feeds_of, led_by, upward}
use Rattle.board_graph.proofs.Ways.{leads_step}
use Rattle.board_graph.proofs.Growth.{taken_from, from_taken, is_rail, rail_is, kept, passed, rising_range}
use Rattle.board_graph.proofs.SetLaws.{closure_is_least_lem, movers_are_least_lem}
use Rattle.board_graph.proofs.RisingLists.{rising_same}
use Rattle.board_graph.proofs.NetLemmas.{step_pair, pair_step, turn_pair, turned_pair, feeder_supplies, feed_pair, pair_feeds, leader_rail, leaders_rails, feed_rails, feeds_below}

-- two least sets of the same are equal
one_least : (Such : List ℕ → Type 0) (r : ℕ) (first second : List ℕ) → IsLeastWith Such r first → IsLeastWith Such r second → first ≡ second
one_least Such r first second one other =
    rising_same first second one.rising other.rising (one.least second other.such other.has) (other.least first one.such one.has)

-- the rails of one block have one leader
same_leader : (graph : Graph) (leaders : List ℕ) (a b : ℕ) → AreLeaders graph.group leaders → AreOneBlock graph a b → get_or leaders a 0 ≡ get_or leaders b 0
same_leader graph leaders a b are one =
    are.one a b (slice_get_within graph.group a one.group one.first) (slice_get_within graph.group b one.group one.second) (one.first ∙ sym one.second)

leader_block : (graph : Graph) (leaders : List ℕ) (r : ℕ) → AreLeaders graph.group leaders → r < count_of graph → AreOneBlock graph (get_or leaders r 0) r
leader_block graph leaders r are below =
    let there = slice_get-get_or graph.group r 0 below in
    record { group = get_or graph.group r 0; first = are.block r below ∙ there; second = there }

block_leader : (graph : Graph) (leaders : List ℕ) (r : ℕ) → AreLeaders graph.group leaders → r < count_of graph → AreOneBlock graph r (get_or leaders r 0)
block_leader graph leaders r are below = let one = leader_block graph leaders r are below in record { group = one.group; first = one.second; second = one.first }

module _ (graph : Graph) (leaders : List ℕ) (only_linked : Bool) (up : List (List ℕ)) (is : IsGraph graph) (are : AreLeaders graph.group leaders)
    (lists : AreLists (count_of graph) (turned (feeds_of graph leaders only_linked (count_of graph))) up) where
  -- a leader steps to those of the blocks that feed its block
  step_feeds : (a b : ℕ) → StepsTo up a b → FeedsLeader graph leaders only_linked b a
  step_feeds a b step =
      pair_feeds graph leaders only_linked (count_of graph) b a
      (turned_pair (feeds_of graph leaders only_linked (count_of graph)) a b (step_pair (count_of graph) (turned (feeds_of graph leaders only_linked (count_of graph))) up a b lists step).1)

  feed_step : (upper lower : ℕ) → feeder_of graph only_linked lower ≡ Some upper → StepsTo up (get_or leaders lower 0) (get_or leaders upper 0)
  feed_step upper lower feeds =
      let rails = feed_rails graph only_linked upper lower is feeds in
      pair_step (count_of graph) (turned (feeds_of graph leaders only_linked (count_of graph))) up (get_or leaders lower 0) (get_or leaders upper 0) lists (leader_rail graph leaders lower are rails.1)
      (turn_pair (feeds_of graph leaders only_linked (count_of graph)) (get_or leaders upper 0) (get_or leaders lower 0) (feed_pair graph leaders only_linked (count_of graph) upper lower rails.1 feeds))

  pub up_net : IsNet up
  up_net a b step = omega (arith, lists.size, (feeds_below graph leaders only_linked b a is (leaders_rails graph leaders are) (step_feeds a b step)).0)

  module _ (r : ℕ) (below : r < count_of graph) (reached : List Bool) (marks : AreReached up (get_or leaders r 0) reached) where
    abbrev set : List ℕ
    set = led_by leaders reached (count_of graph)

    abbrev is_marked : ℕ → Bool
    is_marked i = get_or reached (get_or leaders i 0) false

    in_set : (i : ℕ) → i < count_of graph → Reaches up (get_or leaders r 0) (get_or leaders i 0) → Contains set i
    in_set i within reaches = from_taken set i (kept is_marked (rails_of graph) i (is_rail graph i within)
        (marks.all (get_or leaders i 0) (omega (arith, lists.size, leader_rail graph leaders i are within)) reaches))

    set_in : (i : ℕ) → Contains set i → (i < count_of graph) × Reaches up (get_or leaders r 0) (get_or leaders i 0)
    set_in i has =
        let both = passed is_marked (rails_of graph) i (taken_from set i has) in
        (rail_is graph i both.0, marks.on (get_or leaders i 0) both.1)

    -- a set with the rail that holds its feeders has what can be reached
    goes_in : (other : List ℕ) → HoldsFeeders graph only_linked other → (a b : ℕ) → StepsTo up a b → Contains other a → Contains other b
    goes_in other such a b step has =
        let feeds = step_feeds a b step in
        let rails = feed_rails graph only_linked feeds.upper feeds.lower is feeds.feeds in
        let low : Contains other feeds.lower = such.blocks feeds.lower a
        (subst (AreOneBlock graph feeds.lower) feeds.leads_lower (block_leader graph leaders feeds.lower are rails.1)) has in
        let high : Contains other feeds.upper = such.feeders feeds.upper feeds.lower feeds.feeds low in
        such.blocks b feeds.upper (subst (λ x. AreOneBlock graph x feeds.upper) feeds.leads_upper (leader_block graph leaders feeds.upper are rails.0)) high

    ways_in : (other : List ℕ) → HoldsFeeders graph only_linked other → (a b : ℕ) (between : List ℕ) → IsWay (StepsTo up) a between b → Contains other a → Contains other b
    ways_in other such a b [] way has = goes_in other such a b way has
    ways_in other such a b (via ∷ rest) way has = ways_in other such via b rest way.1 (goes_in other such a via way.0 has)

    reaches_in : (other : List ℕ) → HoldsFeeders graph only_linked other → (a b : ℕ) → Reaches up a b → Contains other a → Contains other b
    reaches_in other such a b (inl same) has = subst (Contains other) same has
    reaches_in other such a b (inr leads) has = ways_in other such a b leads.between leads.way has

    pub least_set : IsLeastWith (HoldsFeeders graph only_linked) r set
    least_set = record {
      has = in_set r below (inl refl);
      such = record {
        blocks = λ a b one has. let there = set_in b has in
            in_set a (slice_get_within graph.group a one.group one.first) (subst (Reaches up (get_or leaders r 0)) (sym (same_leader graph leaders a b are one)) there.1);
        feeders = λ upper lower feeds has. let there = set_in lower has in
            in_set upper (feed_rails graph only_linked upper lower is feeds).0 (reach_on (get_or leaders r 0) (get_or leaders lower 0) (get_or leaders upper 0) there.1 (feed_step upper lower feeds));
      };
      least = λ other such has i in_it. let there = set_in i in_it in
          such.blocks i (get_or leaders i 0) (block_leader graph leaders i are there.0)
          (reaches_in other such (get_or leaders r 0) (get_or leaders i 0) there.1 (such.blocks (get_or leaders r 0) r (leader_block graph leaders r are below) has));
      rising = AllPairs-filter (λ i j. i < j) is_marked (rails_of graph) (rising_range 0 (count_of graph));
    } where
      reach_on : (a b c : ℕ) → Reaches up a b → StepsTo up b c → Reaches up a c
      reach_on a b c (inl same) step = inr (record { between = []; way = subst (λ x. StepsTo up x c) (sym same) step })
      reach_on a b c (inr leads) step = inr (leads_step a b c leads step)

-- a least set of the one kind is one of the other, where they are the same
least_like : (Such Other : List ℕ → Type 0) (r : ℕ) (set : List ℕ) → ((some : List ℕ) → Such some → Other some) → ((some : List ℕ) → Other some → Such some) → IsLeastWith Such r set → IsLeastWith Other r set
least_like Such Other r set to from is = record { has = is.has; such = to set is.such; least = λ other such. is.least other (from other such); rising = is.rising }

linked_feeder : (graph : Graph) (upper lower : ℕ) → feeder_of graph true lower ≡ Some upper → is_linked_at graph lower ≡ true
linked_feeder graph upper lower feeds = by (is_linked_at graph lower) feeds where
  by : (linked : Bool) → cond (not linked) None (supply_at graph lower) ≡ Some upper → linked ≡ true
  by true is = refl
  by false never = absurd (cc)

feeder_linked : (graph : Graph) (upper lower : ℕ) → Supplies graph upper lower → is_linked_at graph lower ≡ true → feeder_of graph true lower ≡ Some upper
feeder_linked graph upper lower supplies linked = rw linked supplies

pub least_is_upward : (graph : Graph) (r : ℕ) (only_linked : Bool) (set : List ℕ) → IsGraph graph → r < count_of graph → IsLeastWith (HoldsFeeders graph only_linked) r set → set ≡ upward graph r only_linked
least_is_upward graph r false set is below least =
    one_least (HoldsGuards graph) r set (closure graph r) (least_like (HoldsFeeders graph false) (HoldsGuards graph) r set
    (λ some such. record { blocks = such.blocks; supplies = such.feeders })
    (λ some such. record { blocks = such.blocks; feeders = such.supplies }) least) (closure_is_least_lem graph r is below)
least_is_upward graph r true set is below least =
    one_least (HoldsMovers graph) r set (movers graph r) (least_like (HoldsFeeders graph true) (HoldsMovers graph) r set
    (λ some such. record { blocks = such.blocks; links = λ upper lower supplies linked has. such.feeders upper lower (feeder_linked graph upper lower supplies linked) has })
    (λ some such. record { blocks = such.blocks; feeders = λ upper lower feeds has. such.links upper lower (feeder_supplies graph true upper lower feeds) (linked_feeder graph upper lower feeds) has })
    least) (movers_are_least_lem graph r is below)

pub all_upward : (graph : Graph) (leaders : List ℕ) (only_linked : Bool) (up : List (List ℕ)) (r : ℕ) (reached : List Bool) (result : Result (List ℕ) AllocError)
    → IsGraph graph → AreLeaders graph.group leaders → AreLists (count_of graph) (turned (feeds_of graph leaders only_linked (count_of graph))) up
    → r < count_of graph → AreReached up (get_or leaders r 0) reached → IfOk result (λ rails. rails ≡ led_by leaders reached (length leaders)) → IfOk result (λ set. set ≡ upward graph r only_linked)
all_upward graph leaders only_linked up r reached (Err e) is are lists below marks rails = tt
all_upward graph leaders only_linked up r reached (Ok rails_up) is are lists below marks rails =
    rails ∙ ap (led_by leaders reached) are.size
    ∙ least_is_upward graph r only_linked (led_by leaders reached (count_of graph)) is below (least_set graph leaders only_linked up is are lists r below reached marks)
