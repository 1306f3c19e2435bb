-- Loops of supplies and loops of blocks, by the net of the leaders.
use Rattle.std.proofs.Common.{◌≡◌, ℕ, ◌<◌, false, List, [], ◌∷◌, Option, Some, None, Result, Ok, Err, get_or, sym, ◌∙◌, subst, arith}
use Rattle.std.specs.declared.alloc.AllocError.{AllocError}
use Rattle.std.specs.Option.{MatchOption}
use Rattle.std.specs.Result.{IfOk}
use Rattle.std.specs.List.{range_with_len}
use Rattle.std.proofs.lemmas.List.FromFn.{length-range_with_len, get_or-range_with_len}
use Rattle.std.proofs.lemmas.Option.{slice_get_within, slice_get-get_or}
use Rattle.board_graph.specs.declared.graph.Graph.{Graph}
use Rattle.board_graph.specs.declared.feeds.Feeds.{Feeds}
use Rattle.board_graph.specs.Ways.{IsWay, Leads}
use Rattle.board_graph.specs.Graph.{count_of, IsGraph, Supplies, IsOnSupplyLoop, IsIn, Feeds as FeedsGroup, IsOnBlockLoop}
use Rattle.board_graph.specs.Loops.{IsLeastSuch}
use Rattle.board_graph.specs.Inside.Net.{StepsTo, IsNet}
use Rattle.board_graph.specs.Inside.Blocks.{AreLeaders, AreRails, AreFeedsOf, FeedsLeader, feeds_of}
use Rattle.board_graph.proofs.Ways.{step_leads}
use Rattle.board_graph.proofs.NetLemmas.{HasPair, step_pair, pair_step, feeder_supplies, feed_pair, pair_feeds, leaders_rails, feed_rails, feeds_below}

-- ways of one kind of step are ways of another
ways_map : {Step Other : ℕ → ℕ → Type 0} → ((a b : ℕ) → Step a b → Other a b) → (a b : ℕ) (between : List ℕ) → IsWay Step a between b → IsWay Other a between b
ways_map to a b [] way = to a b way
ways_map to a b (via ∷ rest) way = (to a via way.0, ways_map to via b rest way.1)

leads_map : {Step Other : ℕ → ℕ → Type 0} → ((a b : ℕ) → Step a b → Other a b) → (a b : ℕ) → Leads Step a b → Leads Other a b
leads_map to a b leads = record { between = leads.between; way = ways_map to a b leads.between leads.way }

module _ (graph : Graph) (leaders : List ℕ) (feeds : Feeds) (is : IsGraph graph) (rails : AreRails (count_of graph) leaders) (are : AreFeedsOf graph leaders feeds) where
  pub down_feeds : (a b : ℕ) → StepsTo feeds.down a b → FeedsLeader graph leaders false a b
  down_feeds a b step =
      let there = step_pair (count_of graph) feeds.pairs feeds.down a b are.lists step in
      pair_feeds graph leaders false (count_of graph) a b (subst (λ pairs. HasPair pairs a b) are.pairs there.1)

  pub feed_down : (a b : ℕ) → FeedsLeader graph leaders false a b → StepsTo feeds.down a b
  feed_down a b feed =
      let both = feed_rails graph false feed.upper feed.lower is feed.feeds in
      let has = feed_pair graph leaders false (count_of graph) feed.upper feed.lower both.1 feed.feeds in
      let pair : HasPair feeds.pairs a b = subst (λ pairs. HasPair pairs a b) (sym are.pairs)
      (subst (λ x. HasPair (feeds_of graph leaders false (count_of graph)) x b) feed.leads_upper
      (subst (λ y. HasPair (feeds_of graph leaders false (count_of graph)) (get_or leaders feed.upper 0) y) feed.leads_lower has)) in
      pair_step (count_of graph) feeds.pairs feeds.down a b are.lists (feeds_below graph leaders false a b is rails feed).0 pair

  pub down_net : IsNet feeds.down
  down_net a b step = omega (arith, are.lists.size, (feeds_below graph leaders false a b is rails (down_feeds a b step)).1)

-- each rail is its own leader
own_at : (n r : ℕ) → r < n → get_or (range_with_len 0 n) r 0 ≡ r
own_at n r below = omega (arith, get_or-range_with_len 0 n r 0 below)

pub own_rails : (n : ℕ) → AreRails n (range_with_len 0 n)
own_rails n = record { size = length-range_with_len 0 n; below = λ r below. omega (arith, own_at n r below) }

module _ (graph : Graph) (feeds : Feeds) (is : IsGraph graph) (are : AreFeedsOf graph (range_with_len 0 (count_of graph)) feeds) where
  abbrev own : List ℕ
  own = range_with_len 0 (count_of graph)

  abbrev count : ℕ
  count = count_of graph

  down_supplies : (a b : ℕ) → StepsTo feeds.down a b → Supplies graph a b
  down_supplies a b step =
      let feed = down_feeds graph own feeds is (own_rails count) are a b step in
      let both = feed_rails graph false feed.upper feed.lower is feed.feeds in
      let upper : feed.upper ≡ a = sym (own_at count feed.upper both.0) ∙ feed.leads_upper in
      let lower : feed.lower ≡ b = sym (own_at count feed.lower both.1) ∙ feed.leads_lower in
      subst (λ x. Supplies graph x b) upper (subst (λ y. Supplies graph feed.upper y) lower (feeder_supplies graph false feed.upper feed.lower feed.feeds))

  supplies_down : (a b : ℕ) → Supplies graph a b → StepsTo feeds.down a b
  supplies_down a b supplies =
      let both = feed_rails graph false a b is supplies in
      feed_down graph own feeds is (own_rails count) are a b
      (record { upper = a; lower = b; feeds = supplies; leads_upper = own_at count a both.0; leads_lower = own_at count b both.1 })

  pub supply_found : (found : Option ℕ) → MatchOption found ((v : ℕ) → ¬ Leads (StepsTo feeds.down) v v) (IsLeastSuch (λ v. Leads (StepsTo feeds.down) v v))
      → MatchOption found ((r : ℕ) → ¬ IsOnSupplyLoop graph r) (IsLeastSuch (IsOnSupplyLoop graph))
  supply_found None none = λ r on. none r (leads_map supplies_down r r on)
  supply_found (Some r) least = record { such = leads_map down_supplies r r least.such; least = λ other on. least.least other (leads_map supplies_down other other on) }

module _ (graph : Graph) (leaders : List ℕ) (feeds : Feeds) (is : IsGraph graph) (led : AreLeaders graph.group leaders) (are : AreFeedsOf graph leaders feeds) where
  rails : AreRails (count_of graph) leaders
  rails = leaders_rails graph leaders led

  abbrev group_at : ℕ → ℕ
  group_at v = get_or graph.group v 0

  in_own : (r : ℕ) → r < count_of graph → IsIn graph (group_at r) r
  in_own r below = slice_get-get_or graph.group r 0 below

  -- a rail and its leader have one group
  group_of_leader : (r a : ℕ) → r < count_of graph → get_or leaders r 0 ≡ a → group_at r ≡ group_at a
  group_of_leader r a below leads =
      let there : IsIn graph (group_at r) a = subst (λ x. IsIn graph (group_at r) x) leads (led.block r below ∙ in_own r below) in
      let here = in_own a (slice_get_within graph.group a (group_at r) there) in
      cc (there, here)

  down_groups : (a b : ℕ) → StepsTo feeds.down a b → FeedsGroup graph (group_at a) (group_at b)
  down_groups a b step =
      let feed = down_feeds graph leaders feeds is rails are a b step in
      let both = feed_rails graph false feed.upper feed.lower is feed.feeds in
      record {
        upper = feed.upper;
        lower = feed.lower;
        supplies = feeder_supplies graph false feed.upper feed.lower feed.feeds;
        in_above = subst (λ g. IsIn graph g feed.upper) (group_of_leader feed.upper a both.0 feed.leads_upper) (in_own feed.upper both.0);
        in_below = subst (λ g. IsIn graph g feed.lower) (group_of_leader feed.lower b both.1 feed.leads_lower) (in_own feed.lower both.1);
      }

  groups_ways : (a b : ℕ) (between : List ℕ) → IsWay (StepsTo feeds.down) a between b → Leads (FeedsGroup graph) (group_at a) (group_at b)
  groups_ways a b [] way = record { between = []; way = down_groups a b way }
  groups_ways a b (via ∷ rest) way = step_leads (group_at a) (group_at via) (group_at b) (down_groups a via way.0) (groups_ways via b rest way.1)

  one_leader : (group a b : ℕ) → IsIn graph group a → IsIn graph group b → get_or leaders a 0 ≡ get_or leaders b 0
  one_leader group a b in_a in_b = led.one a b (slice_get_within graph.group a group in_a) (slice_get_within graph.group b group in_b) (in_a ∙ sym in_b)

  group_down : (above below r s : ℕ) → FeedsGroup graph above below → IsIn graph above r → IsIn graph below s → StepsTo feeds.down (get_or leaders r 0) (get_or leaders s 0)
  group_down above below r s feed in_r in_s =
      feed_down graph leaders feeds is rails are (get_or leaders r 0) (get_or leaders s 0)
      (record { upper = feed.upper; lower = feed.lower; feeds = feed.supplies; leads_upper = one_leader above feed.upper r feed.in_above in_r; leads_lower = one_leader below feed.lower s feed.in_below in_s })

  ways_down : (above below r s : ℕ) (between : List ℕ) → IsWay (FeedsGroup graph) above between below → IsIn graph above r → IsIn graph below s → Leads (StepsTo feeds.down) (get_or leaders r 0) (get_or leaders s 0)
  ways_down above below r s [] way in_r in_s = record { between = []; way = group_down above below r s way in_r in_s }
  ways_down above below r s (via ∷ rest) way in_r in_s =
      let feed = way.0 in
      step_leads (get_or leaders r 0) (get_or leaders feed.lower 0) (get_or leaders s 0) (group_down above via r feed.lower feed in_r feed.in_below)
      (ways_down via below feed.lower s rest way.1 feed.in_below in_s)

  on_down : (r : ℕ) → IsOnBlockLoop graph r → Leads (StepsTo feeds.down) (get_or leaders r 0) (get_or leaders r 0)
  on_down r on = ways_down on.group on.group r r on.loop.between on.loop.way on.in_group on.in_group

  first_below : (a b : ℕ) (between : List ℕ) → IsWay (StepsTo feeds.down) a between b → a < count_of graph
  first_below a b [] way = (feeds_below graph leaders false a b is rails (down_feeds graph leaders feeds is rails are a b way)).0
  first_below a b (via ∷ rest) way = (feeds_below graph leaders false a via is rails (down_feeds graph leaders feeds is rails are a via way.0)).0

  down_on : (r : ℕ) → Leads (StepsTo feeds.down) r r → IsOnBlockLoop graph r
  down_on r leads = record { group = group_at r; in_group = in_own r (first_below r r leads.between leads.way); loop = groups_ways r r leads.between leads.way }

  pub block_found : (found : Option ℕ) → MatchOption found ((v : ℕ) → ¬ Leads (StepsTo feeds.down) v v) (IsLeastSuch (λ v. Leads (StepsTo feeds.down) v v))
      → MatchOption found ((r : ℕ) → ¬ IsOnBlockLoop graph r) (IsLeastSuch (IsOnBlockLoop graph))
  block_found None none = λ r on. none (get_or leaders r 0) (on_down r on)
  block_found (Some r) least = record {
    such = down_on r least.such;
    least = λ other on. omega (arith, least.least (get_or leaders other 0) (on_down other on), led.least other (slice_get_within graph.group other on.group on.in_group));
  }

-- what holds of what was found holds of it as a result
pub found_ok : (first second : Option ℕ → Type 0) (result : Result (Option ℕ) AllocError) → ((found : Option ℕ) → first found → second found) → IfOk result first → IfOk result second
found_ok first second (Ok found) to is = to found is
found_ok first second (Err e) to is = tt
