use Rattle.std.proofs.Common.{◌≡◌, ◌<◌, ◌∙◌, ℕ, List, [], length, get_or, ap, arith, nat_cmp}
use Rattle.std.specs.BTreeSet.{contains}
use Rattle.std.proofs.lemmas.List.{get_or_read}
use Rattle.board_graph.proofs.TurnLemmas.{leader_within, enough, after_turns, after_fewer}
use Rattle.board_graph.proofs.turns.Turns.turn.Goals as goal

-- the list that was read
read_at : (down lists : List (List ℕ)) (leader : ℕ) (item fed : List ℕ) → lists ≡ down → item ≡ get_or lists leader item → fed ≡ item → leader < length down → fed ≡ get_or down leader []
read_at down lists leader item fed same at is within =
    is ∙ get_or_read down leader item within (at ∙ ap (λ xs. get_or xs leader item) same) []

pub release-requires : goal.release-requires
release-requires c =
    let leaders = c.args.leaders.now in
    let feeds = c.args.feeds.now in
    let turns = c.args.self.now in
    let within = leader_within leaders feeds turns c.in-Some.leader c.requires.feeds c.requires.turns c.in-Some.ensures.some c.in-Some.ensures.least in
    let fed_is = read_at feeds.down c.as_slice.result.now c.in-Some.leader c.index-as_slice-leader.result c.as_slice-2.result.now c.as_slice.ensures c.index-as_slice-leader.is c.as_slice-2.ensures
    (omega (arith, within, c.requires.feeds.lists.size)) in
    rw fed_is (enough leaders feeds turns c.in-Some.leader c.requires.feeds c.requires.turns c.in-Some.ensures.some c.in-Some.ensures.least)

pub returns-clause-turns : goal.returns-clause-turns
returns-clause-turns c =
    let leaders = c.args.leaders.now in
    let feeds = c.args.feeds.now in
    let turns = c.args.self.now in
    let within = leader_within leaders feeds turns c.in-Some.leader c.requires.feeds c.requires.turns c.in-Some.ensures.some c.in-Some.ensures.least in
    let fed_is = read_at feeds.down c.as_slice.result.now c.in-Some.leader c.index-as_slice-leader.result c.as_slice-2.result.now c.as_slice.ensures c.index-as_slice-leader.is c.as_slice-2.ensures
    (omega (arith, within, c.requires.feeds.lists.size)) in
    after_turns leaders feeds turns c.in-Some.leader c.requires.feeds c.requires.turns c.in-Some.ensures.some c.in-Some.ensures.least c.release.new.self (λ v. contains nat_cmp c.take_least.new.ready v)
    (c.in_ok-release.ensures.taken ∙ c.in_ok-push.ensures.ok) c.in_ok-release.ensures.size (rw fed_is at c.in_ok-release.ensures.waits) c.in-Some.ensures.rest (rw fed_is at c.in_ok-release.ensures.ready)

pub returns-clause-fewer : goal.returns-clause-fewer
returns-clause-fewer c =
    let leaders = c.args.leaders.now in
    let feeds = c.args.feeds.now in
    let turns = c.args.self.now in
    let within = leader_within leaders feeds turns c.in-Some.leader c.requires.feeds c.requires.turns c.in-Some.ensures.some c.in-Some.ensures.least in
    let fed_is = read_at feeds.down c.as_slice.result.now c.in-Some.leader c.index-as_slice-leader.result c.as_slice-2.result.now c.as_slice.ensures c.index-as_slice-leader.is c.as_slice-2.ensures
    (omega (arith, within, c.requires.feeds.lists.size)) in
    after_fewer leaders feeds turns c.in-Some.leader c.requires.feeds c.requires.turns c.in-Some.ensures.some c.in-Some.ensures.least c.release.new.self (λ v. contains nat_cmp c.take_least.new.ready v)
    (c.in_ok-release.ensures.taken ∙ c.in_ok-push.ensures.ok) c.in_ok-release.ensures.size (rw fed_is at c.in_ok-release.ensures.waits) c.in-Some.ensures.rest (rw fed_is at c.in_ok-release.ensures.ready)
