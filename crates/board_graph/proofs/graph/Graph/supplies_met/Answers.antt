use Rattle.std.proofs.Common.{◌≡◌, ◌∙◌, false, get_or, length, replicate, sym, ap, arith, rules}
use Rattle.board_graph.specs.Graph.{count_of}
use Rattle.board_graph.proofs.AboveLemmas.{above_rail, first_met, met_more, unmarked_less, all_met}
use Rattle.board_graph.proofs.graph.Graph.supplies_met.Goals as goal
use Rattle.board_graph.proofs.graph.Graph.supplies_met.Goals.{in-Some+then-as_slice-supply, in_default}

pub loop-next-init : goal.loop-next-init
loop-next-init c =
    let graph = c.args.self.now in
    let count = ap length c.as_slice-supplies.ensures ∙ c.requires.graph.supplies in
    let met : c.from_vec-met.result ≡ replicate (count_of graph) false =
    c.from_vec-met.ensures ∙ c.in_ok-vec.ensures.items_if_clones_equal (λ y h. search rules) ∙ ap (λ n. replicate n false) count in
    rw (c.as_slice-supplies.ensures, met) (first_met graph c.args.r c.requires.graph c.requires.rail)

pub bounds-as_slice-supply : goal.bounds-as_slice-supply
bounds-as_slice-supply c =
    let below = above_rail c.args.self.now c.in-Some.supply c.args.r c.requires.graph (c.loop-next.invariant.ahead c.in-Some.supply c.in-Some.is) in
    rw c.as_slice.ensures (omega (arith, c.loop-next.invariant.size, below))

pub set-requires : goal.set-requires
set-requires c =
    let below = above_rail c.args.self.now c.in-Some.supply c.args.r c.requires.graph (c.loop-next.invariant.ahead c.in-Some.supply c.in-Some.is) in
    omega (arith, c.loop-next.invariant.size, below)

pub bounds-supplies-supply : goal.bounds-supplies-supply
bounds-supplies-supply c =
    let below = above_rail c.args.self.now c.in-Some.supply c.args.r c.requires.graph (c.loop-next.invariant.ahead c.in-Some.supply c.in-Some.is) in
    rw c.as_slice-supplies.ensures (omega (arith, c.requires.graph.supplies, below))

pub loop-next-smaller : goal.loop-next-smaller
loop-next-smaller c =
    let below = above_rail c.args.self.now c.in-Some.supply c.args.r c.requires.graph (c.loop-next.invariant.ahead c.in-Some.supply c.in-Some.is) in
    rw c.set.ensures
    (unmarked_less c.loop-next.met c.in-Some.supply (omega (arith, c.loop-next.invariant.size, below)) (ap (λ met. get_or met c.in-Some.supply false) (sym c.as_slice.ensures) ∙ c.if-as_slice-supply.false))

pub loop-next-preserved : goal.loop-next-preserved
loop-next-preserved c =
    rw (c.set.ensures, c.as_slice-supplies.ensures)
    (met_more c.args.self.now c.args.r c.in-Some.supply c.loop-next.met c.requires.graph (rw c.in-Some.is at c.loop-next.invariant))

pub returns : goal.returns
returns c =
    all_met c.args.self.now c.args.r c.loop-next.met c.loop-next.next c.loop-next.invariant
    (λ supply is. elim c.match-next.branch [
      | in-Some+then-as_slice-supply w ↦
          let same : w.in-Some.supply ≡ supply = cc (w.in-Some.is, is) in
          ap (λ met. get_or met supply false) (sym w.as_slice.ensures) ∙ ap (λ v. get_or w.as_slice.result.now v false) (sym same) ∙ w.if-as_slice-supply.true
      | in_default w ↦ absurd (cc (w.in_default.is, is))
    ])
