use Rattle.std.proofs.Common.{◌≡◌, ◌<◌, ℕ, List, length, get_or, sym, ap, ◌∙◌, subst, arith}
use Rattle.std.proofs.lemmas.List.{length-set}
use Rattle.board_graph.specs.Graph.{count_of}
use Rattle.board_graph.specs.Loops.{above}
use Rattle.board_load.proofs.MarkLemmas.{above_within}
use Rattle.board_load.proofs.switched.mark_up.Goals as goal

pub mark_all-requires : goal.mark_all-requires
mark_all-requires c =
    let graph = c.args.graph.now in
    let same : c.as_slice.result.now ≡ above graph c.args.r = c.as_slice.ensures ∙ c.in_ok-above.ensures in
    let size : length c.set.new.self ≡ count_of graph = ap length c.set.ensures ∙ length-set _ _ _ ∙ c.requires.size in
    λ i within.
    let below = above_within graph c.args.r i c.requires.graph (subst (λ (ns : List ℕ). i < length ns) same within) in
    subst (λ (ns : List ℕ). get_or ns i 0 < length c.set.new.self) (sym same) (omega (arith, below, size))
