use Rattle.std.proofs.Common.{ℕ, List, ◌∙◌, ◌++◌, [], ◌∷◌, map, take, ap}
use Rattle.std.specs.List.{enumerate_from}
use Rattle.std.specs.Prelude.{fold, min}
use Rattle.board_draft.proofs.Walks.{numbered_more, numbered_all}
use Rattle.board_draft.proofs.graph.groups_of.Goals as goal

abbrev group : ℕ × List ℕ → ℕ
group named = fold min named.0 named.1

pub loop-r-preserved : goal.loop-r-preserved
loop-r-preserved c =
    c.in_ok-push.ensures.items
    ∙ ap (λ s. s ++ c.least.result ∷ []) c.loop-r.invariant
    ∙ ap (λ g. map group (take c.loop-r.r (enumerate_from 0 c.args.named.now)) ++ g ∷ []) (c.least.ensures ∙ ap (fold min c.loop-r.r) c.as_slice.ensures)
    ∙ numbered_more group c.args.named.now c.loop-r.r c.index-named-r.result c.loop-r-test.true c.index-named-r.is

pub returns : goal.returns
returns c = c.from_vec.ensures ∙ numbered_all group c.args.named.now c.loop-r.r c.loop-r.groups.items c.loop-r-test.false c.loop-r.invariant
