use Rattle.std.proofs.Common.{◌∙◌, sym, length, map, arith}
use Rattle.board_nodes.specs.Faults.{same_at}
use Rattle.board_nodes.specs.Inside.Drafts.{name_of}
use Rattle.board_nodes.proofs.RangeLemmas.{find-here, find-past}
use Rattle.board_nodes.proofs.NameLemmas.{same_at-is}
use Rattle.board_nodes.proofs.names.same_behind.Goals as goal

pub loop-b-preserved : goal.loop-b-preserved
loop-b-preserved c =
    let drafts = c.args.drafts.now in
    let differ = same_at-is drafts c.args.a c.loop-b.b c.index-drafts-a.result c.index-drafts-b.result c.requires (omega arith) in
    c.loop-b.invariant ∙ find-past (same_at (map name_of drafts) c.args.a) c.loop-b.b (length drafts) (omega arith) (differ ∙ sym c.eq.ensures ∙ c.if-eq.false)

pub returns-then-eq-clause-same : goal.returns-then-eq-clause-same
returns-then-eq-clause-same c =
    let drafts = c.args.drafts.now in
    let same = same_at-is drafts c.args.a c.loop-b.b c.index-drafts-a.result c.index-drafts-b.result c.requires (omega arith) in
    sym (c.loop-b.invariant ∙ find-here (same_at (map name_of drafts) c.args.a) c.loop-b.b (length drafts) (omega arith) (same ∙ sym c.eq.ensures ∙ c.if-eq.true))
