use Rattle.std.proofs.Common.{◌∙◌, ◌<◌, Ok, Err, sym, length, arith}
use Rattle.std.proofs.lemmas.Result.{IfOk-weaker, IfErr-weaker, err_from_is_err_and}
use Rattle.name_map.proofs.KeptLemmas.{size-length}
use Rattle.dts_tree.specs.Inside.Reader.{view_of}
use Rattle.dts_tree.proofs.LawLemmas.{outcome_wrong, outcome_early, outcome_whole}
use Rattle.dts_tree.proofs.TakeLemmas.{sound, may_begun}
use Rattle.dts_tree.proofs.parser.parse.Goals as goal

pub read-requires-clause-spans : goal.read-requires-clause-spans
read-requires-clause-spans c = c.spans_rise.ensures c.args.text.now c.args.tokens.now c.requires.lexed

pub returns-in_err-reader-clause-fault : goal.returns-in_err-reader-clause-fault
returns-in_err-reader-clause-fault c =
    let p = err_from_is_err_and c.from_residual.result c.from_residual.ensures.1 in
    rw (p.1, p.2) (λ ne. outcome_wrong c.args.text.now c.args.tokens.now c.in_err-reader.field-0.0 (c.in_err-reader.ensures.fault ne))

pub returns-then-not-may_end-clause-fault : goal.returns-then-not-may_end-clause-fault
returns-then-not-may_end-clause-fault c = λ ne.
    let text = c.args.text.now in
    outcome_early text c.args.tokens.now (view_of text c.in_ok-reader.reader) c.in_ok-reader.ensures.ok (sym (c.may_end.ensures text) ∙ c.if-not-may_end.true)

pub tree_of-requires : goal.tree_of-requires
tree_of-requires c =
    let r = c.in_ok-reader.reader in
    let text = c.args.text.now in
    let counted = c.in_ok-reader.ensures.counted in
    let begun = may_begun text r (sym (c.may_end.ensures text) ∙ c.if-not-may_end.false) in
    let children : length r.store.children < 4294967295 = omega (arith, size-length r.store.children, counted.0, begun, c.requires.short) in
    let properties : length r.store.properties < 4294967295 = omega (arith, size-length r.store.properties, counted.1, begun, c.requires.short) in
    rw c.into_set-store.ensures.store (record { sound = sound r.from r.pieces.items r.bodies.items r.store c.in_ok-reader.ensures.kept children properties })

-- what comes of what is kept is the outcome
pub returns-clause-tree : goal.returns-clause-tree
returns-clause-tree c =
    let text = c.args.text.now in
    let kept = rw (c.into_set-store.ensures.store, c.into_set-store.ensures.pieces) at c.tree_of.ensures.tree in
    IfOk-weaker c.tree_of.result _ _ (λ tree is. outcome_whole text c.args.tokens.now (view_of text c.in_ok-reader.reader) c.in_ok-reader.ensures.ok (sym (c.may_end.ensures text) ∙ c.if-not-may_end.false) (Ok tree) is) kept

pub returns-clause-fault : goal.returns-clause-fault
returns-clause-fault c =
    let text = c.args.text.now in
    let kept = rw (c.into_set-store.ensures.store, c.into_set-store.ensures.pieces) at c.tree_of.ensures.fault in
    IfErr-weaker c.tree_of.result _ _ (λ fault is ne. outcome_whole text c.args.tokens.now (view_of text c.in_ok-reader.reader) c.in_ok-reader.ensures.ok (sym (c.may_end.ensures text) ∙ c.if-not-may_end.false) (Err fault) (is ne)) kept
