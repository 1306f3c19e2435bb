use Rattle.std.proofs.Common.{◌≡◌, ◌∙◌, ◌&&◌, ◌++◌, [], ◌∷◌, cond, ℕ, Bool, false, List, get_or, ap, sym}
use Rattle.dts_nodes.specs.Use.{is_used}
use Rattle.board_nodes.specs.Chips.{is_fixed}
use Rattle.board_nodes.proofs.RangeLemmas.{filter-more}
use Rattle.board_nodes.proofs.chips.fixed_nodes.Goals as goal
use Rattle.board_nodes.proofs.chips.fixed_nodes.Goals.{then-has+in_ok-is_rail, else-has}

pub loop-node-preserved : goal.loop-node-preserved
loop-node-preserved c =
    let nodes = c.args.tree.now in
    let node = c.loop-node.node in
    let p : ℕ → Bool = λ k. is_used nodes k && is_fixed nodes k in
    let is_rail : c.if-has.is_rail ≡ p node = elim c.if-has.branch [
      | then-has+in_ok-is_rail w ↦ w.is_rail-is ∙ w.in_ok-is_rail.ensures ∙ ap (λ b. b && is_fixed nodes node) (sym w.if-has.true ∙ c.has.ensures ∙ ap (λ (flags : List Bool). get_or flags node false) c.requires.used)
      | else-has w ↦ w.is_rail-is ∙ w.if-has.false ∙ ap (λ b. b && is_fixed nodes node) (sym w.if-has.false ∙ c.has.ensures ∙ ap (λ (flags : List Bool). get_or flags node false) c.requires.used)
    ] in
    c.in_ok-keep_if.ensures
    ∙ ap (λ b. c.loop-node.fixed ++ cond b (node ∷ []) []) is_rail
    ∙ ap (λ xs. xs ++ cond (p node) (node ∷ []) []) c.loop-node.invariant
    ∙ sym (filter-more p node)
