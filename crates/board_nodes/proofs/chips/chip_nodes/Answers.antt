use Rattle.std.proofs.Common.{◌≡◌, ◌∙◌, ◌&&◌, ◌++◌, [], ◌∷◌, cond, ℕ, Bool, false, List, get_or, is_some, ap, sym}
use Rattle.dts_nodes.specs.Use.{is_used}
use Rattle.board_nodes.specs.Chips.{sheet_at}
use Rattle.board_nodes.proofs.RangeLemmas.{filter-more}
use Rattle.board_nodes.proofs.chips.chip_nodes.Goals as goal
use Rattle.board_nodes.proofs.chips.chip_nodes.Goals.{then-has+in_ok-known, else-has}

pub loop-node-preserved : goal.loop-node-preserved
loop-node-preserved c =
    let nodes = c.args.tree.now in
    let node = c.loop-node.node in
    let p : ℕ → Bool = λ k. is_used nodes k && is_some (sheet_at nodes k) in
    let known : c.if-has.known ≡ p node = elim c.if-has.branch [
      | then-has+in_ok-known w ↦ w.known-is ∙ w.in_ok-known.ensures ∙ ap (λ b. b && is_some (sheet_at nodes node)) (sym w.if-has.true ∙ c.has.ensures ∙ ap (λ (flags : List Bool). get_or flags node false) c.requires.used)
      | else-has w ↦ w.known-is ∙ w.if-has.false ∙ ap (λ b. b && is_some (sheet_at nodes node)) (sym w.if-has.false ∙ c.has.ensures ∙ ap (λ (flags : List Bool). get_or flags node false) c.requires.used)
    ] in
    c.in_ok-keep_if.ensures
    ∙ ap (λ b. c.loop-node.chips ++ cond b (node ∷ []) []) known
    ∙ ap (λ xs. xs ++ cond (p node) (node ∷ []) []) c.loop-node.invariant
    ∙ sym (filter-more p node)
