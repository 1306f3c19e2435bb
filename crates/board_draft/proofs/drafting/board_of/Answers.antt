use Rattle.std.proofs.Common.{◌≡◌, ◌∙◌, [], ◌∷◌, List, None, Some, map, refl, ap, sym, subst}
use Rattle.std.proofs.lemmas.Result.{err_from_is_err_and}
use Rattle.board_nodes.specs.Rails.{Found, seen, rails_in}
use Rattle.board_draft.specs.Faults.{link_fault, board_fault}
use Rattle.board_draft.specs.Sketch.{sketch_of}
use Rattle.board_draft.proofs.DraftLemmas.{skip, here, checks_are}
use Rattle.board_draft.proofs.drafting.board_of.Goals as goal

pub returns-in_err-check-clause-fault : goal.returns-in_err-check-clause-fault
returns-in_err-check-clause-fault c =
    let nodes = c.args.tree.now in
    let p = err_from_is_err_and c.from_residual-in_err-check.result c.from_residual-in_err-check.ensures.1 in
    let found : map seen c.as_slice.result.now ≡ rails_in nodes = ap (map seen) c.as_slice.ensures ∙ c.requires.rails_are in
    let none : link_fault nodes (rails_in nodes) ≡ None = subst (λ (rails : List Found). link_fault nodes rails ≡ None) found c.in_ok-parts.ensures.none in
    let told : board_fault (sketch_of nodes) ≡ Some c.in_err-check.field-0.0 = sym (checks_are nodes c.in_ok-board.board c.in_ok-board.ensures.board) ∙ c.in_err-check.ensures.fault in
    rw (p.1, p.2) (λ ne. skip (link_fault nodes (rails_in nodes)) (board_fault (sketch_of nodes) ∷ []) _ none (here (board_fault (sketch_of nodes)) [] _ told))

pub returns-clause-none : goal.returns-clause-none
returns-clause-none c =
    let nodes = c.args.tree.now in
    let found : map seen c.as_slice.result.now ≡ rails_in nodes = ap (map seen) c.as_slice.ensures ∙ c.requires.rails_are in
    let none : link_fault nodes (rails_in nodes) ≡ None = subst (λ (rails : List Found). link_fault nodes rails ≡ None) found c.in_ok-parts.ensures.none in
    let quiet : board_fault (sketch_of nodes) ≡ None = sym (checks_are nodes c.in_ok-board.board c.in_ok-board.ensures.board) ∙ c.in_ok-check.ensures.none in
    skip (link_fault nodes (rails_in nodes)) (board_fault (sketch_of nodes) ∷ []) None none (skip (board_fault (sketch_of nodes)) [] None quiet refl)
