use Rattle.std.proofs.Common.{ℕ, List, ◌∙◌, ◌++◌, [], ◌∷◌, map, sym, ap}
use Rattle.std.specs.Prelude.{flat_map}
use Rattle.std.specs.List.{range_with_len}
use Rattle.std.proofs.lemmas.Grind.{flat_map-append}
use Rattle.std.proofs.lemmas.List.{append-nil}
use Rattle.board_draft.proofs.Walks.{numbers_more}
use Rattle.board_draft.proofs.pairs.pairs_of.Goals as goal

pub loop-first-preserved : goal.loop-first-preserved
loop-first-preserved c =
    let row : ℕ → List (ℕ × ℕ) = λ a. map (λ (b : ℕ). (a, b)) (range_with_len 0 c.args.count) in
    let n = c.loop-first.first in
    c.in_ok-push_pairs.ensures
    ∙ ap (λ s. s ++ row n) c.loop-first.invariant
    ∙ sym (ap (flat_map row) (numbers_more n) ∙ flat_map-append row (range_with_len 0 n) (n ∷ []) ∙ ap (λ s. flat_map row (range_with_len 0 n) ++ s) (append-nil (row n)))
