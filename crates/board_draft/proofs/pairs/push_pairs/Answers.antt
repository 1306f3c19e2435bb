use Rattle.std.proofs.Common.{◌≡◌, ℕ, ◌+◌, ◌∙◌, ◌++◌, [], ◌∷◌, map, sym, ap, arith, append_assoc}
use Rattle.std.specs.List.{range_with_len}
use Rattle.std.proofs.lemmas.List.FromFn.{map-range_with_len_more}
use Rattle.board_draft.proofs.pairs.push_pairs.Goals as goal

pub loop-second-preserved : goal.loop-second-preserved
loop-second-preserved c =
    let pair : ℕ → ℕ × ℕ = λ second. (c.args.first, second) in
    let n = c.loop-second.second in
    let number : 0 + n ≡ n = omega arith in
    c.in_ok-push.ensures.items
    ∙ ap (λ s. s ++ pair n ∷ []) c.loop-second.invariant
    ∙ append_assoc c.args.pairs.now.items (map pair (range_with_len 0 n)) (pair n ∷ [])
    ∙ ap (λ s. c.args.pairs.now.items ++ s) (sym (map-range_with_len_more pair 0 n n number))
