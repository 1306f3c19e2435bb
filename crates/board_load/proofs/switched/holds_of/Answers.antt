use Rattle.std.proofs.Common.{◌≡◌, ◌<◌, ◌++◌, List, [], ◌∷◌, length, map, take, get_or, ap, ◌∙◌, subst}
use Rattle.board.specs.declared.rail.Rail.{Rail}
use Rattle.board_load.specs.Start.{is_asked_on}
use Rattle.board_load.proofs.Walks.{map_more}
use Rattle.board_load.proofs.switched.holds_of.Goals as goal

pub loop-rail-preserved : goal.loop-rail-preserved
loop-rail-preserved c =
    let rails = c.args.board.now.rails in
    let k = c.loop-rail.rail-index in
    let rail = c.rail-item.result in
    let told = is_asked_on c.args.regs.now in
    let within : k < length rails = subst (λ (xs : List Rail). k < length xs) c.as_slice-rail-items.ensures c.loop-rail-test.true in
    let item : rail ≡ get_or rails k rail = subst (λ (xs : List Rail). rail ≡ get_or xs k rail) c.as_slice-rail-items.ensures c.rail-item.is in
    c.in_ok-push.ensures.items
    ∙ ap (λ all. all ++ c.is_asked_on.result ∷ []) c.loop-rail.invariant
    ∙ ap (λ one. map told (take k rails) ++ one ∷ []) c.is_asked_on.ensures
    ∙ map_more told rails k rail within item
