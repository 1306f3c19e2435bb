use Rattle.std.proofs.Common.{◌≡◌, ◌<◌, ◌++◌, List, [], ◌∷◌, length, get_or, ap, ◌∙◌, subst}
use Rattle.board.specs.declared.event.Event.{Event}
use Rattle.board.specs.declared.rail.Rail.{Rail}
use Rattle.board_load.proofs.Walks.{map_more}
use Rattle.board_load.proofs.finishing.no_events.Goals as goal

pub loop-rail-preserved : goal.loop-rail-preserved
loop-rail-preserved c =
    let rails = c.args.board.now.rails in
    let k = c.loop-rail._rail-index in
    let rail = c._rail-item.result in
    let within : k < length rails = subst (λ (xs : List Rail). k < length xs) c.as_slice-rail-items.ensures c.loop-rail-test.true in
    let item : rail ≡ get_or rails k rail = subst (λ (xs : List Rail). rail ≡ get_or xs k rail) c.as_slice-rail-items.ensures c._rail-item.is in
    c.in_ok-push.ensures.ok
    ∙ ap (λ (one : List Event). c.loop-rail.events ++ one ∷ []) c.new.ensures
    ∙ ap (λ (all : List (List Event)). all ++ [] ∷ []) c.loop-rail.invariant
    ∙ map_more {X = Rail} {Y = List Event} (λ _. []) rails k rail within item
