use Rattle.std.proofs.Common.{◌≡◌, map, take}
use Rattle.std.specs.Option.{unwrap_or}
use Rattle.board_draft.proofs.build.spreads_from.Given as goal

abbrev pub invariant-loop-spread : goal.invariant-loop-spread
invariant-loop-spread l = l.spreads.items ≡ map (λ spread. unwrap_or spread 0) (take l.spread-index l.stated)
