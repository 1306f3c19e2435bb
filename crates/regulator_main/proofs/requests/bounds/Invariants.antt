use Rattle.std.proofs.Common.{◌≡◌, ℕ, ◌∷◌, Some, take}
use Rattle.std.specs.Prelude.{filter_map}
use Rattle.std.specs.List.{list_all}
use Rattle.board.specs.Rail.{is_within}
use Rattle.regulator_main.specs.Inside.Asked.{asks}
use Rattle.plain_board.specs.Requests.{meets}
use Rattle.regulator_main.proofs.requests.bounds.Given as goal

-- the bounds are those of the requests so far
abbrev pub invariant-loop-row : goal.invariant-loop-row
invariant-loop-row l =
    (uv : ℕ) → list_all (meets uv) (l.fn.request ∷ filter_map (asks l.worker l.name.bytes l.id.0) (take l.row-index l.handles)) ≡ is_within (Some l.all) uv
