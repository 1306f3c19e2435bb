-- A rail by what its node and the graph say.
use Rattle.std.specs.Prelude.{ℕ, [], Option}
use Rattle.std.specs.Option.{option_map, option_map_or}
use Rattle.board.specs.declared.constraints.Constraints.{Constraints}
use Rattle.board.specs.declared.rail.Rail.{Rail}
use Rattle.board.specs.Valid.{is_span}
use Rattle.board_nodes.specs.Rails.{Found}

-- a rail with these constraints, this supply and this group
abbrev pub rail_from : Found → Constraints → Option ℕ → ℕ → Rail
rail_from found limits supply group = record {
  name = record { bytes = found.name; spare = [] };
  desc = found.desc;
  limits = limits;
  supply = option_map (λ s. record { 0 = s }) supply;
  group = group;
  changeable = is_span limits.bounds;
  kept_uv = option_map_or (λ bounds. bounds.0) limits.bounds 0;
}
