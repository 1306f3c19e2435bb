-- The built-in board is one, but for the bytes that its rail's name doesn't use.
use Rattle.std.proofs.Common.{◌≡◌, true, false, [], ◌∷◌, codes, map, Some, None, refl, ap, ◌∙◌}
use Rattle.board.specs.declared.board.Board.{Board}
use Rattle.board.specs.declared.constraints.Constraints.{Constraints}
use Rattle.board.specs.declared.desc.Desc.{Desc}
use Rattle.board.specs.declared.rail.Rail.{Rail}
use Rattle.board.specs.declared.table.Table.TheVariants.{Ranges}
use Rattle.board.specs.Lone.{lone_graph}
use Rattle.board_draft.specs.Sketch.{trimmed}
use Rattle.board_load.specs.Demo.{IsCoreDesc, IsCoreLimits, IsCore, IsDemo, core_ranges, low_bits}
use Rattle.session.specs.Laws.{trimmed_board}

core_desc : Desc
core_desc = record {
  table = Ranges core_ranges;
  selector = Some (low_bits 0x10 0x7f);
  enable = low_bits 0x20 0x01;
  modes = Some (low_bits 0x30 0x03);
  greatest = 3000000 ∷ 1000000 ∷ 50000 ∷ 5000 ∷ [];
  suspend_enable = Some (low_bits 0x21 0x01);
  suspend_selector = Some (low_bits 0x40 0x7f);
  dropout = 0;
  ramp = 12500;
  enable_time = 100;
}

desc_is : (desc : Desc) → IsCoreDesc desc → desc ≡ core_desc
unfolding core_desc
desc_is desc is =
    let whole : record { table = desc.table; selector = desc.selector; enable = desc.enable; modes = desc.modes; greatest = desc.greatest; suspend_enable = desc.suspend_enable; suspend_selector = desc.suspend_selector; dropout = desc.dropout; ramp = desc.ramp; enable_time = desc.enable_time } ≡ core_desc =
    rw (is.table, is.selector, is.enable, is.modes, is.greatest, is.suspend_enable, is.suspend_selector, is.dropout, is.ramp, is.enable_time) refl in
    whole

core_limits : Constraints
core_limits = record {
  bounds = Some (800000, 1000000);
  always_on = false;
  boot_on = false;
  allow_load = false;
  system_load = 0;
  times = record { ramp = 0; settle = 0; up = 0; down = 0 };
  enable_ramp = 0;
  allowed = record { 0 = 15 };
  initial = None;
  max_step = 0;
  sleeps = None ∷ None ∷ None ∷ [];
}

limits_are : (limits : Constraints) → IsCoreLimits limits → limits ≡ core_limits
unfolding core_limits
limits_are limits are =
    let modes : limits.allowed ≡ record { 0 = 15 } = ap (λ n. record { 0 = n }) are.modes in
    let whole : record { bounds = limits.bounds; always_on = limits.always_on; boot_on = limits.boot_on; allow_load = limits.allow_load; system_load = limits.system_load; times = limits.times; enable_ramp = limits.enable_ramp; allowed = limits.allowed; initial = limits.initial; max_step = limits.max_step; sleeps = limits.sleeps } ≡ core_limits =
    rw (are.bounds, are.always_on, are.boot_on, are.allow_load, are.system_load, are.times, are.enable_ramp, modes, are.initial, are.max_step, are.sleeps) refl in
    whole

core_rail : Rail
core_rail = record {
  name = record { bytes = codes "core"; spare = [] };
  desc = core_desc;
  limits = core_limits;
  supply = None;
  group = 0;
  changeable = true;
  kept_uv = 800000;
}

core_is : (rail : Rail) → IsCore rail → trimmed rail ≡ core_rail
unfolding core_rail
core_is rail is =
    let desc = desc_is rail.desc is.desc in
    let limits = limits_are rail.limits is.limits in
    let whole : record { name = record { bytes = rail.name.bytes; spare = [] }; desc = rail.desc; limits = rail.limits; supply = rail.supply; group = rail.group; changeable = rail.changeable; kept_uv = rail.kept_uv } ≡ core_rail =
    rw (is.name, desc, limits, is.supply, is.group, is.changeable, is.kept_uv) refl in
    whole

pub demo_board : Board
demo_board = record { rails = core_rail ∷ []; spread = 0 ∷ []; chips = 1; graph = lone_graph; order = 0 ∷ [] }

pub demo_is : (board : Board) → IsDemo board → trimmed_board board ≡ demo_board
unfolding demo_board
demo_is board is =
    let rails : map trimmed board.rails ≡ core_rail ∷ [] = ap (map trimmed) is.rails ∙ ap (λ r. r ∷ []) (core_is is.core is.is_core) in
    let whole : record { rails = map trimmed board.rails; spread = board.spread; chips = board.chips; graph = board.graph; order = board.order } ≡ demo_board =
    rw (rails, is.spread, is.chips, is.graph, is.order) refl in
    whole
