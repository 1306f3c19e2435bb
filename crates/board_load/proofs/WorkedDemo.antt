-- The built-in board is one board, whole: all that is asked of it is told here once more.
use Rattle.std.specs.Prelude.{◌≡◌, [], ◌∷◌, map}
use Rattle.std.proofs.Common.{refl, ap, ◌∙◌}
use Rattle.load_modes.specs.declared.modes.Modes.{Modes}
use Rattle.board.specs.declared.board.Board.{Board}
use Rattle.board.specs.declared.constraints.Constraints.{Constraints}
use Rattle.board.specs.declared.desc.Desc.{Desc}
use Rattle.board.specs.declared.rail.Rail.{Rail}
use Rattle.board.specs.declared.table.Table.TheVariants.{Ranges}
use Rattle.board.proofs.Boards.{core_table}
use Rattle.board_draft.specs.Sketch.{trimmed}
use Rattle.board_draft.specs.declared.drafted.Drafted.{Drafted}
use Rattle.plain_board.proofs.PlayedBoards.{core_rail, core_board}
use Rattle.board_load.specs.Demo.{core_ranges, IsCoreDesc, IsCoreLimits, IsCore, IsDemo, IsDemoDraft}

-- the rail, which is kept at its least value
abbrev kept_core : Rail
kept_core = record core_rail { kept_uv = 800000 }

core_ranges_are : Ranges core_ranges ≡ core_table
core_ranges_are = refl

desc_holds : IsCoreDesc kept_core.desc
desc_holds = record { table = refl; selector = refl; enable = refl; modes = refl; greatest = refl; suspend_enable = refl; suspend_selector = refl; dropout = refl; ramp = refl; enable_time = refl }

limits_hold : IsCoreLimits kept_core.limits
limits_hold = record { bounds = refl; always_on = refl; boot_on = refl; allow_load = refl; system_load = refl; times = refl; enable_ramp = refl; modes = refl; initial = refl; max_step = refl; sleeps = refl }

core_holds : IsCore kept_core
core_holds = record { name = refl; desc = desc_holds; limits = limits_hold; supply = refl; group = refl; changeable = refl; kept_uv = refl }

demo_holds : IsDemo (record core_board { rails = kept_core ∷ [] })
demo_holds = record { core = kept_core; rails = refl; is_core = core_holds; spread = refl; chips = refl; graph = refl; order = refl }

draft_holds : IsDemoDraft (record { board = record core_board { rails = kept_core ∷ [] }; resets = (0, 0x10, 0x20) ∷ (0, 0x11, 0x20) ∷ (0, 0x30, 0x15) ∷ [] })
draft_holds = record { board = demo_holds; resets = refl }

-- no other description meets what is asked
only_desc : (desc : Desc) → IsCoreDesc desc → desc ≡ kept_core.desc
only_desc desc core =
    let same : record {
      table = desc.table;
      selector = desc.selector;
      enable = desc.enable;
      modes = desc.modes;
      greatest = desc.greatest;
      suspend_enable = desc.suspend_enable;
      suspend_selector = desc.suspend_selector;
      dropout = desc.dropout;
      ramp = desc.ramp;
      enable_time = desc.enable_time;
    } ≡ kept_core.desc =
    rw (core.table, core.selector, core.enable, core.modes, core.greatest, core.suspend_enable, core.suspend_selector, core.dropout, core.ramp, core.enable_time) refl in
    same

only_limits : (limits : Constraints) → IsCoreLimits limits → limits ≡ kept_core.limits
only_limits limits core =
    let allowed : limits.allowed ≡ kept_core.limits.allowed = ap (λ n. let modes : Modes = record { 0 = n } in modes) core.modes in
    let same : record {
      bounds = limits.bounds;
      always_on = limits.always_on;
      boot_on = limits.boot_on;
      allow_load = limits.allow_load;
      system_load = limits.system_load;
      times = limits.times;
      enable_ramp = limits.enable_ramp;
      allowed = limits.allowed;
      initial = limits.initial;
      max_step = limits.max_step;
      sleeps = limits.sleeps;
    } ≡ kept_core.limits =
    rw (core.bounds, core.always_on, core.boot_on, core.allow_load, core.system_load, core.times, core.enable_ramp, allowed, core.initial, core.max_step, core.sleeps) refl in
    same

-- nor another rail, but for the bytes that its name doesn't use
only_core : (rail : Rail) → IsCore rail → trimmed rail ≡ kept_core
only_core rail core =
    let same : record {
      name = record { bytes = rail.name.bytes; spare = [] };
      desc = rail.desc;
      limits = rail.limits;
      supply = rail.supply;
      group = rail.group;
      changeable = rail.changeable;
      kept_uv = rail.kept_uv;
    } ≡ kept_core =
    rw (core.name, only_desc rail.desc core.desc, only_limits rail.limits core.limits, core.supply, core.group, core.changeable, core.kept_uv) refl in
    same

only_board : (board : Board) → IsDemo board → record board { rails = map trimmed board.rails } ≡ record core_board { rails = kept_core ∷ [] }
only_board board demo =
    let rails : map trimmed board.rails ≡ kept_core ∷ [] = ap (map trimmed) demo.rails ∙ ap (λ rail. rail ∷ []) (only_core demo.core demo.is_core) in
    let same : record {
      rails = map trimmed board.rails;
      spread = board.spread;
      chips = board.chips;
      graph = board.graph;
      order = board.order;
    } ≡ record core_board { rails = kept_core ∷ [] } = rw (rails, demo.spread, demo.chips, demo.graph, demo.order) refl in
    same

only_resets : (drafted : Drafted) → IsDemoDraft drafted → drafted.resets ≡ (0, 0x10, 0x20) ∷ (0, 0x11, 0x20) ∷ (0, 0x30, 0x15) ∷ []
only_resets drafted draft = draft.resets

draft_is_demo : (drafted : Drafted) → IsDemoDraft drafted → IsDemo drafted.board
draft_is_demo drafted draft = draft.board
