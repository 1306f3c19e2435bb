-- What the listeners of a rail are told of a call's moves.
use Rattle.std.specs.Prelude.{ℕ, ◌==◌, Bool, List, [], ◌∷◌, if◌then◌else◌}
use Rattle.board.specs.declared.event.Event.{Event}
use Rattle.board.specs.declared.event.Event.TheVariants.{PreVoltageChange, VoltageChange, AbortVoltageChange, Enable, PreDisable, Disable, AbortDisable}
use Rattle.board.specs.declared.part.Part.{Part}
use Rattle.board.specs.declared.part.Part.TheVariants.{Enable as EnableBit}
use Rattle.rail_law.specs.Moves.{Move}

-- a rail's voltage is to change from `before` to `goal` and has come to `now`
abbrev pub voltage_events : ℕ → ℕ → ℕ → List Event
voltage_events before goal now =
    if before == goal then []
    else PreVoltageChange before goal ∷ (if now == goal then VoltageChange now else AbortVoltageChange now) ∷ []

-- a write of an on bit was made, or refused
abbrev pub switch_events : Bool → ℕ → Part → List Event
switch_events made bits EnableBit =
    if bits == 0
    then PreDisable ∷ (if made then Disable else AbortDisable) ∷ []
    else (if made then Enable ∷ [] else [])
switch_events made bits _ = []

-- what a move tells of rail i
abbrev pub events_of_move : ℕ → Bool → Move → List Event
events_of_move i made move = if move.rail.0 == i then switch_events made move.bits move.part else []
