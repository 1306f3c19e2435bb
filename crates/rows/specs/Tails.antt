-- Where one item of a line ends and the next begins.
use Rattle.std.specs.Prelude.{ℕ, ◌≡◌, ◌⊎◌, List, [], ◌∷◌, decimal, codes}
use Rattle.board.specs.declared.event.Event.{Event}
use Rattle.board.specs.declared.event.Event.TheVariants.{PreVoltageChange, VoltageChange, AbortVoltageChange, Enable, PreDisable, Disable, AbortDisable}
use Rattle.rows.specs.Fits.{FitsEvent}
use Rattle.rows.specs.Words.{spaced}

-- nothing, or what begins with this byte
abbrev pub IsTail : ℕ → List ℕ → Type 0
IsTail byte text = (text ≡ []) ⊎ ((more : List ℕ) × (text ≡ byte ∷ more))

-- the first word of an event, and the values behind it if there are any
abbrev pub event_parts : Event → List (List ℕ)
event_parts (PreVoltageChange old new) = codes "pre-voltage-change" ∷ spaced (decimal old ∷ decimal new ∷ []) ∷ []
event_parts (VoltageChange uv) = codes "voltage-change" ∷ decimal uv ∷ []
event_parts (AbortVoltageChange uv) = codes "abort-voltage-change" ∷ decimal uv ∷ []
event_parts Enable = codes "enable" ∷ []
event_parts PreDisable = codes "pre-disable" ∷ []
event_parts Disable = codes "disable" ∷ []
event_parts AbortDisable = codes "abort-disable" ∷ []

-- the parts are those of this event
pub record IsEvent (event : Event) (parts : List (List ℕ)) : Type 0 where
  pub is : FitsEvent event
  pub spelled : parts ≡ event_parts event
