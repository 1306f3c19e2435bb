-- What the wire of the load is told, and when the load is stopped.
use Rattle.std.specs.Prelude.{ℕ, Bool, true, ◌≡◌, ◌+◌, ◌⊎◌, List, map, take, find, length, slice_get, Option, Some, None}
use Rattle.std.specs.List.{range_with_len}
use Rattle.std.specs.Option.{option_map}
use Rattle.reg_outside.specs.Count.{Rose}
use Rattle.board.specs.declared.write.Write.{Write}
use Rattle.plain_board.specs.Update.{update_of}
use Rattle.plain_board.specs.Stops.{Refusals, is_planned}
use Rattle.regulator_main.specs.Wires.{Wires, OthersStay}

-- how many of so many updates are made before the first that is planned to be refused
abbrev pub planned_stop : (ℕ → Bool) → ℕ → Option ℕ
planned_stop planned count = find (λ made. planned (made + 1)) (range_with_len 0 count)

-- the wire of the load took these writes
abbrev pub ToldLoad : List Write → Wires → Wires → Type 0
ToldLoad writes before after = after.lists 0 ≡ option_map (λ _. map update_of writes) (before.lists 0)

-- all writes of the load were made, none of which was planned to be refused
pub record BringsUp (writes : List Write) (refusals : Refusals) (before after : Wires) : Type 0 where
  pub told : ToldLoad writes before after
  pub unplanned : planned_stop (is_planned refusals 0) (length writes) ≡ None
  pub calm : after.counts 0 ≡ before.counts 0
  pub others : OthersStay 0 before after

-- the load was stopped at the update of this register
pub record StopsLoad (writes : List Write) (refusals : Refusals) (chip reg : ℕ) (before after : Wires) : Type 0 where
  pub made : ℕ
  pub write : Write
  pub next : slice_get writes made ≡ Some write
  pub place : (write.chip ≡ chip) × (write.reg ≡ reg)
  -- those before it were made, and none of them was planned to be refused
  pub told : ToldLoad (take made writes) before after
  pub unplanned : planned_stop (is_planned refusals 0) made ≡ None
  -- it was planned to be refused itself, or the lab counted a fault
  pub why : (is_planned refusals 0 (made + 1) ≡ true) ⊎ Rose (before.counts 0) (after.counts 0)
  pub others : OthersStay 0 before after
