-- What a wire is told when the writes of loading are made on it.
use Rattle.std.specs.Prelude.{ℕ, ◌≡◌, ◌+◌, List, map, take, length, slice_get, Some, IfSome}
use Rattle.reg_outside.specs.Count.{Rose}
use Rattle.reg_outside.specs.Bus.{Bus, tried_more}
use Rattle.reg_outside.specs.Plan.{RefusesNoneOfNext}
use Rattle.reg_outside.specs.Told.{with_more}
use Rattle.board.specs.declared.write.Write.{Write}
use Rattle.plain_board.specs.Update.{update_of}

-- the wire took these writes, one after another, and none of them was planned to be refused
pub record Took (before after : Bus) (writes : List Write) : Type 0 where
  pub taken : after.taken ≡ with_more before.taken (map update_of writes)
  pub unplanned : IfSome before.plan (λ plan. RefusesNoneOfNext plan (length writes))

-- it took all of them
pub record TookAll (before after : Bus) (writes : List Write) : Type 0 where
  pub took : Took before after writes
  pub plan : after.plan ≡ tried_more (length writes) before.plan
  pub calm : after.faults ≡ before.faults

-- it took those before this one, and refused it
pub record StoppedAt (before after : Bus) (writes : List Write) (chip reg : ℕ) : Type 0 where
  pub made : ℕ
  pub write : Write
  pub next : slice_get writes made ≡ Some write
  pub place : (write.chip ≡ chip) × (write.reg ≡ reg)
  pub took : Took before after (take made writes)
  pub plan : after.plan ≡ tried_more (made + 1) before.plan
  pub rose : Rose before.faults after.faults
