-- Values of suspended boards, and what is told of them, worked out by hand.
use Rattle.std.proofs.Common.{◌≡◌, ℕ, Bool, true, false, List, [], ◌∷◌, Option, Some, None, refl}
use Rattle.board.specs.declared.board.Board.{Board}
use Rattle.board.specs.declared.rail.Rail.{Rail}
use Rattle.board.specs.declared.sleep.Sleep.{Sleep}
use Rattle.board.proofs.Boards.{coupled_board, first_buck, second_buck}
use Rattle.board_checks.specs.declared.fault.CheckFault.TheVariants.{SuspendSpread}
use Rattle.board_checks.specs.Asleep.{asleep, asleep_at, are_apart, pairs_of, suspend_fault}

abbrev at : Option Bool → ℕ → Option Sleep
at on uv = Some (record { on = on; uv = Some uv })

-- a rail that is to be off has no value, and any other has the one that is given
not_given : asleep None ≡ None
not_given = refl

either : asleep (at None 5) ≡ Some 5
either = refl

on : asleep (at (Some true) 5) ≡ Some 5
on = refl

off : asleep (at (Some false) 5) ≡ None
off = refl

no_value : asleep (Some (record { on = Some true; uv = None })) ≡ None
no_value = refl

-- apart by the spread and by one more, in both orders
by_spread : are_apart 100 (Some 900) (Some 1000) ≡ false
by_spread = refl

by_more : are_apart 100 (Some 900) (Some 1001) ≡ true
by_more = refl

by_less : are_apart 100 (Some 1001) (Some 900) ≡ true
by_less = refl

first_missing : are_apart 100 None (Some 1000) ≡ false
first_missing = refl

second_missing : are_apart 100 (Some 1000) None ≡ false
second_missing = refl

-- pairs by the first and then by the second
pairs_of_2 : pairs_of 2 ≡ (0, 0) ∷ (0, 1) ∷ (1, 0) ∷ (1, 1) ∷ []
pairs_of_2 = refl

-- rails with values in the states standby, mem and disk
abbrev sleeping : Option Sleep → Option Sleep → Option Sleep → Rail → Rail
sleeping standby mem disk rail = record rail { limits = record rail.limits { sleeps = standby ∷ mem ∷ disk ∷ [] } }

abbrev pair : Rail → Rail → Board
pair first second = record coupled_board { rails = first ∷ second ∷ [] }

abbrev in_mem : ℕ → Rail → Rail
in_mem uv rail = sleeping None (at None uv) None rail

in_standby_alone : asleep_at (pair (sleeping (at None 7) None None first_buck) second_buck) 0 0 ≡ Some 7
in_standby_alone = refl

none_in_mem : asleep_at (pair (sleeping (at None 7) None None first_buck) second_buck) 1 0 ≡ None
none_in_mem = refl

no_such_rail : asleep_at (pair (in_mem 7 first_buck) second_buck) 1 2 ≡ None
no_such_rail = refl

-- two rails that are coupled with a spread of 100000 µV
none_given : suspend_fault coupled_board ≡ None
none_given = refl

at_spread : suspend_fault (pair (in_mem 800000 first_buck) (in_mem 900000 second_buck)) ≡ None
at_spread = refl

above_spread : suspend_fault (pair (in_mem 800000 first_buck) (in_mem 900001 second_buck)) ≡ Some (SuspendSpread 0 1)
above_spread = refl

below_spread : suspend_fault (pair (in_mem 900001 first_buck) (in_mem 800000 second_buck)) ≡ Some (SuspendSpread 0 1)
below_spread = refl

-- one of them off
one_off : suspend_fault (pair (in_mem 800000 first_buck) (sleeping None (at (Some false) 900001) None second_buck)) ≡ None
one_off = refl

one_on : suspend_fault (pair (in_mem 800000 first_buck) (sleeping None (at (Some true) 900001) None second_buck)) ≡ Some (SuspendSpread 0 1)
one_on = refl

-- in different states, and in each state alone
in_two_states : suspend_fault (pair (sleeping (at None 800000) None None first_buck) (in_mem 900001 second_buck)) ≡ None
in_two_states = refl

in_standby : suspend_fault (pair (sleeping (at None 800000) None None first_buck) (sleeping (at None 900001) None None second_buck)) ≡ Some (SuspendSpread 0 1)
in_standby = refl

in_disk : suspend_fault (pair (sleeping None None (at None 800000) first_buck) (sleeping None None (at None 900001) second_buck)) ≡ Some (SuspendSpread 0 1)
in_disk = refl

-- where a rail keeps no selector for a suspended board, its value counts as well
without_selector : suspend_fault (pair (record (in_mem 800000 first_buck) { desc = record first_buck.desc { suspend_selector = None } }) (in_mem 900001 second_buck)) ≡ Some (SuspendSpread 0 1)
without_selector = refl

-- rails that aren't coupled
apart_alone : suspend_fault (record (pair (in_mem 800000 first_buck) (in_mem 900001 second_buck)) {
  graph = record coupled_board.graph { group = 0 ∷ 1 ∷ [] };
  spread = 0 ∷ 0 ∷ [];
}) ≡ None
apart_alone = refl

-- three rails
abbrev three : List ℕ → List ℕ → Rail → Rail → Rail → Board
three groups spreads first second third = record coupled_board {
  rails = first ∷ second ∷ third ∷ [];
  spread = spreads;
  graph = record { supply = None ∷ None ∷ None ∷ []; group = groups; link = false ∷ false ∷ false ∷ [] };
}

last_two : suspend_fault (three (0 ∷ 1 ∷ 1 ∷ []) (0 ∷ 100 ∷ []) (in_mem 0 first_buck) (in_mem 500 second_buck) (in_mem 700 second_buck)) ≡ Some (SuspendSpread 1 2)
last_two = refl

-- of several pairs the least one: 0 and 2 before 1 and 2
least_pair : suspend_fault (three (0 ∷ 0 ∷ 0 ∷ []) (100 ∷ []) (in_mem 450 first_buck) (in_mem 500 second_buck) (in_mem 700 second_buck)) ≡ Some (SuspendSpread 0 2)
least_pair = refl
