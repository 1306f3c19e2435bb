-- Gaps, and what is told of them, worked out by hand.
use Rattle.std.proofs.Common.{◌≡◌, ℕ, true, false, [], ◌∷◌, Some, None, refl}
use Rattle.std.specs.Prelude.{codes}
use Rattle.linear_range.specs.Values.{values}
use Rattle.board.specs.declared.board.Board.{Board}
use Rattle.board.specs.declared.rail.Rail.{Rail}
use Rattle.board.proofs.Boards.{buck, ldo, usb_table, rail_of, coupled_board, supplied_board, gaping_board, first_buck, second_buck, low_rail, high_rail}
use Rattle.board_checks.specs.declared.fault.CheckFault.TheVariants.{GapOverSpread, GapOverStep}
use Rattle.board_checks.specs.Rails.{are_coupled, is_coupled, spread_at}
use Rattle.board_checks.specs.Gaps.{gap_above, widest_gap}
use Rattle.board_checks.specs.GapFault.{gap_at, step_at, gap_fault}

-- from a value to the next one, in any order
next_of_first : gap_above (130 ∷ 0 ∷ 100 ∷ []) 0 ≡ Some 100
next_of_first = refl

next_of_second : gap_above (130 ∷ 0 ∷ 100 ∷ []) 100 ≡ Some 30
next_of_second = refl

next_of_last : gap_above (130 ∷ 0 ∷ 100 ∷ []) 130 ≡ None
next_of_last = refl

-- the widest gap
of_three : widest_gap (0 ∷ 100 ∷ 130 ∷ []) ≡ 100
of_three = refl

of_any_order : widest_gap (30 ∷ 10 ∷ 25 ∷ []) ≡ 15
of_any_order = refl

of_one_twice : widest_gap (7 ∷ 7 ∷ []) ≡ 0
of_one_twice = refl

of_none : widest_gap [] ≡ 0
of_none = refl

-- which rails are coupled, and how far they may differ
coupled_pair : are_coupled coupled_board.graph 0 1 ≡ true
coupled_pair = refl

not_with_itself : are_coupled coupled_board.graph 0 0 ≡ false
not_with_itself = refl

not_coupled : is_coupled supplied_board.graph 0 ≡ false
not_coupled = refl

coupled : is_coupled coupled_board.graph 1 ≡ true
coupled = refl

no_such_rail : is_coupled coupled_board.graph 2 ≡ false
no_such_rail = refl

spread_of_pair : spread_at coupled_board 1 ≡ 100000
spread_of_pair = refl

spread_of_none : spread_at coupled_board 2 ≡ 0
spread_of_none = refl

-- A {0, 100} and B {30, 130}, coupled with a spread of 40
a_gapes : gap_fault gaping_board ≡ Some (GapOverSpread 0 100 40)
a_gapes = refl

wide_enough : gap_fault (record gaping_board { spread = 100 ∷ [] }) ≡ None
wide_enough = refl

just_too_wide : gap_fault (record gaping_board { spread = 99 ∷ [] }) ≡ Some (GapOverSpread 0 100 99)
just_too_wide = refl

-- the second rail alone gapes

b_gapes : gap_fault (record gaping_board { rails = rail_of (codes "a") (buck 0 usb_table 0x07) 1200000 1500000 None 0 ∷ rail_of (codes "b") (buck 1 usb_table 0x07) 1800000 2500000 None 0 ∷ []; spread = 300000 ∷ [] })
    ≡ Some (GapOverSpread 1 700000 300000)
b_gapes = refl

-- the spread is that of the rails' group
second_group : gap_fault (record gaping_board {
  rails = record low_rail { group = 1 } ∷ record high_rail { group = 1 } ∷ [];
  spread = 1000 ∷ 40 ∷ [];
  graph = record gaping_board.graph { group = 1 ∷ 1 ∷ [] };
}) ≡ Some (GapOverSpread 0 100 40)
second_group = refl

-- a rail by itself is bound by no spread
by_itself : gap_fault (record gaping_board { graph = record gaping_board.graph { group = 0 ∷ 1 ∷ [] }; spread = 40 ∷ 40 ∷ [] }) ≡ None
by_itself = refl

-- two bucks that change by 6250 µV
bucks : gap_fault coupled_board ≡ None
unfolding values
bucks = refl

bucks_at_6249 : gap_fault (record coupled_board { spread = 6249 ∷ [] }) ≡ Some (GapOverSpread 0 6250 6249)
unfolding values
bucks_at_6249 = refl

bucks_at_6250 : gap_fault (record coupled_board { spread = 6250 ∷ [] }) ≡ None
unfolding values
bucks_at_6250 = refl

-- a rail with a greatest step
abbrev stepping : ℕ → Rail → Rail
stepping n rail = record rail { limits = record rail.limits { max_step = n } }

abbrev second_steps : ℕ → Board
second_steps n = record coupled_board { rails = first_buck ∷ stepping n second_buck ∷ [] }

step_of_0 : gap_fault (second_steps 0) ≡ None
unfolding values
step_of_0 = refl

step_of_6249 : gap_fault (second_steps 6249) ≡ Some (GapOverStep 1 6250 6249)
unfolding values
step_of_6249 = refl

step_of_6250 : gap_fault (second_steps 6250) ≡ None
unfolding values
step_of_6250 = refl

-- the step of a rail by itself counts as well
lone_step : gap_fault (record gaping_board { rails = stepping 99 low_rail ∷ high_rail ∷ []; graph = record gaping_board.graph { group = 0 ∷ 1 ∷ [] }; spread = 0 ∷ 0 ∷ [] })
    ≡ Some (GapOverStep 0 100 99)
lone_step = refl

-- a gap above the spread is told before one above a step, also where the step's rail is the lesser one
both_at_one : gap_fault (record gaping_board { rails = stepping 20 low_rail ∷ high_rail ∷ [] }) ≡ Some (GapOverSpread 0 100 40)
both_at_one = refl

spread_first : gap_fault (record gaping_board {
  rails = stepping 20 low_rail ∷ record low_rail { group = 1 } ∷ record high_rail { group = 1 } ∷ [];
  spread = 0 ∷ 40 ∷ [];
  graph = record { supply = None ∷ None ∷ None ∷ []; group = 0 ∷ 1 ∷ 1 ∷ []; link = false ∷ false ∷ false ∷ [] };
}) ≡ Some (GapOverSpread 1 100 40)
spread_first = refl

-- a rail that isn't changeable has one value
still : gap_fault (record gaping_board { rails = stepping 20 (record low_rail { changeable = false }) ∷ record high_rail { changeable = false } ∷ [] }) ≡ None
still = refl

-- 1200000, 1500000, 1800000, 2500000, 2800000, 3000000, 3200000 and 3300000, within bounds
abbrev usb_within : ℕ → ℕ → ℕ → Board
usb_within low high step = record {
  rails = stepping step (rail_of (codes "usb") (ldo 3 usb_table 0x07) low high None 0) ∷ [];
  spread = 0 ∷ [];
  chips = 1;
  graph = record { supply = None ∷ []; group = 0 ∷ []; link = false ∷ [] };
  order = 0 ∷ [];
}

usb_whole : gap_fault (usb_within 1200000 3300000 300000) ≡ Some (GapOverStep 0 700000 300000)
usb_whole = refl

usb_wide_step : gap_fault (usb_within 1200000 3300000 700000) ≡ None
usb_wide_step = refl

usb_below : gap_at (usb_within 1200000 2499999 1) 0 ≡ 300000
usb_below = refl

usb_above : gap_at (usb_within 1800001 3300000 1) 0 ≡ 300000
usb_above = refl

usb_top : gap_fault (usb_within 2800000 3300000 199999) ≡ Some (GapOverStep 0 200000 199999)
usb_top = refl

-- what a rail that isn't there has
no_gap : gap_at gaping_board 2 ≡ 0
no_gap = refl

no_step : step_at gaping_board 2 ≡ 0
no_step = refl
