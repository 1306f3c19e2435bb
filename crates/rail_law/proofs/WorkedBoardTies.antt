-- The ties of boards worked out by hand.
use Rattle.std.proofs.Common.{◌≡◌, ℕ, true, false, [], ◌∷◌, Some, None, refl}
use Rattle.linear_range.specs.Values.{values}
use Rattle.chip_regs.specs.Registers.{field_of, byte_of}
use Rattle.board.specs.declared.board.Board.{Board}
use Rattle.board.proofs.Boards.{coupled_board, io_rail, usb_rail, battery, supplied_board}
use Rattle.rail_law.specs.Ties.{Tie}
use Rattle.rail_law.specs.BoardTies.{standing_values, dropout_at, spread_ties, dropout_ties, ties_of, is_named, ties_among, ties_at}
use Rattle.rail_law.proofs.Registers.{pair_at, chain_at}

-- the values by the registers
standing_pair : standing_values coupled_board (pair_at 64 47) ≡ 1000000 ∷ 893750 ∷ []
unfolding values field_of byte_of
standing_pair = refl

standing_chain : standing_values supplied_board (chain_at 16 2 0 0) ≡ 1600000 ∷ 1800000 ∷ 5000000 ∷ []
unfolding values field_of byte_of
standing_chain = refl

-- a tie of the first rail to the second, by a spread or by a dropout
abbrev pub at_most_above : ℕ → ℕ → ℕ → Tie
at_most_above i j spread = record { low = i; rise = 0; high = j; fall = spread }

abbrev pub below_by : ℕ → ℕ → ℕ → Tie
below_by i s dropout = record { low = i; rise = dropout; high = s; fall = 0 }

ties_of_pair : ties_of coupled_board ≡ at_most_above 0 1 100000 ∷ at_most_above 1 0 100000 ∷ []
ties_of_pair = refl

-- the ldo is linked to the buck, and the buck isn't to the battery
ties_of_chain : ties_of supplied_board ≡ below_by 1 0 100000 ∷ []
ties_of_chain = refl

-- rails 0 and 2 are coupled in group 1 and rails 1 and 3 in group 0, with spreads of their own; rail 3
-- is linked to rail 0; a dropout without a link ties nothing
abbrev crossed : Board
crossed = record supplied_board {
  rails = io_rail ∷ usb_rail ∷ battery ∷ record usb_rail { desc = record usb_rail.desc { dropout = 30 } } ∷ [];
  spread = 70 ∷ 20 ∷ [];
  graph = record { supply = None ∷ Some 0 ∷ None ∷ Some 0 ∷ []; group = 1 ∷ 0 ∷ 1 ∷ 0 ∷ []; link = false ∷ false ∷ false ∷ true ∷ [] };
}

spread_of_group : spread_ties crossed 0 ≡ at_most_above 0 2 20 ∷ []
spread_of_group = refl

spread_of_other : spread_ties crossed 3 ≡ at_most_above 3 1 70 ∷ []
spread_of_other = refl

spread_of_lone : spread_ties supplied_board 0 ≡ []
spread_of_lone = refl

no_rail_no_spread : spread_ties coupled_board 2 ≡ []
no_rail_no_spread = refl

dropout_of_last : dropout_at crossed 3 ≡ 30
dropout_of_last = refl

no_rail_no_dropout : dropout_at crossed 4 ≡ 0
no_rail_no_dropout = refl

linked_by_dropout : dropout_ties crossed 3 ≡ below_by 3 0 30 ∷ []
linked_by_dropout = refl

dropout_without_link : dropout_ties crossed 1 ≡ []
dropout_without_link = refl

ties_of_crossed : ties_of crossed ≡ at_most_above 0 2 20 ∷ at_most_above 1 3 70 ∷ at_most_above 2 0 20 ∷ at_most_above 3 1 70 ∷ below_by 3 0 30 ∷ []
ties_of_crossed = refl

-- a tie names the rail that it holds low, and the one that it holds high
names_low : is_named (below_by 3 0 30) 3 ≡ true
names_low = refl

names_high : is_named (below_by 3 0 30) 0 ≡ true
names_high = refl

names_no_other : is_named (below_by 3 0 30) 30 ≡ false
names_no_other = refl

low_among : ties_among (3 ∷ []) (below_by 3 0 30 ∷ at_most_above 2 0 20 ∷ []) ≡ below_by 3 0 30 ∷ []
low_among = refl

high_among : ties_among (0 ∷ []) (below_by 3 1 30 ∷ at_most_above 2 0 20 ∷ []) ≡ at_most_above 2 0 20 ∷ []
high_among = refl

-- each of the pair moves with the other, and both ties bind them
ties_at_first : ties_at coupled_board 0 ≡ at_most_above 0 1 100000 ∷ at_most_above 1 0 100000 ∷ []
ties_at_first = refl

-- the ldo's dropout binds it and the buck, which moves without it, and not the battery
ties_at_ldo : ties_at supplied_board 1 ≡ below_by 1 0 100000 ∷ []
ties_at_ldo = refl

ties_at_buck : ties_at supplied_board 0 ≡ below_by 1 0 100000 ∷ []
ties_at_buck = refl

ties_at_battery : ties_at supplied_board 2 ≡ []
ties_at_battery = refl

-- with the last rail moves rail 1, which it is coupled with, and rails 0 and 2, since it is linked to rail 0;
-- with rail 0 move no rails but 0 and 2
ties_at_last : ties_at crossed 3 ≡ ties_of crossed
ties_at_last = refl

ties_at_supply : ties_at crossed 2 ≡ at_most_above 0 2 20 ∷ at_most_above 2 0 20 ∷ below_by 3 0 30 ∷ []
ties_at_supply = refl
