-- The law on registers worked out by hand: which ones keep it, and which break one clause of it alone.
use Rattle.std.proofs.Common.{◌≡◌, ℕ, zero, suc, ◌+◌, ◌<◌, ◌≤◌, true, List, Some, refl, sym, ◌∙◌, subst, arith, slice_get}
use Rattle.std.specs.Prelude.{IfSome, nat_eq}
use Rattle.std.specs.List.{list_any, list_all}
use Rattle.std.proofs.lemmas.Option.{same_Some, slice_get_within, get_or_from_slice_get}
use Rattle.std.proofs.lemmas.List.Elements.{All-from_recursion}
use Rattle.std.proofs.lemmas.List.Sums.{AllPass-from_list_all}
use Rattle.linear_range.specs.Values.{values}
use Rattle.chip_regs.specs.Registers.{field_of, byte_of}
use Rattle.board_graph.specs.Graph.{Supplies, AreCoupled}
use Rattle.board_graph.proofs.FailsBy.{FailsBy}
use Rattle.board.specs.declared.board.Board.{Board}
use Rattle.board.specs.declared.rail.Rail.{Rail}
use Rattle.board.specs.Rail.{uv, is_on, allowed}
use Rattle.board.specs.Valid.{IsGraphOf}
use Rattle.board.proofs.Boards.{first_buck, second_buck, coupled_board, io_rail, usb_rail, battery, supplied_board}
use Rattle.rail_law.specs.Ties.{KeepsAll}
use Rattle.rail_law.specs.BoardTies.{standing_values, ties_of}
use Rattle.rail_law.specs.Law.{StandAllowed, KeepSpreads, HaveSuppliesOn, KeepDropouts, Law}
use Rattle.rail_law.proofs.Registers.{pair_at, chain_at}
use Rattle.rail_law.proofs.LawByTies.{law_by_ties_lem}

-- each rail stands at a value that it may stand at, by a test
stand_well : (board : Board) (regs : List (List ℕ)) → list_all (λ rail. list_any (nat_eq (uv rail regs)) (allowed rail)) board.rails ≡ true → StandAllowed board regs
stand_well board regs all i a is =
    subst (λ rail. list_any (nat_eq (uv rail regs)) (allowed rail) ≡ true) (get_or_from_slice_get board.rails i a a is)
    (AllPass-from_list_all (λ rail. list_any (nat_eq (uv rail regs)) (allowed rail)) board.rails all i a (slice_get_within board.rails i a is))

abbrev supply_below : ℕ → Rail → Type 0
supply_below n rail = IfSome rail.supply (λ s. s.0 < n)

abbrev has_spread : ℕ → Rail → Type 0
has_spread n rail = rail.group < n

-- the two bucks: spreads by their ties, and no supplies
pair_graph : IsGraphOf coupled_board
pair_graph = record { supplies = refl; groups = refl; links = refl; rails = All-from_recursion (supply_below 2) coupled_board.rails (tt, (tt, tt)) }

pair_by_ties : (regs : List (List ℕ)) → KeepsAll (standing_values coupled_board regs) (ties_of coupled_board) → KeepSpreads coupled_board regs
pair_by_ties regs keeps =
    ((law_by_ties_lem coupled_board regs pair_graph (All-from_recursion (has_spread 1) coupled_board.rails (omega arith, (omega arith, tt)))).1 keeps).0

none_supplied : (upper lower : ℕ) → ¬ Supplies coupled_board.graph upper lower
none_supplied upper zero is = cc
none_supplied upper (suc zero) is = cc
none_supplied upper (suc (suc lower)) is = cc

pair_supplies : (regs : List (List ℕ)) → HaveSuppliesOn coupled_board regs
pair_supplies regs upper lower a b supplies = absurd (none_supplied upper lower supplies)

pair_dropouts : (regs : List (List ℕ)) → KeepDropouts coupled_board regs
pair_dropouts regs upper lower a b supplies = absurd (none_supplied upper lower supplies)

-- 1000000 and 900000 µV are 100000 µV apart, as much as they may be; both are off, as is no matter
pair_stands : StandAllowed coupled_board (pair_at 64 48)
unfolding values field_of byte_of
pair_stands = stand_well coupled_board (pair_at 64 48) refl

pair_spreads : KeepSpreads coupled_board (pair_at 64 48)
unfolding values field_of byte_of
pair_spreads = pair_by_ties (pair_at 64 48) refl

pub pair_lawful : Law coupled_board (pair_at 64 48)
pair_lawful = record { values = pair_stands; spreads = pair_spreads; supplies = pair_supplies (pair_at 64 48); dropouts = pair_dropouts (pair_at 64 48) }

-- the second at 893750 µV is 106250 below the first
too_far_stands : StandAllowed coupled_board (pair_at 64 47)
unfolding values field_of byte_of
too_far_stands = stand_well coupled_board (pair_at 64 47) refl

first_too_high : ¬ (uv first_buck (pair_at 64 47) ≤ uv second_buck (pair_at 64 47) + 100000)
unfolding values field_of byte_of
first_too_high is = let h : 1000000 ≤ 893750 + 100000 = is in absurd (omega arith)

pub too_far : FailsBy (KeepSpreads coupled_board (pair_at 64 47)) (Law coupled_board (pair_at 64 47))
too_far = record {
  needs = λ law. law.spreads;
  suffices = λ spreads. record { values = too_far_stands; spreads = spreads; supplies = pair_supplies (pair_at 64 47); dropouts = pair_dropouts (pair_at 64 47) };
  fails = λ spreads. first_too_high (spreads 0 1 0 100000 first_buck second_buck (record { apart = λ same. absurd (omega arith); block = record { group = 0; first = refl; second = refl } }) refl refl refl refl);
}

-- the first at 793750 µV is below its bounds
low_spreads : KeepSpreads coupled_board (pair_at 31 32)
unfolding values field_of byte_of
low_spreads = pair_by_ties (pair_at 31 32) refl

first_too_low : ¬ (list_any (nat_eq (uv first_buck (pair_at 31 32))) (allowed first_buck) ≡ true)
unfolding values field_of byte_of
first_too_low is = cc

out_of_bounds : FailsBy (StandAllowed coupled_board (pair_at 31 32)) (Law coupled_board (pair_at 31 32))
out_of_bounds = record {
  needs = λ law. law.values;
  suffices = λ stand. record { values = stand; spreads = low_spreads; supplies = pair_supplies (pair_at 31 32); dropouts = pair_dropouts (pair_at 31 32) };
  fails = λ stand. first_too_low (stand 0 first_buck refl);
}

-- the battery, the buck and the ldo: no spreads, and the dropout by its tie
chain_graph : IsGraphOf supplied_board
chain_graph = record { supplies = refl; groups = refl; links = refl; rails = All-from_recursion (supply_below 3) supplied_board.rails (omega arith, (omega arith, (tt, tt))) }

chain_by_ties : (regs : List (List ℕ)) → KeepsAll (standing_values supplied_board regs) (ties_of supplied_board) → KeepSpreads supplied_board regs × KeepDropouts supplied_board regs
chain_by_ties regs keeps =
    (law_by_ties_lem supplied_board regs chain_graph (All-from_recursion (has_spread 3) supplied_board.rails (omega arith, (omega arith, (omega arith, tt))))).1 keeps

-- where supplies are on if what they supply is
chain_supplies : (regs : List (List ℕ)) → (is_on io_rail regs ≡ true → is_on battery regs ≡ true) → (is_on usb_rail regs ≡ true → is_on io_rail regs ≡ true) → HaveSuppliesOn supplied_board regs
chain_supplies regs first second upper zero a b supplies a_is b_is on =
    let upper_is : 2 ≡ upper = same_Some 2 upper supplies in
    let a_same : battery ≡ a = same_Some battery a (subst (λ u. slice_get supplied_board.rails u ≡ Some a) (sym upper_is) a_is) in
    subst (λ (rail : Rail). is_on rail regs ≡ true) a_same (first (subst (λ (rail : Rail). is_on rail regs ≡ true) (sym (same_Some io_rail b b_is)) on))
chain_supplies regs first second upper (suc zero) a b supplies a_is b_is on =
    let upper_is : 0 ≡ upper = same_Some 0 upper supplies in
    let a_same : io_rail ≡ a = same_Some io_rail a (subst (λ u. slice_get supplied_board.rails u ≡ Some a) (sym upper_is) a_is) in
    subst (λ (rail : Rail). is_on rail regs ≡ true) a_same (second (subst (λ (rail : Rail). is_on rail regs ≡ true) (sym (same_Some usb_rail b b_is)) on))
chain_supplies regs first second upper (suc (suc zero)) a b supplies a_is b_is on = absurd (cc)
chain_supplies regs first second upper (suc (suc (suc lower))) a b supplies a_is b_is on = absurd (cc)

-- the buck at 1900000 µV and the ldo at 1800000, by its dropout below; all are on
all_on_stand : StandAllowed supplied_board (chain_at 19 2 0x0c 1)
unfolding values field_of byte_of
all_on_stand = stand_well supplied_board (chain_at 19 2 0x0c 1) refl

all_on_ties : KeepsAll (standing_values supplied_board (chain_at 19 2 0x0c 1)) (ties_of supplied_board)
unfolding values field_of byte_of
all_on_ties = refl

all_on_supplies : HaveSuppliesOn supplied_board (chain_at 19 2 0x0c 1)
unfolding field_of byte_of
all_on_supplies = chain_supplies (chain_at 19 2 0x0c 1) (λ on. refl) (λ on. refl)

chain_lawful : Law supplied_board (chain_at 19 2 0x0c 1)
chain_lawful =
    let both = chain_by_ties (chain_at 19 2 0x0c 1) all_on_ties in
    record { values = all_on_stand; spreads = both.0; supplies = all_on_supplies; dropouts = both.1 }

-- the ldo is on and the buck is off
buck_off_stand : StandAllowed supplied_board (chain_at 19 2 0x08 1)
unfolding values field_of byte_of
buck_off_stand = stand_well supplied_board (chain_at 19 2 0x08 1) refl

buck_off_ties : KeepsAll (standing_values supplied_board (chain_at 19 2 0x08 1)) (ties_of supplied_board)
unfolding values field_of byte_of
buck_off_ties = refl

ldo_is_on : is_on usb_rail (chain_at 19 2 0x08 1) ≡ true
unfolding field_of byte_of
ldo_is_on = refl

buck_is_off : ¬ (is_on io_rail (chain_at 19 2 0x08 1) ≡ true)
unfolding field_of byte_of
buck_is_off is = cc

supply_off : FailsBy (HaveSuppliesOn supplied_board (chain_at 19 2 0x08 1)) (Law supplied_board (chain_at 19 2 0x08 1))
supply_off = record {
  needs = λ law. law.supplies;
  suffices = λ supplies. let both = chain_by_ties (chain_at 19 2 0x08 1) buck_off_ties in record { values = buck_off_stand; spreads = both.0; supplies = supplies; dropouts = both.1 };
  fails = λ supplies. buck_is_off (supplies 0 1 io_rail usb_rail refl refl refl ldo_is_on);
}

-- the buck at 1800000 µV isn't above the ldo, though all is off
no_room_stands : StandAllowed supplied_board (chain_at 18 2 0 0)
unfolding values field_of byte_of
no_room_stands = stand_well supplied_board (chain_at 18 2 0 0) refl

no_room_supplies : HaveSuppliesOn supplied_board (chain_at 18 2 0 0)
unfolding field_of byte_of
no_room_supplies = chain_supplies (chain_at 18 2 0 0) (λ on. cc) (λ on. cc)

none_coupled : (i j : ℕ) → ¬ AreCoupled supplied_board.graph i j
none_coupled i j coupled = apart i j coupled.block.group coupled.block.first coupled.block.second coupled.apart where
  group_is : (k group : ℕ) → slice_get supplied_board.graph.group k ≡ Some group → k ≡ group
  group_is zero group is = same_Some 0 group is
  group_is (suc zero) group is = same_Some 1 group is
  group_is (suc (suc zero)) group is = same_Some 2 group is
  group_is (suc (suc (suc k))) group is = absurd (cc)

  apart : (i j group : ℕ) → slice_get supplied_board.graph.group i ≡ Some group → slice_get supplied_board.graph.group j ≡ Some group → (i ≡ j → ⊥) → ⊥
  apart i j group first second differ = differ (group_is i group first ∙ sym (group_is j group second))

no_room_between : ¬ (uv usb_rail (chain_at 18 2 0 0) + usb_rail.desc.dropout ≤ uv io_rail (chain_at 18 2 0 0))
unfolding values field_of byte_of
no_room_between is = let h : 1800000 + 100000 ≤ 1800000 = is in absurd (omega arith)

no_room : FailsBy (KeepDropouts supplied_board (chain_at 18 2 0 0)) (Law supplied_board (chain_at 18 2 0 0))
no_room = record {
  needs = λ law. law.dropouts;
  suffices = λ dropouts. record { values = no_room_stands; spreads = λ i j group spread a b coupled. absurd (none_coupled i j coupled); supplies = no_room_supplies; dropouts = dropouts };
  fails = λ dropouts. no_room_between (dropouts 0 1 io_rail usb_rail refl refl refl refl);
}
