-- Scripts on rails that supply each other, played by hand: a battery, a buck, and an ldo that is to
-- stand 100000 µV below the buck.
use Rattle.std.specs.Prelude.{◌≡◌, ℕ, true, false, List, [], ◌∷◌, length, take, Some, None, codes}
use Rattle.std.specs.Fmt.{digits}
use Rattle.std.proofs.Common.{refl}
use Rattle.linear_range.specs.Values.{values}
use Rattle.ramp_delay.specs.Times.{time_of}
use Rattle.chip_regs.specs.Registers.{with_byte, byte_of, with_field, field_of}
use Rattle.board.specs.declared.write.Write.{Write}
use Rattle.board.proofs.Boards.{supplied_board}
use Rattle.rail_law.specs.Moves.{writes_of}
use Rattle.rows.specs.declared.answer.Answer.{Answer}
use Rattle.rows.specs.declared.answer.Answer.TheVariants.{Ok, OkTime, OkSet, OkUv, OkOn, OkList, OkYes, NoValue, Unbalanced, Fault}
use Rattle.rows.specs.declared.call.Call.{Call}
use Rattle.rows.specs.declared.call.Call.TheVariants.{Open, Enable, Disable, Set, Get, IsOn, ListSel, Supported}
use Rattle.plain_board.specs.declared.plain.Plain.{Plain}
use Rattle.plain_board.specs.Answer.{plan}
use Rattle.plain_board.specs.Text.{summary_text}
use Rattle.plain_board.proofs.Played.{Turn, asks, cut_after, answers, played, rail, lines, a, b, chip_with}
use Rattle.plain_board.proofs.PlayedBoards.{chain_plain, lone_chain_board, lone_chain_plain, fork_board, fork_plain}

abbrev open_a : Turn
open_a = asks (Open a (rail 1) false)

abbrev open_b : Turn
open_b = asks (Open b (rail 0) false)

abbrev chain_answers : List Turn → List Answer
chain_answers turns = answers supplied_board chain_plain turns

abbrev chain_after : List Turn → Plain
chain_after turns = played supplied_board chain_plain turns

-- the board after a script, in words
abbrev chain_text : List Turn → List ℕ
chain_text turns = summary_text supplied_board (chain_after turns) 1 (length turns)

-- the buck goes up to 1900000 µV with the ldo, and comes back
abbrev up_and_back : List Turn
up_and_back = open_a ∷ asks (Set a 1800000 1800000) ∷ asks (Set a 1200000 1200000) ∷ []

went_up_and_back : chain_answers up_and_back ≡ Ok ∷ OkSet 1800000 60 ∷ OkSet 1200000 60 ∷ []
unfolding with_byte byte_of with_field field_of values time_of
went_up_and_back = refl

stands_up : chain_text (take 2 up_and_back)
    ≡ lines (codes "rail buck3 off 1900000 normal use 0 enables 0" ∷ codes "rail ldo1 off 1800000 normal use 0 enables 0" ∷ codes "rail vbat off 5000000 normal use 0 enables 0" ∷ codes "done 1 2" ∷ [])
unfolding with_byte byte_of with_field field_of values digits time_of
stands_up = refl

stands_back : chain_text up_and_back
    ≡ lines (codes "rail buck3 off 1300000 normal use 0 enables 0" ∷ codes "rail ldo1 off 1200000 normal use 0 enables 0" ∷ codes "rail vbat off 5000000 normal use 0 enables 0" ∷ codes "done 1 3" ∷ [])
unfolding with_byte byte_of with_field field_of values digits time_of
stands_back = refl

-- the ldo can't go where the buck may not follow, and the buck not where the ldo would have to leave
buck_held : chain_answers (open_a ∷ open_b ∷ asks (Set b 1000000 1850000) ∷ asks (Set a 1800000 1800000) ∷ []) ≡ Ok ∷ Ok ∷ OkSet 1300000 0 ∷ NoValue ∷ []
unfolding with_byte byte_of with_field field_of values time_of
buck_held = refl

ldo_stays : chain_answers (open_b ∷ asks (Set b 1000000 1250000) ∷ asks (Set b 1000000 1350000) ∷ []) ≡ Ok ∷ NoValue ∷ OkSet 1300000 0 ∷ []
unfolding with_byte byte_of with_field field_of values time_of
ldo_stays = refl

-- a buck that is kept where it is doesn't follow, and can't be set elsewhere
abbrev kept_buck : List Turn
kept_buck = open_a ∷ open_b ∷ asks (Set a 1800000 1800000) ∷ asks (Get b) ∷ asks (Set b 1400000 1600000) ∷ asks (Set b 1600000 1700000) ∷ asks (Supported b 1600000 1700000) ∷ asks (ListSel b 14) ∷ asks (ListSel b 16) ∷ []

buck_is_kept : answers lone_chain_board lone_chain_plain kept_buck
    ≡ Ok ∷ Ok ∷ OkSet 1800000 0 ∷ OkUv 1500000 ∷ OkSet 1500000 0 ∷ NoValue ∷ OkYes false ∷ OkList (Some 1500000) ∷ OkList None ∷ []
unfolding with_byte byte_of with_field field_of values time_of
buck_is_kept = refl

-- the second enable and the first disable write nothing; then the whole chain goes off again
abbrev on_and_off : List Turn
on_and_off = open_a ∷ asks (Enable a) ∷ asks (Enable a) ∷ asks (Disable a) ∷ asks (Disable a) ∷ asks (Disable a) ∷ []

went_on_and_off : chain_answers on_and_off ≡ Ok ∷ OkTime 150 ∷ OkTime 0 ∷ Ok ∷ Ok ∷ Unbalanced 0 ∷ []
unfolding with_byte byte_of with_field field_of values time_of
went_on_and_off = refl

all_on : chain_text (take 3 on_and_off)
    ≡ lines (codes "rail buck3 on 1300000 normal use 1 enables 0" ∷ codes "rail ldo1 on 1200000 normal use 2 enables 2" ∷ codes "rail vbat on 5000000 normal use 1 enables 0" ∷ codes "done 1 3" ∷ [])
unfolding with_byte byte_of with_field field_of values digits time_of
all_on = refl

all_off : chain_text on_and_off
    ≡ lines (codes "rail buck3 off 1300000 normal use 0 enables 0" ∷ codes "rail ldo1 off 1200000 normal use 0 enables 0" ∷ codes "rail vbat off 5000000 normal use 0 enables 0" ∷ codes "done 1 6" ∷ [])
unfolding with_byte byte_of with_field field_of values digits time_of
all_off = refl

-- the battery goes on first and off last
abbrev bit_write : ℕ → ℕ → ℕ → ℕ → Write
bit_write chip reg mask bits = record { chip = chip; reg = reg; mask = mask; bits = bits }

abbrev writes_next : List Turn → Call → List Write
writes_next turns call = writes_of supplied_board (plan supplied_board (chain_after turns) 1 call)

on_from_above : writes_next (open_a ∷ []) (Enable a) ≡ bit_write 1 0 1 1 ∷ bit_write 0 0x20 4 4 ∷ bit_write 0 0x20 8 8 ∷ []
unfolding with_byte byte_of with_field field_of values time_of
on_from_above = refl

off_from_below : writes_next (open_a ∷ asks (Enable a) ∷ []) (Disable a) ≡ bit_write 0 0x20 8 0 ∷ bit_write 0 0x20 4 0 ∷ bit_write 1 0 1 0 ∷ []
unfolding with_byte byte_of with_field field_of values time_of
off_from_below = refl

-- where the ldo itself is off, no supply of it goes off, though nothing uses it
abbrev off_already : Plain
off_already = record chain_plain {
  regs = chip_with ((0x12, 10) ∷ (0x20, 4) ∷ (0x30, 0x15) ∷ []) ∷ chip_with ((0, 1) ∷ []) ∷ [];
  handles = (rail 1, record { worker = 1; handle = a; enables = 1; request = None; load = 0; cursor = None; exclusive = false }) ∷ [];
}

none_above : plan supplied_board off_already 1 (Disable a) ≡ []
unfolding with_byte byte_of with_field field_of values
none_above = refl

-- a buck that is on already is passed over, and stays on for the ldo when its own handle lets go
abbrev on_already : List Turn
on_already = open_a ∷ open_b ∷ asks (Enable b) ∷ asks (Enable a) ∷ asks (Disable b) ∷ asks (IsOn b) ∷ asks (Disable a) ∷ asks (IsOn b) ∷ []

passed_over : chain_answers on_already ≡ Ok ∷ Ok ∷ OkTime 100 ∷ OkTime 50 ∷ Ok ∷ OkOn true ∷ Ok ∷ OkOn false ∷ []
unfolding with_byte byte_of with_field field_of values time_of
passed_over = refl

-- and the other way round: it stays on for its own handle, and so does the battery
abbrev buck_last : List Turn
buck_last = open_a ∷ open_b ∷ asks (Enable a) ∷ asks (Enable b) ∷ asks (Disable a) ∷ []

buck_stays : chain_text buck_last
    ≡ lines (codes "rail buck3 on 1300000 normal use 1 enables 1" ∷ codes "rail ldo1 off 1200000 normal use 0 enables 0" ∷ codes "rail vbat on 5000000 normal use 1 enables 0" ∷ codes "done 1 5" ∷ [])
unfolding with_byte byte_of with_field field_of values digits time_of
buck_stays = refl

-- the bus refuses the first update of a disable: the ldo stays on, and the next enable finds it so
abbrev disable_refused : List Turn
disable_refused = open_a ∷ asks (Enable a) ∷ cut_after 0 (Disable a) ∷ asks (IsOn a) ∷ asks (Enable a) ∷ []

disable_was_refused : chain_answers disable_refused ≡ Ok ∷ OkTime 150 ∷ Fault 0 0x20 0 [] ∷ OkOn true ∷ OkTime 0 ∷ []
unfolding with_byte byte_of with_field field_of values time_of
disable_was_refused = refl

all_on_again : chain_text disable_refused
    ≡ lines (codes "rail buck3 on 1300000 normal use 1 enables 0" ∷ codes "rail ldo1 on 1200000 normal use 1 enables 1" ∷ codes "rail vbat on 5000000 normal use 1 enables 0" ∷ codes "done 1 5" ∷ [])
unfolding with_byte byte_of with_field field_of values digits time_of
all_on_again = refl

-- the disable stays given up, and the ldo votes for the buck though nothing uses it
given_up : chain_text (take 3 disable_refused)
    ≡ lines (codes "rail buck3 on 1300000 normal use 1 enables 0" ∷ codes "rail ldo1 on 1200000 normal use 0 enables 0" ∷ codes "rail vbat on 5000000 normal use 1 enables 0" ∷ codes "done 1 3" ∷ [])
unfolding with_byte byte_of with_field field_of values digits time_of
given_up = refl

-- the bus refuses the second update of a disable: the ldo is off, and the buck on without use until something lets go of it
abbrev disable_cut : List Turn
disable_cut = open_a ∷ open_b ∷ asks (Enable a) ∷ cut_after 1 (Disable a) ∷ asks (Disable a) ∷ asks (Enable b) ∷ asks (Disable b) ∷ []

disable_was_cut : chain_answers disable_cut ≡ Ok ∷ Ok ∷ OkTime 150 ∷ Fault 0 0x20 1 [] ∷ Unbalanced 0 ∷ OkTime 0 ∷ Ok ∷ []
unfolding with_byte byte_of with_field field_of values time_of
disable_was_cut = refl

buck_on_unused : chain_text (take 4 disable_cut)
    ≡ lines (codes "rail buck3 on 1300000 normal use 0 enables 0" ∷ codes "rail ldo1 off 1200000 normal use 0 enables 0" ∷ codes "rail vbat on 5000000 normal use 1 enables 0" ∷ codes "done 1 4" ∷ [])
unfolding with_byte byte_of with_field field_of values digits time_of
buck_on_unused = refl

let_go : chain_text disable_cut
    ≡ lines (codes "rail buck3 off 1300000 normal use 0 enables 0" ∷ codes "rail ldo1 off 1200000 normal use 0 enables 0" ∷ codes "rail vbat off 5000000 normal use 0 enables 0" ∷ codes "done 1 7" ∷ [])
unfolding with_byte byte_of with_field field_of values digits time_of
let_go = refl

-- the bus refuses the second update of an enable: the battery is on, and the enable isn't counted
abbrev enable_cut : List Turn
enable_cut = open_a ∷ cut_after 1 (Enable a) ∷ asks (Disable a) ∷ asks (Enable a) ∷ []

enable_was_cut : chain_answers enable_cut ≡ Ok ∷ Fault 0 0x20 1 [] ∷ Unbalanced 0 ∷ OkTime 150 ∷ []
unfolding with_byte byte_of with_field field_of values time_of
enable_was_cut = refl

battery_on_unused : chain_text (take 2 enable_cut)
    ≡ lines (codes "rail buck3 off 1300000 normal use 0 enables 0" ∷ codes "rail ldo1 off 1200000 normal use 0 enables 0" ∷ codes "rail vbat on 5000000 normal use 0 enables 0" ∷ codes "done 1 2" ∷ [])
unfolding with_byte byte_of with_field field_of values digits time_of
battery_on_unused = refl

-- two bucks on one battery: it goes on with the first and off with the last
abbrev both_on : List Turn
both_on = asks (Open a (rail 1) false) ∷ asks (Open b (rail 2) false) ∷ asks (Enable a) ∷ asks (Enable b) ∷ asks (Disable a) ∷ asks (Disable b) ∷ []

abbrev fork_text : List Turn → List ℕ
fork_text turns = summary_text fork_board (played fork_board fork_plain turns) 1 (length turns)

both_went_on : answers fork_board fork_plain both_on ≡ Ok ∷ Ok ∷ OkTime 100 ∷ OkTime 100 ∷ Ok ∷ Ok ∷ []
unfolding with_byte byte_of with_field field_of values time_of
both_went_on = refl

two_votes : fork_text (take 4 both_on)
    ≡ lines (codes "rail vbat on 4200000 normal use 2 enables 0" ∷ codes "rail buck1 on 800000 normal use 1 enables 1" ∷ codes "rail buck2 on 800000 normal use 1 enables 1" ∷ codes "done 1 4" ∷ [])
unfolding with_byte byte_of with_field field_of values digits time_of
two_votes = refl

one_vote : fork_text (take 5 both_on)
    ≡ lines (codes "rail vbat on 4200000 normal use 1 enables 0" ∷ codes "rail buck1 off 800000 normal use 0 enables 0" ∷ codes "rail buck2 on 800000 normal use 1 enables 1" ∷ codes "done 1 5" ∷ [])
unfolding with_byte byte_of with_field field_of values digits time_of
one_vote = refl

no_vote : fork_text both_on
    ≡ lines (codes "rail vbat off 4200000 normal use 0 enables 0" ∷ codes "rail buck1 off 800000 normal use 0 enables 0" ∷ codes "rail buck2 off 800000 normal use 0 enables 0" ∷ codes "done 1 6" ∷ [])
unfolding with_byte byte_of with_field field_of values digits time_of
no_vote = refl
