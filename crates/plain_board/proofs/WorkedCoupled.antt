-- Scripts on the coupled bucks, played by hand: at most 100000 µV may lie between them.
use Rattle.std.specs.Prelude.{◌≡◌, ℕ, false, List, [], ◌∷◌, ◌++◌, map, length, take, Option, Some, None, codes}
use Rattle.std.specs.Fmt.{digits}
use Rattle.std.proofs.Common.{refl}
use Rattle.linear_range.specs.Values.{values}
use Rattle.ramp_delay.specs.Times.{time_of}
use Rattle.chip_regs.specs.Registers.{with_byte, byte_of, with_field, field_of}
use Rattle.board.specs.declared.write.Write.{Write}
use Rattle.board.proofs.Boards.{coupled_board}
use Rattle.rail_law.specs.Moves.{writes_of}
use Rattle.rows.specs.declared.answer.Answer.{Answer}
use Rattle.rows.specs.declared.answer.Answer.TheVariants.{Ok, OkSet, OkUv, NoValue, Fault}
use Rattle.rows.specs.declared.call.Call.TheVariants.{Open, Close, Set, Get}
use Rattle.plain_board.specs.declared.plain.Plain.{Plain}
use Rattle.plain_board.specs.Answer.{plan}
use Rattle.plain_board.specs.Text.{summary_text}
use Rattle.plain_board.proofs.Played.{Turn, asks, cut_after, other_asks, answers, played, rail, lines, a, b}
use Rattle.plain_board.proofs.PlayedBoards.{pair_plain, trio_board, trio_plain}

abbrev open_a : Turn
open_a = asks (Open a (rail 0) false)

abbrev pair_answers : List Turn → List Answer
pair_answers turns = answers coupled_board pair_plain turns

-- the second buck follows the first as far as it has to: 16 and 8 µs, and a write for each value on the way
abbrev pulls : List Turn
pulls = open_a ∷ asks (Set a 1000000 1000000) ∷ []

pulled : pair_answers pulls ≡ Ok ∷ OkSet 1000000 24 ∷ []
unfolding with_byte byte_of with_field field_of values time_of
pulled = refl

pulled_stands : summary_text coupled_board (played coupled_board pair_plain pulls) 1 2
    ≡ lines (codes "rail buck1 off 1000000 normal use 0 enables 0" ∷ codes "rail buck2 off 900000 normal use 0 enables 0" ∷ codes "done 1 2" ∷ [])
unfolding with_byte byte_of with_field field_of values digits time_of
pulled_stands = refl

abbrev pair_opened : Plain
pair_opened = played coupled_board pair_plain (open_a ∷ [])

abbrev to_selector : ℕ → ℕ → Write
to_selector reg bits = record { chip = 0; reg = reg; mask = 0x7f; bits = bits }

many_moves : length (plan coupled_board pair_opened 1 (Set a 1000000 1000000)) ≡ 48
unfolding with_byte byte_of with_field field_of values time_of
many_moves = refl

first_moves : take 4 (writes_of coupled_board (plan coupled_board pair_opened 1 (Set a 1000000 1000000)))
    ≡ to_selector 0x10 33 ∷ to_selector 0x11 33 ∷ to_selector 0x10 34 ∷ to_selector 0x11 34 ∷ []
unfolding with_byte byte_of with_field field_of values time_of
first_moves = refl

-- it can't follow where another handle holds it down
held_down : pair_answers (open_a ∷ asks (Open b (rail 1) false) ∷ asks (Set b 800000 890000) ∷ asks (Set a 1000000 1000000) ∷ []) ≡ Ok ∷ Ok ∷ OkSet 800000 0 ∷ NoValue ∷ []
unfolding with_byte byte_of with_field field_of values time_of
held_down = refl

-- the bus refuses the second update: the first buck has gone one value up, and what the handle asked before still stands
abbrev stops_within : List Turn
stops_within = open_a ∷ asks (Open b (rail 0) false) ∷ asks (Set a 800000 850000) ∷ cut_after 1 (Set a 1000000 1000000) ∷ []

stopped_within : pair_answers (stops_within ++ asks (Set b 860000 900000) ∷ []) ≡ Ok ∷ Ok ∷ OkSet 800000 0 ∷ Fault 0 0x11 1 ((rail 0, 806250) ∷ []) ∷ NoValue ∷ []
unfolding with_byte byte_of with_field field_of values time_of
stopped_within = refl

abbrev requests : Plain → List (Option (ℕ × ℕ))
requests plain = map (λ entry. entry.1.request) plain.handles

kept_within : requests (played coupled_board pair_plain stops_within) ≡ Some (800000, 850000) ∷ None ∷ []
unfolding with_byte byte_of with_field field_of values time_of
kept_within = refl

-- a request that the stop leaves unmet is withdrawn, though another handle's stays
abbrev stops_beyond : List Turn
stops_beyond = open_a ∷ asks (Open b (rail 0) false) ∷ asks (Set b 800000 990000) ∷ asks (Set a 800000 800000) ∷ cut_after 1 (Set a 810000 1000000) ∷ []

stopped_beyond : pair_answers (stops_beyond ++ asks (Set b 860000 900000) ∷ []) ≡ Ok ∷ Ok ∷ OkSet 800000 0 ∷ OkSet 800000 0 ∷ Fault 0 0x10 1 ((rail 0, 806250) ∷ []) ∷ OkSet 862500 5 ∷ []
unfolding with_byte byte_of with_field field_of values time_of
stopped_beyond = refl

withdrawn_beyond : requests (played coupled_board pair_plain stops_beyond) ≡ None ∷ Some (800000, 990000) ∷ []
unfolding with_byte byte_of with_field field_of values time_of
withdrawn_beyond = refl

-- stopped at the last update: two rails have changed, the second has come to where it had to
two_changed : pair_answers (open_a ∷ cut_after 47 (Set a 1000000 1000000) ∷ []) ≡ Ok ∷ Fault 0 0x10 47 ((rail 0, 993750) ∷ (rail 1, 900000) ∷ []) ∷ []
unfolding with_byte byte_of with_field field_of values time_of
two_changed = refl

-- two workers have handles of one name, each its own, and both bind
each_its_own : pair_answers (open_a ∷ other_asks (Open a (rail 0) false) ∷ asks (Set a 850000 900000) ∷ other_asks (Set a 800000 849999) ∷ other_asks (Set a 900000 950000)
    ∷ asks (Set a 800000 899999) ∷ other_asks (Close a) ∷ asks (Set a 800000 899999) ∷ [])
    ≡ Ok ∷ Ok ∷ OkSet 850000 4 ∷ NoValue ∷ OkSet 900000 4 ∷ NoValue ∷ Ok ∷ OkSet 800000 8 ∷ []
unfolding with_byte byte_of with_field field_of values time_of
each_its_own = refl

-- beside them a rail that isn't coupled: it stays where it is, and moves alone, from 1300000 to 1700000 µV, whatever is asked of the others
abbrev alone_too : List Turn
alone_too = open_a ∷ asks (Open b (rail 2) false) ∷ asks (Set a 900001 1000000) ∷ asks (Get b) ∷ asks (Set b 1600001 3000000) ∷ []

moves_alone : answers trio_board trio_plain alone_too ≡ Ok ∷ Ok ∷ OkSet 906250 10 ∷ OkUv 1300000 ∷ OkSet 1700000 32 ∷ []
unfolding with_byte byte_of with_field field_of values time_of
moves_alone = refl

stands_alone : summary_text trio_board (played trio_board trio_plain alone_too) 1 5
    ≡ lines (codes "rail buck1 off 906250 normal use 0 enables 0" ∷ codes "rail buck2 off 806250 normal use 0 enables 0"
    ∷ codes "rail buck3 off 1700000 normal use 0 enables 0" ∷ codes "done 1 5" ∷ [])
unfolding with_byte byte_of with_field field_of values digits time_of
stands_alone = refl
