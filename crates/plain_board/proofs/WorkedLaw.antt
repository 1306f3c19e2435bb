-- What holds throughout some moves, and the law along a history, worked out by hand.
use Rattle.std.specs.Prelude.{◌≡◌, ℕ, true, false, nat_le, [], ◌∷◌, None}
use Rattle.std.proofs.Common.{refl}
use Rattle.linear_range.specs.Values.{values}
use Rattle.ramp_delay.specs.Times.{time_of}
use Rattle.chip_regs.specs.Registers.{with_byte, byte_of, with_field, field_of}
use Rattle.board.specs.declared.part.Part.TheVariants.{Selector}
use Rattle.board.specs.Rail.{uv, IsAllowed}
use Rattle.rail_law.specs.Moves.{Move}
use Rattle.rows.specs.declared.answer.Answer.TheVariants.{OkSet}
use Rattle.rows.specs.declared.call.Call.{Call}
use Rattle.rows.specs.declared.call.Call.TheVariants.{Set}
use Rattle.rows.specs.declared.row.Row.{Row}
use Rattle.plain_board.specs.declared.plain.Plain.{Plain}
use Rattle.plain_board.specs.Law.{Throughout, LawHolds}
use Rattle.plain_board.proofs.Played.{a, rail}
use Rattle.plain_board.proofs.PlayedBoards.{load_rail}
use Rattle.plain_board.proofs.TwoRails.{two_board, first_of, two_regs, with_first, lawful_by}

-- the first of two rails rises from 800000 µV by two values
abbrev start : ℕ → Plain
start selector = with_first (first_of 0 None 0 None) (two_regs selector 2 0x16)

abbrev set_a : Call
set_a = Set a 812500 812500

abbrev to_selector : ℕ → Move
to_selector bits = record { rail = rail 0; part = Selector; bits = bits }

-- between these values it is throughout; of two closer ones it isn't at the end, or at the start
abbrev Between : ℕ → ℕ → Type 0
Between low high = Throughout (λ regs. (nat_le low (uv load_rail regs) ≡ true) × (nat_le (uv load_rail regs) high ≡ true)) two_board (start 32).regs (to_selector 33 ∷ to_selector 34 ∷ [])

between : Between 800000 812500
unfolding with_byte byte_of with_field field_of values
between = ((refl, refl), ((refl, refl), (refl, refl)))

not_true : ¬ (false ≡ true)
not_true same = cc

not_at_the_end : ¬ Between 800000 806250
unfolding with_byte byte_of with_field field_of values
not_at_the_end holds = not_true holds.1.1.1

not_at_the_start : ¬ Between 806250 812500
unfolding with_byte byte_of with_field field_of values
not_at_the_start holds = not_true holds.0.0

-- the law holds along a history from where it holds, and not from where it doesn't
abbrev row : Row
row = record { worker = 1; line = 1; call = set_a; answer = OkSet 812500 1; writes = [] }

lawful : LawHolds two_board (start 32) (row ∷ [])
unfolding with_byte byte_of with_field field_of values time_of
lawful = (
  (lawful_by _ refl refl, (lawful_by _ refl refl, lawful_by _ refl refl)),
  lawful_by _ refl refl,
)

abbrev below : Plain
below = start 31

not_allowed : ¬ IsAllowed load_rail (uv load_rail below.regs)
unfolding values field_of byte_of
not_allowed is = cc

not_lawful : ¬ LawHolds two_board below []
not_lawful law = not_allowed (law.values 0 load_rail refl)
