-- Scripts that open and close handles, played by hand.
use Rattle.std.specs.Prelude.{◌≡◌, ℕ, Bool, true, false, List, [], ◌∷◌, ◌++◌, map, replicate, Some, None, codes}
use Rattle.std.specs.List.{range_with_len}
use Rattle.std.specs.Fmt.{digits}
use Rattle.std.proofs.Common.{refl}
use Rattle.linear_range.specs.Values.{values}
use Rattle.ramp_delay.specs.Times.{time_of}
use Rattle.chip_regs.specs.Registers.{with_byte, byte_of, with_field, field_of}
use Rattle.arrayvec.specs.ArrayString.{ArrayString}
use Rattle.board.proofs.Boards.{coupled_board}
use Rattle.rows.specs.declared.answer.Answer.{Answer}
use Rattle.rows.specs.declared.answer.Answer.TheVariants.{Ok, OkTime, CountFull, StillEnabled, Taken, HandleOpen, HandlesFull}
use Rattle.rows.specs.declared.call.Call.TheVariants.{Open, Close, Enable, Disable, Set, Listen}
use Rattle.use_counts.specs.declared.handle_row.HandleRow.{HandleRow}
use Rattle.plain_board.specs.declared.plain.Plain.{Plain}
use Rattle.plain_board.specs.Text.{summary_text}
use Rattle.plain_board.proofs.Played.{Turn, asks, other_asks, answers, played, named, rail, chip_with, lines, a, b}
use Rattle.plain_board.proofs.PlayedBoards.{core_board, core_plain, pair_plain, trio_board, trio_plain}

abbrev core_answers : List Turn → List Answer
core_answers turns = answers core_board core_plain turns

abbrev opens : ArrayString → Turn
opens handle = asks (Open handle (rail 0) false)

abbrev opens_alone : ArrayString → Turn
opens_alone handle = asks (Open handle (rail 0) true)

abbrev c : ArrayString
c = named (codes "c")

-- one that is to be alone keeps others off, and comes itself only where none is; its own name is open before that counts
keeps_others_off : core_answers (opens_alone a ∷ opens b ∷ opens_alone b ∷ opens a ∷ opens_alone a ∷ other_asks (Open a (rail 0) false) ∷ [])
    ≡ Ok ∷ Taken 1 ∷ Taken 1 ∷ HandleOpen ∷ HandleOpen ∷ Taken 1 ∷ []
keeps_others_off = refl

kept_off : core_answers (opens a ∷ opens_alone b ∷ opens b ∷ opens_alone c ∷ asks (Close a) ∷ opens_alone c ∷ asks (Close b) ∷ opens_alone c ∷ [])
    ≡ Ok ∷ Taken 1 ∷ Ok ∷ Taken 2 ∷ Ok ∷ Taken 1 ∷ Ok ∷ Ok ∷ []
kept_off = refl

-- it is alone on its own rail
alone_on_its_rail : answers coupled_board pair_plain (asks (Open a (rail 0) true) ∷ asks (Open b (rail 1) false) ∷ asks (Open c (rail 1) true) ∷ [])
    ≡ Ok ∷ Ok ∷ Taken 1 ∷ []
alone_on_its_rail = refl

-- a worker has 64 handles at the most, on whatever rails; an open name comes before that, and that before a rail that is taken
abbrev names : ℕ → List ArrayString
names count = map (λ n. named (n ∷ [])) (range_with_len 97 count)

abbrev many_open : List Turn
many_open = map opens (names 64)

no_more : core_answers (many_open ++ opens (named (codes "more")) ∷ opens a ∷ opens_alone (named (codes "more"))
    ∷ other_asks (Open a (rail 0) false) ∷ asks (Close a) ∷ opens (named (codes "more")) ∷ [])
    ≡ replicate 64 Ok ++ HandlesFull 64 ∷ HandleOpen ∷ HandlesFull 64 ∷ Ok ∷ Ok ∷ Ok ∷ []
no_more = refl

-- those of each rail stand in the order in which they were opened, and the rails in theirs
abbrev places : List Turn → List (ℕ × (ℕ × List ℕ))
places turns = map (λ entry. (entry.0.0, (entry.1.worker, entry.1.handle.bytes))) (played trio_board trio_plain turns).handles

abbrev opens_six : List Turn
opens_six = asks (Open c (rail 1) false) ∷ asks (Open b (rail 2) false) ∷ asks (Open a (rail 1) false) ∷ other_asks (Open b (rail 1) false) ∷ other_asks (Open a (rail 0) false)
    ∷ asks (Open (named (codes "d")) (rail 0) false) ∷ []

in_order : places opens_six
    ≡ (0, (2, codes "a")) ∷ (0, (1, codes "d")) ∷ (1, (1, codes "c")) ∷ (1, (1, codes "a")) ∷ (1, (2, codes "b")) ∷ (2, (1, codes "b")) ∷ []
in_order = refl

one_closed : places (opens_six ++ asks (Close b) ∷ other_asks (Close a) ∷ [])
    ≡ (0, (1, codes "d")) ∷ (1, (1, codes "c")) ∷ (1, (1, codes "a")) ∷ (1, (2, codes "b")) ∷ []
one_closed = refl

-- a new handle has enabled, asked and drawn nothing, and doesn't listen
abbrev fresh : ℕ → ArrayString → Bool → HandleRow
fresh worker handle exclusive = record { worker = worker; handle = handle; enables = 0; request = None; load = 0; cursor = None; exclusive = exclusive }

as_new : (played core_board core_plain (other_asks (Open b (rail 0) true) ∷ [])).handles ≡ (rail 0, fresh 2 b true) ∷ []
as_new = refl

as_new_again : (played core_board core_plain (opens a ∷ asks (Set a 850000 900000) ∷ asks (Listen a) ∷ asks (Enable a) ∷ asks (Disable a) ∷ asks (Close a) ∷ opens a ∷ [])).handles
    ≡ (rail 0, fresh 1 a false) ∷ []
unfolding with_byte byte_of with_field field_of values time_of
as_new_again = refl

-- each call changes what is its own of the handle, and no other handle
all_kept : (played core_board core_plain (opens a ∷ opens b ∷ other_asks (Open a (rail 0) false) ∷ asks (Set a 850000 900000) ∷ asks (Listen a) ∷ asks (Enable a) ∷ asks (Enable a) ∷ [])).handles
    ≡ (rail 0, record (fresh 1 a false) { enables = 2; request = Some (850000, 900000); cursor = Some 2 }) ∷ (rail 0, fresh 1 b false) ∷ (rail 0, fresh 2 a false) ∷ []
unfolding with_byte byte_of with_field field_of values time_of
all_kept = refl

-- a handle with enables can't be closed
still_enabled : core_answers (opens a ∷ asks (Enable a) ∷ asks (Enable a) ∷ asks (Close a) ∷ asks (Disable a) ∷ asks (Close a) ∷ asks (Disable a) ∷ asks (Close a) ∷ [])
    ≡ Ok ∷ OkTime 100 ∷ OkTime 0 ∷ StillEnabled 2 ∷ Ok ∷ StillEnabled 1 ∷ Ok ∷ Ok ∷ []
unfolding with_byte byte_of with_field field_of values time_of
still_enabled = refl

-- a handle has 65535 enables at the most
abbrev enabled_often : ℕ → Plain
enabled_often enables = record core_plain { regs = chip_with ((0x10, 0x20) ∷ (0x20, 1) ∷ []) ∷ []; handles = (rail 0, record (fresh 1 a false) { enables = enables }) ∷ [] }

count_full : answers core_board (enabled_often 65534) (asks (Enable a) ∷ asks (Enable a) ∷ asks (Disable a) ∷ asks (Enable a) ∷ []) ≡ OkTime 0 ∷ CountFull 65535 ∷ Ok ∷ OkTime 0 ∷ []
unfolding with_byte byte_of with_field field_of values time_of
count_full = refl

-- the handles of two are counted together
enables_together : summary_text core_board (played core_board core_plain (opens a ∷ opens b ∷ asks (Enable a) ∷ asks (Enable b) ∷ asks (Enable b) ∷ [])) 1 5
    ≡ lines (codes "rail core on 800000 normal use 3 enables 3" ∷ codes "done 1 5" ∷ [])
unfolding with_byte byte_of with_field field_of values digits time_of
enables_together = refl
