-- A worker with as many handles as it can have, and with one more.
use Rattle.std.specs.Prelude.{ℕ, ◌+◌, ◌<◌, ◌≤◌, false, List, [], ◌∷◌, None, slice_index, All, AllPairs}
use Rattle.std.proofs.Common.{zero, suc, refl, ap, arith, inr}
use Rattle.std.proofs.lemmas.List.Elements.{All-from_recursion, All-cons}
use Rattle.std.proofs.lemmas.List.Kept.{AllPairs-cons}
use Rattle.board_graph.proofs.FailsBy.{FailsBy}
use Rattle.plain_board.specs.declared.plain.Plain.{Plain}
use Rattle.plain_board.specs.Handles.{Entry, count_own}
use Rattle.plain_board.specs.Inv.{StandApart, ShareFairly, IsSoundEntry, IsWellKept}
use Rattle.plain_board.proofs.Played.{rail, named}
use Rattle.plain_board.proofs.TwoRails.{two_board, sound_plain, few_of, held_always}

-- so many handles of one worker on the second rail, each with a name of one byte, one after another
abbrev numbered : ℕ → Entry
numbered n = (rail 1, record { worker = 1; handle = named (n ∷ []); enables = 0; request = None; load = 0; cursor = None; exclusive = false })

abbrev run : ℕ → ℕ → List Entry
run first zero = []
run first (suc count) = numbered first ∷ run (first + 1) count

-- each has its own name, and none is to be alone
others_apart : (n first count : ℕ) → n < first → All (StandApart (numbered n)) (run first count)
others_apart n first zero below = All-from_recursion (StandApart (numbered n)) [] tt
others_apart n first (suc count) below =
    All-cons (StandApart (numbered n)) (numbered first) (run (first + 1) count)
    (record { rails = omega arith; names = inr (λ same. omega (arith, below, ap (λ bytes. slice_index bytes 0) same)) })
    (others_apart n (first + 1) count (omega arith))

run_apart : (first count : ℕ) → AllPairs StandApart (run first count)
run_apart first zero = λ i j d less within. absurd (omega arith)
run_apart first (suc count) = AllPairs-cons StandApart (numbered first) (run (first + 1) count) (others_apart first (first + 1) count (omega arith)) (run_apart (first + 1) count)

others_fair : (n first count : ℕ) → All (ShareFairly (numbered n)) (run first count)
others_fair n first zero = All-from_recursion (ShareFairly (numbered n)) [] tt
others_fair n first (suc count) = All-cons (ShareFairly (numbered n)) (numbered first) (run (first + 1) count) (λ same. (refl, refl)) (others_fair n (first + 1) count)

run_fair : (first count : ℕ) → AllPairs ShareFairly (run first count)
run_fair first zero = λ i j d less within. absurd (omega arith)
run_fair first (suc count) = AllPairs-cons ShareFairly (numbered first) (run (first + 1) count) (others_fair first (first + 1) count) (run_fair (first + 1) count)

run_sound : (plain : Plain) (first count : ℕ) → All (IsSoundEntry two_board plain) (run first count)
run_sound plain first zero = All-from_recursion (IsSoundEntry two_board plain) [] tt
run_sound plain first (suc count) =
    All-cons (IsSoundEntry two_board plain) (numbered first) (run (first + 1) count) (record { rail = omega arith; enables = omega arith; cursor = tt }) (run_sound plain (first + 1) count)

abbrev with_run : ℕ → Plain
with_run count = record sound_plain { handles = run 0 count }

kept_by_few : (count : ℕ) → ((worker : ℕ) → count_own (run 0 count) worker ≤ 64) → IsWellKept two_board (with_run count)
kept_by_few count few = record {
  regs = refl;
  holds = refl;
  events = refl;
  opens = run_sound (with_run count) 0 count;
  apart = run_apart 0 count;
  few = few;
  alone = run_fair 0 count;
  always = held_always (with_run count) refl;
}

as_many_as_can_be : IsWellKept two_board (with_run 64)
as_many_as_can_be = kept_by_few 64 (few_of (run 0 64) (omega arith))

one_too_many : FailsBy ((worker : ℕ) → count_own (run 0 65) worker ≤ 64) (IsWellKept two_board (with_run 65))
one_too_many = record {
  needs = λ kept. kept.few;
  suffices = kept_by_few 65;
  fails = λ few. let most : 65 ≤ 64 = few 1 in omega (arith, most);
}
