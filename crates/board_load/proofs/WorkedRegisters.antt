-- Registers with new contents, worked out by hand.
use Rattle.std.specs.Prelude.{◌≡◌, ◌<◌, ℕ, List, [], ◌∷◌}
use Rattle.std.proofs.Common.{refl, arith}
use Rattle.std.proofs.lemmas.List.Elements.{All-nil, All-cons, All-head}
use Rattle.chip_regs.specs.Registers.{byte_of, with_byte}
use Rattle.plain_board.proofs.Played.{chip_with}
use Rattle.plain_board.proofs.PlayedBoards.{reset_chip, core_board, fork_board}
use Rattle.board_load.specs.Demo.{demo_resets}
use Rattle.board_load.specs.Registers.{with_bytes, reset_regs, NameChips}

-- two chips whose registers hold 0
abbrev blank : List (List ℕ)
blank = chip_with [] ∷ chip_with [] ∷ []

nothing_new : with_bytes blank [] ≡ blank
nothing_new = refl

one_each : with_bytes blank ((0, 0x10, 5) ∷ (1, 0x11, 7) ∷ []) ≡ chip_with ((0x10, 5) ∷ []) ∷ chip_with ((0x11, 7) ∷ []) ∷ []
unfolding with_byte byte_of
one_each = refl

-- of two for one register the later counts
later_counts : with_bytes blank ((1, 0x10, 5) ∷ (1, 0x10, 7) ∷ []) ≡ chip_with [] ∷ chip_with ((0x10, 7) ∷ []) ∷ []
unfolding with_byte byte_of
later_counts = refl

earlier_goes : with_bytes blank ((1, 0x10, 7) ∷ (1, 0x10, 5) ∷ []) ≡ chip_with [] ∷ chip_with ((0x10, 5) ∷ []) ∷ []
unfolding with_byte byte_of
earlier_goes = refl

one_chip : reset_regs (record { board = core_board; resets = demo_resets }) ≡ reset_chip ∷ []
unfolding with_byte byte_of
one_chip = refl

two_chips : reset_regs (record { board = fork_board; resets = demo_resets }) ≡ reset_chip ∷ chip_with [] ∷ []
unfolding with_byte byte_of
two_chips = refl

last_chip : NameChips 2 ((1, 0x10, 5) ∷ [])
last_chip = All-cons (λ new. new.0 < 2) (1, 0x10, 5) [] (omega arith) (All-nil (λ new. new.0 < 2))

no_such_chip : ¬ NameChips 1 ((1, 0x10, 5) ∷ [])
no_such_chip all = absurd (omega (arith, All-head (λ new. new.0 < 1) (1, 0x10, 5) [] all))
