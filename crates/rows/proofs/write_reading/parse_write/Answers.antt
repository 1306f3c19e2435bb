use Rattle.std.proofs.Common.{ℕ, ◌++◌, ◌∷◌, [], List, decimal, arith, sym, ◌∙◌}
use Rattle.std.proofs.lemmas.Fmt.{decimal_injective}
use Rattle.board.specs.declared.write.Write.{Write}
use Rattle.rows.specs.Words.{spaced, hex_text}
use Rattle.rows.proofs.Separators.{not_split}
use Rattle.rows.proofs.Spaces.{first_differs, second_differs, Lacks-decimal, Lacks-hex_text}
use Rattle.rows.proofs.WriteLines.{behind_sign}
use Rattle.rows.proofs.write_reading.parse_write.Goals as goal

-- what stands behind the chip, and behind the register
abbrev bytes : Write → List ℕ
bytes write = spaced (hex_text write.mask ∷ hex_text write.bits ∷ [])

abbrev rest : Write → List ℕ
rest write = hex_text write.reg ++ 32 ∷ bytes write

pub returns-in_err-chip-clause-none : goal.returns-in_err-chip-clause-none
returns-in_err-chip-clause-none c =
    let f = c.in_ok-words in
    rw c.from_residual-in_err-chip.ensures (λ write fits same.
    not_split 32 f.words.now (decimal write.chip) (rest write) c.in_err-chip.ensures.none (behind_sign c.args.line.now f.words.now f.ensures.some write same))

pub returns-in_err-reg-clause-none : goal.returns-in_err-reg-clause-none
returns-in_err-reg-clause-none c =
    let f = c.in_ok-words in
    let a = c.in_ok-chip in
    rw c.from_residual-in_err-reg.ensures (λ write fits same.
    second_differs f.words.now a.chip.now a.words.now (decimal write.chip) (rest write) a.ensures.parts a.ensures.first (Lacks-decimal write.chip (omega (arith, fits.1)))
    (not_split 32 a.words.now (hex_text write.reg) (bytes write) c.in_err-reg.ensures.none)
    (behind_sign c.args.line.now f.words.now f.ensures.some write same))

pub returns-in_err-chip-2-clause-none : goal.returns-in_err-chip-2-clause-none
returns-in_err-chip-2-clause-none c =
    let f = c.in_ok-words in
    let a = c.in_ok-chip in
    rw c.from_residual-in_err-chip-2.ensures (λ write fits same.
    first_differs f.words.now a.chip.now a.words.now (decimal write.chip) (rest write) a.ensures.parts a.ensures.first (Lacks-decimal write.chip (omega (arith, fits.1)))
    (c.in_err-chip-2.ensures.none write.chip fits.1)
    (behind_sign c.args.line.now f.words.now f.ensures.some write same))

pub returns-in_err-reg-2-clause-none : goal.returns-in_err-reg-2-clause-none
returns-in_err-reg-2-clause-none c =
    let f = c.in_ok-words in
    let a = c.in_ok-chip in
    let b = c.in_ok-reg in
    rw c.from_residual-in_err-reg-2.ensures (λ write fits same.
    second_differs f.words.now a.chip.now a.words.now (decimal write.chip) (rest write) a.ensures.parts a.ensures.first (Lacks-decimal write.chip (omega (arith, fits.1)))
    (first_differs a.words.now b.reg.now b.words.now (hex_text write.reg) (bytes write) b.ensures.parts b.ensures.first (Lacks-hex_text write.reg) (c.in_err-reg-2.ensures.none write.reg fits.2))
    (behind_sign c.args.line.now f.words.now f.ensures.some write same))

pub returns-in_err-mask-clause-none : goal.returns-in_err-mask-clause-none
returns-in_err-mask-clause-none c =
    let f = c.in_ok-words in
    let a = c.in_ok-chip in
    let b = c.in_ok-reg in
    rw c.from_residual-in_err-mask.ensures (λ write fits same.
    second_differs f.words.now a.chip.now a.words.now (decimal write.chip) (rest write) a.ensures.parts a.ensures.first (Lacks-decimal write.chip (omega (arith, fits.1)))
    (second_differs a.words.now b.reg.now b.words.now (hex_text write.reg) (bytes write) b.ensures.parts b.ensures.first (Lacks-hex_text write.reg) (c.in_err-mask.ensures.none write.mask write.bits fits.3 fits.4))
    (behind_sign c.args.line.now f.words.now f.ensures.some write same))

pub returns-then-chip-board-clause-none : goal.returns-then-chip-board-clause-none
returns-then-chip-board-clause-none c = λ write fits same.
    let f = c.in_ok-words in
    let a = c.in_ok-chip in
    first_differs f.words.now a.chip.now a.words.now (decimal write.chip) (rest write) a.ensures.parts a.ensures.first (Lacks-decimal write.chip (omega (arith, fits.1)))
    (λ equal.
    let chip = decimal_injective c.in_ok-chip-2.chip write.chip (omega arith) (omega (arith, fits.1)) (sym c.in_ok-chip-2.ensures.some ∙ equal) in
    omega (arith, fits.0))
    (behind_sign c.args.line.now f.words.now f.ensures.some write same)
