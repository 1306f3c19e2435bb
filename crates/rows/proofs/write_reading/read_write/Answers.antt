use Rattle.std.proofs.Common.{◌++◌, ◌∷◌, [], ap, append_assoc, sym, ◌∙◌}
use Rattle.rows.proofs.WriteLines.{line_told, no_line}
use Rattle.rows.proofs.write_reading.read_write.Goals as goal

pub returns-in_err-line-clause-none : goal.returns-in_err-line-clause-none
returns-in_err-line-clause-none c = rw c.from_residual.ensures (no_line c.args.board.now c.args.text.now c.in_err-line.ensures.none)

pub returns-in_err-write-clause-none : goal.returns-in_err-write-clause-none
returns-in_err-write-clause-none c =
    let f = c.in_ok-line in
    rw c.from_residual-in_err-write.ensures (λ write more fits same. c.in_err-write.ensures.none write fits (line_told c.args.board.now c.args.text.now f.line.now f.rest.now f.ensures.parts f.ensures.first write more fits same).0)

pub returns-clause-some : goal.returns-clause-some
returns-clause-some c =
    let f = c.in_ok-line in
    let told = c.in_ok-write.ensures.some in
    (told.0, f.ensures.parts ∙ sym (append_assoc f.line.now (10 ∷ []) f.rest.now) ∙ ap (λ l. l ++ f.rest.now) told.1)
