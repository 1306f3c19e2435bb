use Rattle.std.proofs.Common.{◌++◌, ◌∷◌, decimal, ap, sym, ◌∙◌}
use Rattle.rows.specs.Row.{rail_name}
use Rattle.rows.proofs.FaultLines.{name_told, value_told, no_name}
use Rattle.rows.proofs.Separators.{not_split}
use Rattle.rows.proofs.fault_reading.read_now.Goals as goal

pub returns-in_err-name-clause-none : goal.returns-in_err-name-clause-none
returns-in_err-name-clause-none c =
    let board = c.args.board.now in
    rw c.from_residual-in_err-name.ensures (λ now more fits tail same. not_split 32 c.in_ok-words.words.now (rail_name board now.0) (decimal now.1 ++ more) c.in_err-name.ensures.none (no_name c.args.text.now board now more c.in_ok-words.words.now c.in_ok-words.ensures.some same))

pub returns-in_err-id-clause-none : goal.returns-in_err-id-clause-none
returns-in_err-id-clause-none c =
    let n = c.in_ok-name in
    let first = c.in_ok-words.ensures.some ∙ ap (λ t. 32 ∷ t) n.ensures.parts in
    rw c.from_residual-in_err-id.ensures (λ now more fits tail same. c.in_err-id.ensures.none now.0 fits.0 (sym (name_told c.args.board.now c.requires.sound.names c.args.text.now n.name.now n.others.now first n.ensures.first now more same).0))

pub returns-in_err-uv-clause-none : goal.returns-in_err-uv-clause-none
returns-in_err-uv-clause-none c =
    let n = c.in_ok-name in
    let cut = c.take_until.ensures in
    let first = c.in_ok-words.ensures.some ∙ ap (λ t. 32 ∷ t) n.ensures.parts in
    rw c.from_residual-in_err-uv.ensures (λ now more fits tail same. c.in_err-uv.ensures.none now.1 fits.1 (value_told c.args.board.now c.requires.sound.names c.args.text.now n.name.now n.others.now first n.ensures.first c.take_until.result.0.now c.take_until.result.1.now cut.parts cut.first cut.tail now more fits.1 tail same).0)
