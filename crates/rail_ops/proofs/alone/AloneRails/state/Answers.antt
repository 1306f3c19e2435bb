use Rattle.std.proofs.Common.{get_or, ap, ◌∙◌, arith}
use Rattle.std.proofs.lemmas.List.{get_or_read}
use Rattle.rail_ops.specs.Inside.Alone.{no_book}
use Rattle.rail_ops.specs.Inside.AloneLaws.{rail_has_book}
use Rattle.rail_ops.proofs.alone.AloneRails.state.Goals as goal

pub index-requires : goal.index-requires
index-requires c =
    let s = c.args.self.now in
    omega (arith, rail_has_book s.board.now s.regs s.states.items c.requires.fits c.args.r.0 c.requires.held, c.from.ensures, s.states.ok.0)

pub returns : goal.returns
returns c =
    let s = c.args.self.now in
    let within = rail_has_book s.board.now s.regs s.states.items c.requires.fits c.args.r.0 c.requires.held in
    get_or_read s.states.items c.args.r.0 c.index.result.now within (c.index.ensures ∙ ap (λ k. get_or s.states.items k c.index.result.now) c.from.ensures) no_book
