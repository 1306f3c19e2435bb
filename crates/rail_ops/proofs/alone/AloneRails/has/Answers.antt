use Rattle.std.proofs.Common.{arith}
use Rattle.std.proofs.lemmas.Bool.{ltb-true, lt-ltb}
use Rattle.rail_ops.specs.Inside.AloneLaws.{rail_within}
use Rattle.rail_ops.proofs.AloneFields.{rail_among}
use Rattle.rail_ops.proofs.alone.AloneRails.has.Goals as goal

pub returns : goal.returns
returns c =
    let s = c.args.self.now in
    let fits = c.requires.fits in (
      λ is. rail_among s.board.now fits.valid c.args.r.0 (omega (arith, ltb-true c.from.result c.len.result is, c.from.ensures, c.len.ensures, s.states.ok.0, fits.as_many)),
      λ there. lt-ltb c.from.result c.len.result (omega (arith, rail_within s.board.now fits.valid c.args.r.0 there, c.from.ensures, c.len.ensures, s.states.ok.0, fits.as_many)),
    )
