use Rattle.std.proofs.Common.{ℕ, get_or, refl, ap, ◌∙◌, arith}
use Rattle.std.specs.Vec.{with_item}
use Rattle.std.proofs.lemmas.List.{get_or_read}
use Rattle.rail_state.specs.declared.rail_state.RailState.{RailState}
use Rattle.rail_ops.specs.declared.alone.Alone.{Alone}
use Rattle.rail_ops.specs.Inside.Alone.{no_book}
use Rattle.rail_ops.specs.Inside.AloneLaws.{rail_has_book}
use Rattle.rail_ops.proofs.alone.AloneRails.state_mut.Goals as goal

pub index_mut-requires : goal.index_mut-requires
index_mut-requires c =
    let s = c.args.self.now in
    omega (arith, rail_has_book s.board.now s.regs s.states.items c.requires.fits c.args.r.0 c.requires.held, c.from.ensures, s.states.ok.0)

pub returns : goal.returns
returns c =
    let s = c.args.self.now in
    let within = rail_has_book s.board.now s.regs s.states.items c.requires.fits c.args.r.0 c.requires.held in
    let with : RailState → ℕ → Alone = λ w k. record s { states = with_item s.states k w } in (
      (refl, λ w. ap (with w) c.from.ensures),
      record {
        writes_back = tt;
        value = get_or_read s.states.items c.args.r.0 c.index_mut.result.now within
            (c.index_mut.ensures.value ∙ ap (λ k. get_or s.states.items k c.index_mut.result.now) c.from.ensures) no_book;
      },
    )
