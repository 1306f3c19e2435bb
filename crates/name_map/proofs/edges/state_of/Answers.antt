use Rattle.std.proofs.Common.{◌∙◌, ◌+◌, ap, sym, arith}
use Rattle.name_map.specs.NameEntries.{same_name, place_of}
use Rattle.name_map.specs.Inside.States.{pieces}
use Rattle.name_map.proofs.StateLemmas.{walk-none, walk-on, walk-off, walk-lost}
use Rattle.name_map.proofs.edges.state_of.Goals as goal

pub loop-k-init : goal.loop-k-init
loop-k-init c = record { below = omega arith; led = walk-none c.args.edges.now c.args.name.now }

pub loop-k-preserved : goal.loop-k-preserved
loop-k-preserved c =
    let there = ap (λ p. place_of (same_name (c.loop-k.state, p)) c.args.edges.now) (sym c.piece_at.ensures) ∙ sym c.in-Some.ensures.place in
    record {
      below = omega (arith, c.in-Some.ensures.inside, c.requires);
      led = walk-on c.args.edges.now c.args.name.now c.loop-k.k c.loop-k.state c.in-Some.place c.loop-k.invariant.led there;
    }

pub returns-in-None : goal.returns-in-None
returns-in-None c =
    let missing = ap (λ p. place_of (same_name (c.loop-k.state, p)) c.args.edges.now) (sym c.piece_at.ensures) ∙ sym c.in-None.ensures.place in
    sym (walk-lost c.args.edges.now c.args.name.now (c.loop-k.k + 1) (pieces c.args.name.now) (omega arith)
    (walk-off c.args.edges.now c.args.name.now c.loop-k.k c.loop-k.state c.loop-k.invariant.led missing))
