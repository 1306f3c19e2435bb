use Rattle.std.proofs.Common.{◌-◌, ℕ, List, sym, ap, arith, get_or}
use Rattle.rail_ops.proofs.Released.{from_behind, last_there}
use Rattle.rail_ops.proofs.releasing.last_of.Goals as goal

pub returns-clause-there : goal.returns-clause-there
returns-clause-there c =
    last_there c.args.board.now c.requires.valid (c.args.left - 1) _ (omega (arith, c.requires.some, c.requires.within)) (ap (λ (order : List ℕ). get_or order (c.args.left - 1) 0) (sym c.as_slice.ensures))

pub returns-clause-last : goal.returns-clause-last
returns-clause-last c =
    from_behind c.args.board.now c.requires.valid c.args.left (c.args.left - 1) _ (omega (arith, c.requires.some, c.requires.within)) (omega (arith, c.requires.some)) (ap (λ (order : List ℕ). get_or order (c.args.left - 1) 0) (sym c.as_slice.ensures))
