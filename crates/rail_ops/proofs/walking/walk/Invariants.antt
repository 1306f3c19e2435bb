use Rattle.std.proofs.Common.{◌≡◌, ◌+◌, ◌≤◌, ℕ, List, Contains}
use Rattle.std.specs.Int.{abs_diff}
use Rattle.board.specs.Rail.{allowed}
use Rattle.reg_outside.specs.Bus.{told_by}
use Rattle.rail_ops.specs.Inside.Walking.{SeesLawful}
use Rattle.rail_ops.specs.Sight.{shown_by}
use Rattle.rail_ops.proofs.Walked.{Goes}
use Rattle.rail_ops.proofs.walking.walk.Given as goal

-- the rail is on its way, and stands at one of its values
abbrev pub invariant-loop-at : goal.invariant-loop-at
invariant-loop-at g l =
    let first = shown_by g.R.Rails.board g.R.Rails.rails g.R.Rails.bits g.R.Rails.states l.fn.rails in
    let now = shown_by g.R.Rails.board g.R.Rails.rails g.R.Rails.bits g.R.Rails.states l.rails in
    let bus = told_by g.W.Wire.accepted g.W.Wire.plan g.W.Wire.faults l.fn.wire in
    let bus' = told_by g.W.Wire.accepted g.W.Wire.plan g.W.Wire.faults l.wire in
    record {
      goes : (regs : List (List ℕ)) → SeesLawful first regs → Goes first now bus bus' l.made l.r.0 l.rail l.target l.at regs;
      among : Contains (allowed l.rail) l.at;
      bound : l.made + abs_diff l.at l.target ≤ abs_diff l.initial.at l.target;
      books : (i : ℕ) → g.R.Rails.states l.rails i ≡ g.R.Rails.states l.fn.rails i;
      fits : g.R.Rails.fits l.rails;
      board : g.R.Rails.board l.rails ≡ g.R.Rails.board l.fn.rails;
      rails : g.R.Rails.rails l.rails ≡ g.R.Rails.rails l.fn.rails;
      base : g.R.Rails.base l.rails ≡ g.R.Rails.base l.fn.rails;
    }

abbrev pub decreases-loop-at : goal.decreases-loop-at
decreases-loop-at g l = abs_diff l.at l.target
