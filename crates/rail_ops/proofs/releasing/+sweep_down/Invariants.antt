use Rattle.rail_ops.proofs.releasing.+sweep_down.Given as goal

-- proposed from what the function passes where it calls itself
abbrev pub decreases-sweep_down : goal.decreases-sweep_down
decreases-sweep_down g l = l.left
