use Rattle.rail_ops.proofs.falling.+go_down.Given as goal

-- proposed from what the function passes where it calls itself
abbrev pub decreases-go_down : goal.decreases-go_down
decreases-go_down g l = l.most
