use Rattle.rail_ops.proofs.disabling.+list_down.Given as goal

-- proposed from what the function passes where it calls itself
abbrev pub decreases-list_down : goal.decreases-list_down
decreases-list_down l = l.most
