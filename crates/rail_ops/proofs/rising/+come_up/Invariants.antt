use Rattle.rail_ops.proofs.rising.+come_up.Given as goal

-- proposed from what the function passes where it calls itself
abbrev pub decreases-come_up : goal.decreases-come_up
decreases-come_up g l = l.most
