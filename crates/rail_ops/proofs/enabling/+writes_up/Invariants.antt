use Rattle.rail_ops.proofs.enabling.+writes_up.Given as goal

-- proposed from what the function passes where it calls itself
abbrev pub decreases-writes_up : goal.decreases-writes_up
decreases-writes_up g l = l.most
