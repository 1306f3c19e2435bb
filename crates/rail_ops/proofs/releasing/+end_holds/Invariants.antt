use Rattle.rail_ops.proofs.releasing.+end_holds.Given as goal

-- proposed from what the function passes where it calls itself
abbrev pub decreases-end_holds : goal.decreases-end_holds
decreases-end_holds g l = l.count
