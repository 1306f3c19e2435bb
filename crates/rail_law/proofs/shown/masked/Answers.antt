use Rattle.rail_law.proofs.Updates.{merged_byte}
use Rattle.rail_law.proofs.shown.masked.Goals as goal

pub returns : goal.returns
returns c = merged_byte c.args.byte c.args.mask c.args.bits c.ranges.byte.fits c.ranges.mask.fits
