use Rattle.std.proofs.Common.{refl}
use Rattle.board.specs.declared.part.Part.TheVariants.{Enable}
use Rattle.board.proofs.rail.Rail.is_on.Goals as goal

pub get-requires : goal.get-requires
get-requires c = let enable = c.requires Enable in record { fits = enable.shape; chip = enable.chip }

pub returns : goal.returns
returns c = rw c.get.ensures.number refl
