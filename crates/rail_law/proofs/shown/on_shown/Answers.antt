use Rattle.board.specs.declared.part.Part.TheVariants.{Enable}
use Rattle.rail_law.proofs.shown.on_shown.Goals as goal

pub field_shown-requires-clause-fits : goal.field_shown-requires-clause-fits
field_shown-requires-clause-fits c = (c.requires.placed Enable).shape

pub field_shown-requires-clause-chip : goal.field_shown-requires-clause-chip
field_shown-requires-clause-chip c = (c.requires.placed Enable).chip
