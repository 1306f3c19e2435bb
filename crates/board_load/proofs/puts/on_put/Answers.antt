use Rattle.board.specs.declared.part.Part.TheVariants.{Enable}
use Rattle.board_load.proofs.puts.on_put.Goals as goal

pub changed_put-requires : goal.changed_put-requires
changed_put-requires c = c.requires.placed Enable
