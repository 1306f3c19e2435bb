use Rattle.board_load.proofs.DraftValues.{drafts_have_values, resets_name_chips}
use Rattle.board_load.proofs.laws.drafts_have_values.Goals as goal

pub returns : goal.returns
returns c = record { values = drafts_have_values; resets = resets_name_chips }
