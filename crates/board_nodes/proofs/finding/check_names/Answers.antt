use Rattle.std.proofs.Common.{sym, ◌∙◌}
use Rattle.board_nodes.proofs.NameLemmas.{short_from}
use Rattle.board_nodes.proofs.finding.check_names.Goals as goal

pub returns-in-None-clause-short : goal.returns-in-None-clause-short
returns-in-None-clause-short c = short_from 0 c.args.drafts.now (sym c.long_name.ensures ∙ c.in_default.is)
