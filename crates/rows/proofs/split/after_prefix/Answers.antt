use Rattle.rows.proofs.Prefixes.{prefix_some, prefix_none}
use Rattle.rows.proofs.split.after_prefix.Goals as goal

pub returns-clause-some : goal.returns-clause-some
returns-clause-some c =
    prefix_some c.args.text.now c.args.prefix.now c.strip_prefix.result c.strip_prefix.ensures.cases

pub returns-clause-none : goal.returns-clause-none
returns-clause-none c =
    prefix_none c.args.text.now c.args.prefix.now c.strip_prefix.result c.strip_prefix.ensures.cases
