use Rattle.rows.proofs.Prefixes.{suffix_some, suffix_none}
use Rattle.rows.proofs.split.before_suffix.Goals as goal

pub returns-clause-some : goal.returns-clause-some
returns-clause-some c =
    suffix_some c.args.text.now c.args.suffix.now c.strip_suffix.result c.strip_suffix.ensures.cases

pub returns-clause-none : goal.returns-clause-none
returns-clause-none c =
    suffix_none c.args.text.now c.args.suffix.now c.strip_suffix.result c.strip_suffix.ensures.cases
