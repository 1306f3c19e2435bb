use Rattle.std.proofs.Common.{sym, ◌∙◌}
use Rattle.session.proofs.BuiltBoards.{early_none, built_is_untied}
use Rattle.session.proofs.loading.load_drafted.Goals as goal

pub found_regs-requires-clause-chips : goal.found_regs-requires-clause-chips
found_regs-requires-clause-chips c = (early_none c.args.before c.args.setup.now c.args.drafted (sym c.early_fault.ensures ∙ c.in_default.is)).0

pub finish-requires-clause-untied : goal.finish-requires-clause-untied
finish-requires-clause-untied c =
    built_is_untied c.args.drafted.board (early_none c.args.before c.args.setup.now c.args.drafted (sym c.early_fault.ensures ∙ c.in_default.is)).1
