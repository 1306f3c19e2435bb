use Rattle.std.proofs.Common.{◌∙◌, [], not, ap}
use Rattle.std.specs.Option.{option_or}
use Rattle.std.specs.Prelude.{option_to_list}
use Rattle.std.proofs.lemmas.Result.{err_from_is_err_and}
use Rattle.dts_nodes.specs.Forms.{is_or, told_by}
use Rattle.constraints.specs.ModeCells.{allowed_numbers, initial_number, first_bad, bad_mode}
use Rattle.constraints.specs.declared.fault.RailFault.TheVariants.{BadMode}
use Rattle.constraints.proofs.ModeLemmas.{bad_mode-parts, first_told, second_told}
use Rattle.constraints.proofs.modes.modes_of.Goals as goal

pub returns-in_err-allowed-clause-fault : goal.returns-in_err-allowed-clause-fault
returns-in_err-allowed-clause-fault c =
    let p = err_from_is_err_and c.from_residual.result c.from_residual.ensures.1 in
    let nodes = c.args.tree.now in
    let node = c.args.node in
    let desc = c.args.desc.now in
    let modes = c.is_none.ensures ∙ ap not c.if-is_none.false in
    rw (p.1, p.2) (λ ne.
    first_told (λ n. BadMode c.args.rail n) (first_bad (is_or [] (allowed_numbers nodes node))) (first_bad (option_to_list (told_by (initial_number nodes node))))
    (bad_mode nodes node desc) c.in_err-allowed.field-0.0 (bad_mode-parts nodes node desc modes) (c.in_err-allowed.ensures.fault ne))

pub returns-in_err-initial-clause-fault : goal.returns-in_err-initial-clause-fault
returns-in_err-initial-clause-fault c =
    let p = err_from_is_err_and c.from_residual-in_err-initial.result c.from_residual-in_err-initial.ensures.1 in
    let nodes = c.args.tree.now in
    let node = c.args.node in
    let desc = c.args.desc.now in
    let modes = c.is_none.ensures ∙ ap not c.if-is_none.false in
    rw (p.1, p.2) (λ ne.
    second_told (λ n. BadMode c.args.rail n) (first_bad (is_or [] (allowed_numbers nodes node))) (first_bad (option_to_list (told_by (initial_number nodes node))))
    (bad_mode nodes node desc) c.in_err-initial.field-0.0 (bad_mode-parts nodes node desc modes) c.in_ok-allowed.ensures.none (c.in_err-initial.ensures.fault ne))

pub returns-clause-none : goal.returns-clause-none
returns-clause-none c =
    let nodes = c.args.tree.now in
    let node = c.args.node in
    let desc = c.args.desc.now in
    let modes = c.is_none.ensures ∙ ap not c.if-is_none.false in
    bad_mode-parts nodes node desc modes
    ∙ ap (λ o. option_or o (first_bad (option_to_list (told_by (initial_number nodes node))))) c.in_ok-allowed.ensures.none
    ∙ c.in_ok-initial.ensures.none
