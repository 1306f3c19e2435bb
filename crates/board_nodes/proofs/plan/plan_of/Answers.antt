use Rattle.std.proofs.Common.{◌≡◌, ℕ, ◌+◌, ◌++◌, ◌∙◌, ap, subst, List, Some, None, length}
use Rattle.std.proofs.lemmas.Result.{err_from_is_err_and}
use Rattle.dts_nodes.specs.Firsts.{first_of}
use Rattle.board_nodes.specs.declared.draft.Draft.{Draft}
use Rattle.board_nodes.specs.Chips.{fixed_nodes}
use Rattle.board_nodes.specs.Rails.{rails_in}
use Rattle.board_nodes.specs.Inside.Faults.{chip_faults, count_faults, rail_faults}
use Rattle.board_nodes.proofs.FaultLemmas.{first_of-behind, count-is}
use Rattle.board_nodes.proofs.RailLemmas.{fixed-there}
use Rattle.board_nodes.proofs.plan.plan_of.Goals as goal

pub returns-in_err-check_count-clause-fault : goal.returns-in_err-check_count-clause-fault
returns-in_err-check_count-clause-fault c =
    let nodes = c.args.tree.now in
    let exit = err_from_is_err_and c.from_residual-in_err-check_count.result c.from_residual-in_err-check_count.ensures.1 in
    let fixed : c.as_slice-fixed.result.now ≡ fixed_nodes nodes = c.as_slice-fixed.ensures ∙ c.in_ok-survey.ensures.fixed in
    let count : length c.as_slice.result.now + length c.as_slice-fixed.result.now ≡ length (rails_in nodes) =
    ap (λ (drafts : List Draft). length drafts + length c.as_slice-fixed.result.now) c.as_slice.ensures
    ∙ count-is nodes c.in_ok-survey.survey.chips c.in_ok-chips.chips c.in_ok-plan.plan c.as_slice-fixed.result.now c.in_ok-survey.ensures.chips c.in_ok-plan.ensures fixed in
    let fault = c.in_err-check_count.field-0.0 in
    let told : first_of (rail_faults nodes) ≡ Some fault = subst (λ (n : ℕ). first_of (count_faults n) ≡ Some fault) count c.in_err-check_count.ensures.fault in
    let whole : first_of (chip_faults nodes ++ rail_faults nodes) ≡ Some fault = first_of-behind (chip_faults nodes) (rail_faults nodes) c.in_ok-chips.ensures.none ∙ told in
    rw (exit.1, exit.2) (λ other. whole)

pub put_fixed-requires-clause-inside : goal.put_fixed-requires-clause-inside
put_fixed-requires-clause-inside c = rw (c.as_slice-fixed.ensures, c.in_ok-survey.ensures.fixed) (fixed-there c.args.tree.now)

pub returns-clause-rails : goal.returns-clause-rails
returns-clause-rails c =
    let nodes = c.args.tree.now in
    let fixed : c.as_slice-fixed.result.now ≡ fixed_nodes nodes = c.as_slice-fixed.ensures ∙ c.in_ok-survey.ensures.fixed in
    let count : length c.as_slice.result.now + length c.as_slice-fixed.result.now ≡ length (rails_in nodes) =
    ap (λ (drafts : List Draft). length drafts + length c.as_slice-fixed.result.now) c.as_slice.ensures
    ∙ count-is nodes c.in_ok-survey.survey.chips c.in_ok-chips.chips c.in_ok-plan.plan c.as_slice-fixed.result.now c.in_ok-survey.ensures.chips c.in_ok-plan.ensures fixed in
    subst (λ (n : ℕ). first_of (count_faults n) ≡ None) count c.in_ok-check_count.ensures.none
