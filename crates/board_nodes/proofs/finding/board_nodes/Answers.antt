use Rattle.std.proofs.Common.{◌≡◌, ◌++◌, ◌∙◌, ap, sym, subst, ℕ, List, Some, None, length, map}
use Rattle.std.proofs.lemmas.Result.{err_from_is_err_and}
use Rattle.dts_nodes.specs.Firsts.{first_of}
use Rattle.board_nodes.specs.Chips.{chip_count}
use Rattle.board_nodes.specs.Rails.{Found, seen, rails_in}
use Rattle.board_nodes.specs.Sound.{IsSoundRail, StandsIn}
use Rattle.board_nodes.specs.Faults.{names_in, nodes_fault}
use Rattle.board_nodes.specs.Inside.Drafts.{name_of}
use Rattle.board_nodes.specs.Inside.Faults.{chip_faults, rail_faults, name_faults_of}
use Rattle.board_nodes.proofs.FaultLemmas.{first_of-behind}
use Rattle.board_nodes.proofs.NameLemmas.{names-found}
use Rattle.board_nodes.proofs.SoundLemmas.{all-seen, none-share-seen, rails-sound, rails-stand, rails-apart}
use Rattle.board_nodes.proofs.finding.board_nodes.Goals as goal

pub returns-in_err-check_names-clause-fault : goal.returns-in_err-check_names-clause-fault
returns-in_err-check_names-clause-fault c =
    let nodes = c.args.tree.now in
    let exit = err_from_is_err_and c.from_residual-in_err-check_names.result c.from_residual-in_err-check_names.ensures.1 in
    let fault = c.in_err-check_names.field-0.0 in
    let names : map name_of c.as_slice.result.now ≡ names_in nodes =
    ap (map name_of) c.as_slice.ensures ∙ sym (names-found c.in_ok-plan.plan.drafts) ∙ ap (λ (fs : List Found). map (λ rail. rail.name) fs) c.in_ok-plan.ensures.plan.rails in
    let told : first_of (name_faults_of (names_in nodes)) ≡ Some fault = subst (λ (ns : List (List ℕ)). first_of (name_faults_of ns) ≡ Some fault) names c.in_err-check_names.ensures.fault in
    let whole : nodes_fault nodes ≡ Some fault =
    first_of-behind (chip_faults nodes) (rail_faults nodes ++ name_faults_of (names_in nodes)) c.in_ok-plan.ensures.chips
    ∙ first_of-behind (rail_faults nodes) (name_faults_of (names_in nodes)) c.in_ok-plan.ensures.rails
    ∙ told in
    rw (exit.1, exit.2) (λ other. whole)

pub returns-clause-none : goal.returns-clause-none
returns-clause-none c =
    let nodes = c.args.tree.now in
    let names : map name_of c.as_slice.result.now ≡ names_in nodes =
    ap (map name_of) c.as_slice.ensures ∙ sym (names-found c.in_ok-plan.plan.drafts) ∙ ap (λ (fs : List Found). map (λ rail. rail.name) fs) c.in_ok-plan.ensures.plan.rails in
    first_of-behind (chip_faults nodes) (rail_faults nodes ++ name_faults_of (names_in nodes)) c.in_ok-plan.ensures.chips
    ∙ first_of-behind (rail_faults nodes) (name_faults_of (names_in nodes)) c.in_ok-plan.ensures.rails
    ∙ subst (λ (ns : List (List ℕ)). first_of (name_faults_of ns) ≡ None) names c.in_ok-check_names.ensures.none

pub returns-clause-sound : goal.returns-clause-sound
returns-clause-sound c =
    let nodes = c.args.tree.now in
    let rails : map seen c.in_ok-rails.rails ≡ rails_in nodes = c.in_ok-rails.ensures ∙ c.in_ok-plan.ensures.plan.rails in
    rw c.in_ok-plan.ensures.plan.chips (all-seen (IsSoundRail (chip_count nodes)) c.in_ok-rails.rails (rails_in nodes) rails (rails-sound nodes c.in_ok-plan.ensures.plan.sound))

pub returns-clause-apart : goal.returns-clause-apart
returns-clause-apart c =
    let nodes = c.args.tree.now in
    let rails : map seen c.in_ok-rails.rails ≡ rails_in nodes = c.in_ok-rails.ensures ∙ c.in_ok-plan.ensures.plan.rails in
    none-share-seen c.in_ok-rails.rails (rails_in nodes) rails (rails-apart nodes c.in_ok-plan.ensures.plan.sound)

pub returns-clause-nodes : goal.returns-clause-nodes
returns-clause-nodes c =
    let nodes = c.args.tree.now in
    let rails : map seen c.in_ok-rails.rails ≡ rails_in nodes = c.in_ok-rails.ensures ∙ c.in_ok-plan.ensures.plan.rails in
    all-seen (StandsIn (length nodes)) c.in_ok-rails.rails (rails_in nodes) rails (rails-stand nodes c.in_ok-plan.ensures.plan.sound)
