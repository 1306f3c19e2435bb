use Rattle.std.proofs.Common.{◌≡◌, ◌++◌, ◌∙◌, ap, sym, subst, List, map}
use Rattle.std.specs.Prelude.{OnOk}
use Rattle.std.proofs.lemmas.List.{append-nil}
use Rattle.board_nodes.specs.Rails.{Found}
use Rattle.board_nodes.specs.Inside.Drafts.{found_in}
use Rattle.board_nodes.specs.Chips.{sheet_at}
use Rattle.board_nodes.specs.Inside.Sheets.{IsSoundChip}
use Rattle.board_nodes.proofs.RailLemmas.{rails_below, rails_at-none}
use Rattle.board_nodes.proofs.SoundLemmas.{sheet-sound, on_ok}
use Rattle.board_nodes.proofs.plan.put_chip.Goals as goal

pub returns-in-Some-child-clause-rails : goal.returns-in-Some-child-clause-rails
returns-in-Some-child-clause-rails c =
    let described = rw c.in-Some.is at c.in_ok-chip.ensures.described in
    let rails = rails_below c.args.tree.now c.args.number c.args.node c.in-Some.chip c.in-Some-child.regulators described (sym c.child.ensures.child ∙ c.in-Some-child.is) in
    subst (λ (fs : List Found). OnOk c.put_rails.result (map found_in c.put_rails.new.drafts ≡ map found_in c.args.plan.now.drafts ++ fs)) rails c.put_rails.ensures

pub returns-in-None-clause-rails : goal.returns-in-None-clause-rails
returns-in-None-clause-rails c =
    let described = rw c.in-Some.is at c.in_ok-chip.ensures.described in
    let none = rails_at-none c.args.tree.now c.args.number c.args.node c.in-Some.chip described (sym c.child.ensures.child ∙ c.in-None.is) in
    sym (ap (λ (fs : List Found). map found_in c.args.plan.now.drafts ++ fs) none ∙ append-nil (map found_in c.args.plan.now.drafts))

pub returns-in-Some-child-clause-sound : goal.returns-in-Some-child-clause-sound
returns-in-Some-child-clause-sound c =
    on_ok c.put_rails.result (IsSoundChip c.args.tree.now c.args.number c.args.node)
    (sheet-sound c.args.number c.in-Some.chip (sheet_at c.args.tree.now c.args.node) (rw c.in-Some.is at c.in_ok-chip.ensures.described) (rw c.in-Some.is at c.in_ok-chip.ensures.sound) (rw c.in-Some.is at c.in_ok-chip.ensures.apart))

pub returns-in-None-clause-sound : goal.returns-in-None-clause-sound
returns-in-None-clause-sound c =
    sheet-sound c.args.number c.in-Some.chip (sheet_at c.args.tree.now c.args.node) (rw c.in-Some.is at c.in_ok-chip.ensures.described) (rw c.in-Some.is at c.in_ok-chip.ensures.sound) (rw c.in-Some.is at c.in_ok-chip.ensures.apart)
