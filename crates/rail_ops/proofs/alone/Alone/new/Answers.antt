use Rattle.std.proofs.Common.{ℕ, ◌≤◌, Bool, List, subst, sym, length}
use Rattle.plain_board.specs.Handles.{Entry, count_own}
use Rattle.plain_board.specs.Refusals.{most_handles}
use Rattle.rail_ops.specs.Inside.Alone.{AreBooks, blank, with_rows}
use Rattle.rail_ops.proofs.AloneShown.{shown}
use Rattle.rail_ops.proofs.alone.Alone.new.Goals as goal

pub returns-clause-shows : goal.returns-clause-shows
returns-clause-shows c =
    let plain = c.args.plain in
    let votes = c.in_ok-votes.votes.items in
    let blanks = c.in_ok-blank.blank.items in
    let states = c.in_ok-states.states.items in
    let are : AreBooks (length plain.events) (blank plain.holds votes plain.events plain.suspended) blanks =
    subst (λ (holds : List Bool). AreBooks (length plain.events) (blank holds votes plain.events plain.suspended) blanks) c.as_slice.ensures
    (subst (λ (counted : List ℕ). AreBooks (length plain.events) (blank c.as_slice.result.now counted plain.events plain.suspended) blanks) c.as_slice-2.ensures.value c.in_ok-blank.ensures) in
    let made : AreBooks (length blanks) (with_rows blanks plain.handles) states =
    subst (λ (n : ℕ). AreBooks n (with_rows blanks plain.handles) states) c.in_ok-blank.blank.ok.0
    (subst (λ (handles : List Entry). AreBooks c.in_ok-blank.blank.len (with_rows blanks handles) states) c.as_slice-3.ensures c.in_ok-states.ensures) in
    shown c.args.board.now plain c.requires.valid c.requires.inv votes blanks states c.in_ok-votes.ensures are made

pub with_handles-requires-clause-few : goal.with_handles-requires-clause-few
with_handles-requires-clause-few c =
    subst (λ (handles : List Entry). (worker : ℕ) → count_own handles worker ≤ most_handles) (sym c.as_slice-3.ensures) c.requires.inv.kept.few
