use Rattle.std.proofs.Common.{◌≡◌, ◌≢◌, ◌+◌, ◌≤◌, ◌<◌, ◌∷◌, [], ℕ, List, Some, true, false, refl, sym, ap, subst, ◌∙◌, arith, slice_get, Contains}
use Rattle.reg_outside.specs.Bus.{told_by}
use Rattle.board.specs.declared.board.Board.{Board}
use Rattle.board.specs.declared.part.Part.TheVariants.{Selector}
use Rattle.board.specs.Rail.{allowed, uv}
use Rattle.board.specs.Valid.{IsValid}
use Rattle.rail_law.specs.Way.{move_of}
use Rattle.rail_state.specs.Sight.{IsGuarded}
use Rattle.rail_ops.specs.Inside.Seen.{told_at}
use Rattle.rail_ops.specs.Inside.Supplied.{HavePlaces}
use Rattle.rail_ops.specs.Inside.Walking.{SeesLawful}
use Rattle.rail_ops.specs.Sight.{shown_by}
use Rattle.rail_ops.specs.Taking.{Tells, updates_of}
use Rattle.rail_ops.proofs.Selected.{has_selector, may_change, uv_by_look}
use Rattle.rail_ops.proofs.Walked.{Goes, goes_none, goes_on, look_same, stands_among, went_all, went_refused}
use Rattle.rail_ops.proofs.walking.walk.Given as given
use Rattle.rail_ops.proofs.walking.walk.Goals as goal
use Rattle.rail_ops.proofs.walking.walk.Goals.{After-seen_uv-at}

valid_here : (g : given.Over) (c : After-seen_uv-at g) → IsValid (g.R.Rails.board c.args.rails.now)
valid_here g c = subst IsValid (sym c.requires.board) c.requires.valid

at_here : (g : given.Over) (c : After-seen_uv-at g) → slice_get (g.R.Rails.board c.args.rails.now).rails c.args.r.0 ≡ Some c.args.rail.now
at_here g c = ap (λ (b : Board). slice_get b.rails c.args.r.0) c.requires.board ∙ c.requires.there

-- what was seen first is where the rail stands
stands : (g : given.Over) (c : After-seen_uv-at g) (regs : List (List ℕ)) → SeesLawful (shown_by g.R.Rails.board g.R.Rails.rails g.R.Rails.bits g.R.Rails.states c.args.rails.now) regs → c.seen_uv-at.result ≡ uv c.args.rail.now regs
stands g c regs seen =
    let first = shown_by g.R.Rails.board g.R.Rails.rails g.R.Rails.bits g.R.Rails.states c.args.rails.now in
    c.seen_uv-at.ensures.value ∙ ap (λ (b : Board). told_at b c.args.r.0 (first.bits c.args.r.0 Selector)) (sym c.requires.board)
    ∙ uv_by_look first regs seen.look c.args.r.0 c.args.rail.now (at_here g c) (subst (λ (b : Board). IsGuarded b first.rails c.args.r.0) (sym c.requires.board) c.requires.guarded)

pub loop-at-init : goal.loop-at-init
loop-at-init g c =
    let first = shown_by g.R.Rails.board g.R.Rails.rails g.R.Rails.bits g.R.Rails.states c.args.rails.now in
    let now = shown_by g.R.Rails.board g.R.Rails.rails g.R.Rails.bits g.R.Rails.states c.seen_uv-at.new.rails in
    let bus = told_by g.W.Wire.accepted g.W.Wire.plan g.W.Wire.faults c.args.wire.now in
    let same = c.seen_uv-at.ensures.same in
    let d = (goal.at.loop-at-init g c).After-seen_uv-at in
    let one = c.requires.seen in
    record {
      goes = λ regs seen. goes_none first (valid_here g d) c.args.r.0 c.args.rail.now (at_here g d) c.args.target regs seen now bus c.seen_uv-at.result (stands g d regs seen) (look_same first now regs same seen.look);
      among = subst (Contains (allowed c.args.rail.now)) (sym (stands g d one.0 one.1)) (stands_among first (valid_here g d) c.args.r.0 c.args.rail.now (at_here g d) c.args.target one.0 one.1);
      bound = omega arith;
      books = same.books;
      fits = c.seen_uv-at.ensures.fits;
      board = same.board;
      rails = same.rails;
      base = c.seen_uv-at.ensures.base;
    }

pub put_selector-requires-clause-owned : goal.put_selector-requires-clause-owned
put_selector-requires-clause-owned g c i guards = subst (λ (rs : List ℕ). Contains rs i) (sym c.loop-at.invariant.rails) (c.requires.owned i guards)

pub put_selector-requires-clause-changeable : goal.put_selector-requires-clause-changeable
put_selector-requires-clause-changeable g c = may_change c.args.rail.now c.loop-at.at c.args.target c.loop-at.invariant.among c.requires.allowed c.loop-at-test.true

pub returns-then-not-put_selector-clause-went : goal.returns-then-not-put_selector-clause-went
returns-then-not-put_selector-clause-went g c regs seen =
    let first = shown_by g.R.Rails.board g.R.Rails.rails g.R.Rails.bits g.R.Rails.states c.args.rails.now in
    let now = shown_by g.R.Rails.board g.R.Rails.rails g.R.Rails.bits g.R.Rails.states c.loop-at.rails in
    let after = shown_by g.R.Rails.board g.R.Rails.rails g.R.Rails.bits g.R.Rails.states c.put_selector.new.rails in
    let bus = told_by g.W.Wire.accepted g.W.Wire.plan g.W.Wire.faults c.args.wire.now in
    let mid = told_by g.W.Wire.accepted g.W.Wire.plan g.W.Wire.faults c.loop-at.wire in
    let bus' = told_by g.W.Wire.accepted g.W.Wire.plan g.W.Wire.faults c.put_selector.new.wire in
    let d = (goal.at.returns-then-not-put_selector-clause-went g c).After-seen_uv-at in
    let goes = c.loop-at.invariant.goes regs seen in
    went_refused first (valid_here g d) c.args.r.0 c.args.rail.now (at_here g d) c.args.target regs seen now bus mid c.loop-at.made c.loop-at.at goes c.toward-pick.result.uv c.toward-pick.ensures.next after bus'
    (look_same now after _ (c.if-not-put_selector.ensures.refused refl) goes.look) (c.if-not-put_selector.ensures.stopped refl)

pub loop-at-preserved : goal.loop-at-preserved
loop-at-preserved g c =
    let first = shown_by g.R.Rails.board g.R.Rails.rails g.R.Rails.bits g.R.Rails.states c.args.rails.now in
    let now = shown_by g.R.Rails.board g.R.Rails.rails g.R.Rails.bits g.R.Rails.states c.loop-at.rails in
    let after = shown_by g.R.Rails.board g.R.Rails.rails g.R.Rails.bits g.R.Rails.states c.put_selector.new.rails in
    let bus = told_by g.W.Wire.accepted g.W.Wire.plan g.W.Wire.faults c.args.wire.now in
    let mid = told_by g.W.Wire.accepted g.W.Wire.plan g.W.Wire.faults c.loop-at.wire in
    let bus' = told_by g.W.Wire.accepted g.W.Wire.plan g.W.Wire.faults c.put_selector.new.wire in
    let d = (goal.at.loop-at-preserved g c).After-seen_uv-at in
    let so_far = c.loop-at.invariant in
    let r = c.args.r.0 in
    let rail = c.args.rail.now in
    let pick = c.toward-pick.result in
    let changeable = may_change rail c.loop-at.at c.args.target so_far.among c.requires.allowed c.loop-at-test.true in
    let value = c.toward-pick.ensures.value changeable in
    let has = has_selector c.args.board.now c.requires.valid r rail c.requires.there changeable in
    let puts = (c.if-not-put_selector.ensures.made refl) in
    let told = subst (λ (b : Board). Tells (updates_of b (move_of b (r, pick.uv) ∷ [])) false mid bus') (sym c.requires.board) (c.if-not-put_selector.ensures.took refl) in
    record {
      goes = λ regs seen.
          goes_on first (valid_here g d) r rail (at_here g d) c.args.target regs seen now bus mid c.loop-at.made c.loop-at.at (so_far.goes regs seen) pick.uv c.toward-pick.ensures.next
          has.0 has.1 pick.sel c.toward-pick.ensures.first value (subst HavePlaces (sym c.requires.board) c.requires.places) changeable c.toward-pick.ensures.among so_far.board after bus' puts told;
      among = c.toward-pick.ensures.among;
      bound = omega (arith, so_far.bound, c.toward-pick.ensures.nearer);
      books = λ i. puts.books i ∙ so_far.books i;
      fits = c.put_selector.ensures.fits;
      board = puts.board ∙ so_far.board;
      rails = puts.rails ∙ so_far.rails;
      base = c.put_selector.ensures.base ∙ so_far.base;
    }

pub returns-clause-went : goal.returns-clause-went
returns-clause-went g c regs seen =
    let first = shown_by g.R.Rails.board g.R.Rails.rails g.R.Rails.bits g.R.Rails.states c.args.rails.now in
    let now = shown_by g.R.Rails.board g.R.Rails.rails g.R.Rails.bits g.R.Rails.states c.loop-at.rails in
    let bus = told_by g.W.Wire.accepted g.W.Wire.plan g.W.Wire.faults c.args.wire.now in
    let mid = told_by g.W.Wire.accepted g.W.Wire.plan g.W.Wire.faults c.loop-at.wire in
    let d = (goal.at.returns-clause-went g c).After-seen_uv-at in
    went_all first (valid_here g d) c.args.r.0 c.args.rail.now (at_here g d) c.args.target regs seen now bus mid c.loop-at.made c.loop-at.at (c.loop-at.invariant.goes regs seen) c.loop-at-test.false
