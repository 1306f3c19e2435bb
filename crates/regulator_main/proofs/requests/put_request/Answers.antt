use Rattle.std.proofs.Common.{◌≡◌, ℕ, suc, ◌+◌, Some, length, refl, sym, ap, ◌∙◌, arith}
use Rattle.std.specs.Prelude.{slice_get, slice_set}
use Rattle.regulator_main.proofs.Asking.{changed_first, asked_anew, length-changed_first, next_unchanged, one_more_changed, one_more_same, all_changed}
use Rattle.regulator_main.proofs.requests.put_request.Goals as goal
use Rattle.regulator_main.proofs.requests.put_request.Goals.{then-is_own, else-is_own}

pub loop-at-init : goal.loop-at-init
loop-at-init c = refl

pub entry_at-entry-requires : goal.entry_at-entry-requires
entry_at-entry-requires c =
    omega (arith, ap length c.as_slice.ensures, ap length c.loop-at.invariant, length-changed_first (asked_anew c.args.worker c.args.name.now.bytes c.args.request) c.loop-at.at c.args.handles.now, c.loop-at-test.true, c.len-at-end.ensures)

pub set-requires : goal.set-requires
set-requires c =
    omega (arith, ap length c.loop-at.invariant, length-changed_first (asked_anew c.args.worker c.args.name.now.bytes c.args.request) c.loop-at.at c.args.handles.now, c.loop-at-test.true, c.len-at-end.ensures)

pub loop-at-preserved : goal.loop-at-preserved
loop-at-preserved c =
    let change = asked_anew c.args.worker c.args.name.now.bytes c.args.request in
    let here : slice_get c.args.handles.now c.loop-at.at ≡ Some c.entry_at-entry.result =
    sym (next_unchanged change c.loop-at.at c.args.handles.now) ∙ ap (λ hs. slice_get hs c.loop-at.at) (sym (c.as_slice.ensures ∙ c.loop-at.invariant)) ∙ c.entry_at-entry.ensures in
    let plus : suc c.loop-at.at ≡ c.loop-at.at + 1 = omega arith in
    let next = ap (λ (n : ℕ). changed_first change n c.args.handles.now) plus in
    elim c.if-is_own.branch [
      | then-is_own w ↦
          let anew : (c.entry_at-entry.result.0, w.asking.result) ≡ change c.entry_at-entry.result = rw (← c.is_own.ensures, w.if-is_own.true, w.asking.ensures) refl in
          w.handles-is ∙ w.set.ensures ∙ ap (slice_set c.loop-at.handles c.loop-at.at) anew
          ∙ ap (λ hs. slice_set hs c.loop-at.at (change c.entry_at-entry.result)) c.loop-at.invariant
          ∙ one_more_changed change c.loop-at.at c.args.handles.now c.entry_at-entry.result here ∙ next
      | else-is_own w ↦
          w.handles-is ∙ c.loop-at.invariant
          ∙ one_more_same change c.loop-at.at c.args.handles.now c.entry_at-entry.result here (rw (← c.is_own.ensures, w.if-is_own.false) refl) ∙ next
    ]

pub returns : goal.returns
returns c =
    c.loop-at.invariant
    ∙ all_changed (asked_anew c.args.worker c.args.name.now.bytes c.args.request) c.loop-at.at c.args.handles.now (omega (arith, c.loop-at-test.false))
