use Rattle.std.proofs.Common.{◌≡◌, ◌<◌, ◌≤◌, ◌+◌, ℕ, length, get_or, set, sym, ap, ◌∙◌, subst, arith}
use Rattle.std.specs.Prelude.{slice_index}
use Rattle.std.proofs.lemmas.List.{get_or_default, with_items_is}
use Rattle.board.specs.declared.rail.Rail.{Rail}
use Rattle.board_load.proofs.Walks.{IsWrittenTo, unwritten, written_more, written_size, written_all}
use Rattle.board_load.proofs.finishing.kept_rails.Goals as goal

pub loop-r-preserved : goal.loop-r-preserved
loop-r-preserved c =
    let rails = c.args.rails in
    let values = c.args.values.now in
    let now = c.loop-r.rail-items in
    let k = c.loop-r.r in
    let keep : ℕ × Rail → Rail = λ rail. record rail.1 { kept_uv = slice_index values rail.0 } in
    let size : length c.deref_mut-rail-items.result.now ≡ length rails = ap length (c.deref_mut-rail-items.ensures.value ∙ c.into_vec-rails.ensures) in
    let within : k < length rails = omega (arith, size, c.loop-r-test.true) in
    let old : Rail = get_or rails k c.rail-item.result in
    subst (λ (rail : Rail). IsWrittenTo keep rails (k + 1) (set now k (record rail { kept_uv = slice_index values k })))
    (sym (unwritten keep rails k now c.rail-item.result within c.loop-r.invariant))
    (written_more keep rails k now old within c.loop-r.invariant (get_or_default rails k c.rail-item.result old within))

pub returns : goal.returns
returns c =
    let rails = c.args.rails in
    let keep : ℕ × Rail → Rail = λ rail. record rail.1 { kept_uv = slice_index c.args.values.now rail.0 } in
    let size : length c.deref_mut-rail-items.result.now ≡ length rails = ap length (c.deref_mut-rail-items.ensures.value ∙ c.into_vec-rails.ensures) in
    let past : length rails ≤ c.loop-r.r = omega (arith, size, c.loop-r-test.false) in
    let now = c.loop-r.rail-items in
    let most : c.loop-r.r ≤ length rails = omega (arith, size, c.loop-r.auto.r-end) in
    let same = written_size keep rails c.loop-r.r now most c.loop-r.invariant in
    let items = ap length c.into_vec-rails.ensures in
    let all : length now ≡ c.into_vec-rails.result.len = let ok = c.into_vec-rails.result.ok.0 in omega (arith, same, items, ok) in
    c.from_vec.ensures ∙ with_items_is c.into_vec-rails.result now all ∙ written_all keep rails c.loop-r.r c.loop-r.rail-items past c.loop-r.invariant
