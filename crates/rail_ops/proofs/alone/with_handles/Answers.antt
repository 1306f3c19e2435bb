use Rattle.std.proofs.Common.{◌≡◌, ◌<◌, ◌+◌, ℕ, List, refl, sym, ap, subst, ◌∙◌, arith, length, get_or, take, slice_set}
use Rattle.std.specs.Prelude.{slice_index_or}
use Rattle.std.proofs.lemmas.List.{take_all}
use Rattle.std.proofs.lemmas.List.Elements.{All-more, All-nil}
use Rattle.plain_board.specs.Handles.{Entry}
use Rattle.rail_ops.specs.Inside.Alone.{AreBooks, no_book, with_rows}
use Rattle.rail_ops.proofs.AloneFew.{few_first}
use Rattle.rail_ops.proofs.AloneMade.{room_for, new_on_rail, handed_over}
use Rattle.rail_ops.proofs.alone.with_handles.Goals as goal

pub loop-on-init : goal.loop-on-init
loop-on-init c = record {
  books = record {
    as_many = refl;
    each = λ i within. ap (λ rows. record (slice_index_or c.args.states.items i no_book) { rows = rows }) (c.requires.blank i no_book within);
  };
  workers = All-nil (λ (entry : Entry). entry.1.worker < 65536);
}

-- the rail of a handle is there
on_rail : (handles : List Entry) (k n : ℕ) (entry : Entry) → ((i : ℕ) (d : Entry) → i < length handles → (get_or handles i d).0.0 < n) → k < length handles
    → entry ≡ get_or handles k entry → entry.0.0 < n
on_rail handles k n entry all within is = subst (λ (e : Entry). e.0.0 < n) (sym is) (all k entry within)

pub index_mut-requires : goal.index_mut-requires
index_mut-requires c =
    let all : (i : ℕ) (d : Entry) → i < length c.args.handles.now → (get_or c.args.handles.now i d).0.0 < length c.args.states.items =
    λ i d within. omega (arith, c.requires.rails i d within, c.args.states.ok.0) in
    let on = on_rail c.args.handles.now c.loop-on.on-index (length c.args.states.items) c.loop-on-item.result all c.loop-on-test.true c.loop-on-item.is in
    omega (arith, on, c.from.ensures, c.loop-on.invariant.books.as_many, c.loop-on.states.ok.0)

pub add-requires-clause-room : goal.add-requires-clause-room
add-requires-clause-room c =
    let all : (i : ℕ) (d : Entry) → i < length c.args.handles.now → (get_or c.args.handles.now i d).0.0 < length c.args.states.items =
    λ i d within. omega (arith, c.requires.rails i d within, c.args.states.ok.0) in
    let on = on_rail c.args.handles.now c.loop-on.on-index (length c.args.states.items) c.loop-on-item.result all c.loop-on-test.true c.loop-on-item.is in
    let its = c.index_mut.ensures.value ∙ ap (λ i. get_or c.loop-on.states.items i c.index_mut.result.now) c.from.ensures in
    room_for c.args.states.items c.loop-on.states.items c.args.handles.now (length c.args.states.items) c.loop-on.on-index c.loop-on-item.result c.index_mut.result.now c.loop-on.invariant.books c.loop-on-test.true c.loop-on-item.is on its (few_first c.args.handles.now c.loop-on.on-index c.requires.few (omega (arith, c.loop-on-test.true)) c.loop-on.invariant.workers)

pub add-requires-clause-new : goal.add-requires-clause-new
add-requires-clause-new c =
    let all : (i : ℕ) (d : Entry) → i < length c.args.handles.now → (get_or c.args.handles.now i d).0.0 < length c.args.states.items =
    λ i d within. omega (arith, c.requires.rails i d within, c.args.states.ok.0) in
    let on = on_rail c.args.handles.now c.loop-on.on-index (length c.args.states.items) c.loop-on-item.result all c.loop-on-test.true c.loop-on-item.is in
    let its = c.index_mut.ensures.value ∙ ap (λ i. get_or c.loop-on.states.items i c.index_mut.result.now) c.from.ensures in
    new_on_rail c.args.states.items c.loop-on.states.items c.args.handles.now (length c.args.states.items) c.loop-on.on-index c.loop-on-item.result c.index_mut.result.now c.loop-on.invariant.books c.loop-on-test.true c.loop-on-item.is on its c.requires.apart

pub loop-on-preserved : goal.loop-on-preserved
loop-on-preserved c =
    let all : (i : ℕ) (d : Entry) → i < length c.args.handles.now → (get_or c.args.handles.now i d).0.0 < length c.args.states.items =
    λ i d within. omega (arith, c.requires.rails i d within, c.args.states.ok.0) in
    let on = on_rail c.args.handles.now c.loop-on.on-index (length c.args.states.items) c.loop-on-item.result all c.loop-on-test.true c.loop-on-item.is in
    let its = c.index_mut.ensures.value ∙ ap (λ i. get_or c.loop-on.states.items i c.index_mut.result.now) c.from.ensures in
    record {
      books = subst (λ (i : ℕ). AreBooks (length c.args.states.items) (with_rows c.args.states.items (take (c.loop-on.on-index + 1) c.args.handles.now)) (slice_set c.loop-on.states.items i c.add.new.self)) (sym c.from.ensures)
          (handed_over c.args.states.items c.loop-on.states.items c.args.handles.now (length c.args.states.items) c.loop-on.on-index c.loop-on-item.result c.index_mut.result.now c.loop-on.invariant.books c.loop-on-test.true c.loop-on-item.is on its c.add.new.self c.in_ok-add.ensures.ok);
      workers = All-more (λ (entry : Entry). entry.1.worker < 65536) c.args.handles.now c.loop-on.on-index c.loop-on-item.result c.loop-on-test.true c.loop-on.invariant.workers
          (subst (λ (entry : Entry). entry.1.worker < 65536) c.loop-on-item.is c.has_number.ensures);
    }

pub returns : goal.returns
returns c =
    let all = take_all c.loop-on.on-index c.args.handles.now c.loop-on-test.false in
    let count : length c.args.states.items ≡ c.args.states.len = sym c.args.states.ok.0 in
    subst (λ (n : ℕ). AreBooks n (with_rows c.args.states.items c.args.handles.now) c.loop-on.states.items) count
    (subst (λ (es : List Entry). AreBooks (length c.args.states.items) (with_rows c.args.states.items es) c.loop-on.states.items) all c.loop-on.invariant.books)
