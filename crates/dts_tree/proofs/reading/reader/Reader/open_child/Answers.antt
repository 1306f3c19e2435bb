use Rattle.std.proofs.Common.{◌∙◌, ℕ, List, ◌+◌, ap, sym, length, map, subst, arith}
use Rattle.name_map.specs.NameEntries.{size_of}
use Rattle.name_map.proofs.KeptLemmas.{size-length}
use Rattle.dts_tree.specs.Content.{with_labels}
use Rattle.dts_tree.specs.Inside.Reader.{name_in, label_in, waiting_size}
use Rattle.dts_tree.proofs.ReaderLemmas.{IsOpened, opened_is, held_opened, child_fits, size-keep, name-length, labels-size}
use Rattle.dts_tree.proofs.reading.reader.Reader.open_child.Goals as goal

pub elsewhere-requires : goal.elsewhere-requires
elsewhere-requires c = omega (arith, c.requires.room, size-length c.args.self.now.store.children)

pub keep-requires : goal.keep-requires
keep-requires c = omega (arith, c.requires.room, ap length c.slice_of-word.ensures, name-length c.args.text.now c.args.name.now)

pub overflow_add-node : goal.overflow_add-node
overflow_add-node c =
    let fits = child_fits c.args.self.now.store.children c.keep.new.self (c.here-parent.result, c.slice_of-word.result.now) (record { at = c.args.name.now.start; depth = c.depth-depth.result + 1 }) c.in_ok-place.place c.in_ok-place.ensures.ok c.in_ok-place.ensures.inside (omega (arith, c.requires.room, ap length c.slice_of-word.ensures, name-length c.args.text.now c.args.name.now)) in
    omega (arith, fits)

module _ (c : goal.After-self-1) where
  abbrev Opens : List ℕ → Type 0
  Opens word = IsOpened c.args.text.now c.args.self.now.spot c.args.self.now.bodies.items c.args.self.now.waiting.items c.args.self.now.from c.args.self.now.pieces.items c.args.self.now.store word c.args.name.now.start c.depth-depth.result c.in_ok-place.place c.keep.new.self c.put_labels.new.labels c.here-parent.result

  opens_word : Opens c.slice_of-word.result.now
  opens_word = record {
    free = sym c.in_default.is ∙ c.elsewhere.ensures;
    deep = c.depth-depth.ensures;
    shallow = c.if-depth-ge-DEEPEST.false;
    put = c.in_ok-place.ensures.ok;
    there = c.in_ok-place.ensures.place;
    labelled = c.in_ok-put_labels.ensures ∙ ap (λ ws. with_labels c.args.self.now.store.labels (c.in_ok-place.place + 1) (map (label_in c.args.text.now) ws)) c.as_slice.ensures.value;
  }

  opens : Opens (name_in c.args.text.now c.args.name.now)
  opens = subst Opens c.slice_of-word.ensures opens_word

pub returns-clause-view : goal.returns-clause-view
returns-clause-view c =
    let r = c.args.self.now in
    let text = c.args.text.now in
    opened_is text r.spot r.bodies.items r.waiting.items r.from r.pieces.items r.store (name_in text c.args.name.now) c.args.name.now.start c.depth-depth.result c.in_ok-place.place c.keep.new.self c.put_labels.new.labels c.here-parent.result c.here-parent.ensures.here (opens c) c.push.new.self.items c.clear.new.self.items c.in_ok-push.ensures.items c.clear.ensures.items

pub returns-clause-kept : goal.returns-clause-kept
returns-clause-kept c =
    let r = c.args.self.now in
    let text = c.args.text.now in
    held_opened text r.spot r.bodies.items r.waiting.items r.from r.pieces.items r.store (name_in text c.args.name.now) c.args.name.now.start c.depth-depth.result c.in_ok-place.place c.keep.new.self c.put_labels.new.labels c.here-parent.result c.here-parent.ensures.inside (opens c) c.requires.kept c.push.new.self.items c.in_ok-push.ensures.items

pub returns-clause-counted : goal.returns-clause-counted
returns-clause-counted c = λ n h.
    let r = c.args.self.now in
    let text = c.args.text.now in
    let word = name_in text c.args.name.now in
    let o = opens c in
    let more = size-keep r.store.children (c.here-parent.result, word) (record { at = c.args.name.now.start; depth = c.depth-depth.result + 1 }) in
    let labelled = labels-size text (c.in_ok-place.place + 1) r.waiting.items r.store.labels in
    (omega (arith, h.0, c.requires.spot, more, name-length text c.args.name.now, ap size_of o.put), omega (arith, h.1, c.requires.spot), omega (arith, h.2, c.requires.spot, labelled, ap size_of o.labelled, ap waiting_size c.clear.ensures.items))
