use Rattle.std.proofs.Common.{◌≤◌, ℕ, List, Ok, ◌∙◌, ap, sym, length, reverse, arith}
use Rattle.name_map.specs.NameEntries.{same_name}
use Rattle.dts_tree.specs.Inside.View.{View, view_added}
use Rattle.dts_tree.specs.Inside.View as view
use Rattle.dts_tree.specs.Inside.Reader.{view_of}
use Rattle.dts_tree.proofs.ReaderLemmas.{reverse-push, lookup-all, numbers-push}
use Rattle.dts_tree.proofs.reading.reader.Reader.item.Goals as goal

pub returns-in_ok-push-in-Some-clause-ok : goal.returns-in_ok-push-in-Some-clause-ok
returns-in_ok-push-in-Some-clause-ok c =
    let r = c.args.self.now in
    let v = view_of c.args.text.now r in
    let held = c.requires.ready.kept in
    let k = c.in-Some.node.now in
    let count = length r.store.children in
    let inside = lookup-all (λ n. n ≤ count) (same_name (0, c.args.inner.now)) r.store.labels k held.labels (sym c.in-Some.ensures) in
    record {
      view = rw (c.in-Ref.is, ← c.in-Some.ensures) (ap (λ (ks : List ℕ). Ok (record v { spot = view.Added; bodies = ks })) (sym (ap reverse c.in_ok-push-in-Some.ensures.items ∙ reverse-push r.bodies.items k)));
      kept = record {
        from = held.from;
        bodies = rw c.in_ok-push-in-Some.ensures.items (numbers-push count r.bodies.items k held.bodies inside);
        earlier = held.earlier;
        labels = held.labels;
        owners = held.owners;
        ranges = held.ranges;
      };
      counted = (omega (arith, c.requires.ready.counted.0, c.requires.ready.token.0, c.requires.spot), omega (arith, c.requires.ready.counted.1, c.requires.ready.token.0, c.requires.spot), omega (arith, c.requires.ready.counted.2, c.requires.ready.token.0, c.requires.spot));
    }
