use Rattle.std.proofs.Common.{◌≡◌, ◌∙◌, ℕ, List, ap, length, refl, arith}
use Rattle.ordered_map.specs.Entries.{insert_entry}
use Rattle.name_map.specs.NameEntries.{same_name, size_of}
use Rattle.dts_tree.specs.declared.reading.spot.Spot.TheVariants as spot
use Rattle.dts_tree.specs.Inside.Reader.{name_in}
use Rattle.dts_tree.proofs.ReaderLemmas.{view_set_is, held_set, size-insert, name-length}
use Rattle.dts_tree.proofs.reading.reader.Reader.set.Goals as goal

-- where the pieces end
long : (c : goal.After-self-2-1) → c.len-to.result ≡ length c.args.self.now.pieces.items
long c = c.len-to.ensures ∙ c.args.self.now.pieces.ok.0

put : (c : goal.After-self-2-1) → c.insert.new.self ≡ insert_entry same_name c.args.self.now.store.properties (c.here-node.result, name_in c.args.text.now c.args.name.now) (record { from = c.args.self.now.from; to = length c.args.self.now.pieces.items })
put c =
    let r = c.args.self.now in
    c.in_ok-insert.ensures.ok
    ∙ ap (λ (w : List ℕ). insert_entry same_name r.store.properties (c.here-node.result, w) (record { from = r.from; to = c.len-to.result })) c.slice_of.ensures
    ∙ ap (λ (k : ℕ). insert_entry same_name r.store.properties (c.here-node.result, name_in c.args.text.now c.args.name.now) (record { from = r.from; to = k })) (long c)

pub returns-clause-view : goal.returns-clause-view
returns-clause-view c =
    let r = c.args.self.now in
    rw (long c) (view_set_is r.from r.pieces.items r.bodies.items r.store c.requires.kept c.here-node.result (name_in c.args.text.now c.args.name.now) c.here-node.ensures.inside c.args.text.now r.spot spot.Inside r.waiting.items c.insert.new.self refl c.here-node.ensures.here (put c))

pub returns-clause-kept : goal.returns-clause-kept
returns-clause-kept c =
    let r = c.args.self.now in
    rw (long c) (held_set r.from r.pieces.items r.bodies.items r.store c.requires.kept c.here-node.result (name_in c.args.text.now c.args.name.now) c.here-node.ensures.inside c.insert.new.self (put c))

pub returns-clause-counted : goal.returns-clause-counted
returns-clause-counted c = λ n h.
    let r = c.args.self.now in
    let word = name_in c.args.text.now c.args.name.now in
    let more = size-insert r.store.properties (c.here-node.result, word) (record { from = r.from; to = length r.pieces.items }) in
    (omega (arith, h.0, c.requires.spot), omega (arith, h.1, c.requires.spot, more, name-length c.args.text.now c.args.name.now, ap size_of (put c)), omega (arith, h.2, c.requires.spot))

pub insert-requires : goal.insert-requires
insert-requires c = omega (arith, c.requires.room, ap length c.slice_of.ensures, name-length c.args.text.now c.args.name.now)
