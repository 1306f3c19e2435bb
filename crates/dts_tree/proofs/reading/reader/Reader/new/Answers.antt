use Rattle.dts_tree.proofs.ReaderLemmas.{new_view}
use Rattle.dts_tree.proofs.reading.reader.Reader.new.Goals as goal

pub returns-clause-view : goal.returns-clause-view
returns-clause-view c = λ text.
    let store = c.new-4.ensures in
    new_view text c.new.result.items c.new-2.result.items c.new-3.result.items c.new-4.result c.new.ensures.items c.new-2.ensures.items c.new-3.ensures.items store.root_at store.children store.labels store.properties
