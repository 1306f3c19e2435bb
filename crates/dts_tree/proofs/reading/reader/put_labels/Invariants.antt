use Rattle.std.proofs.Common.{◌≡◌, ◌<◌, ◌+◌, map, take, drop}
use Rattle.name_map.specs.NameEntries.{size_of}
use Rattle.dts_tree.specs.Content.{with_labels}
use Rattle.dts_tree.specs.Inside.Reader.{label_in, waiting_size}
use Rattle.dts_tree.proofs.reading.reader.put_labels.Given as goal

abbrev pub invariant-loop-token : goal.invariant-loop-token
invariant-loop-token l = record {
  room : size_of l.labels + waiting_size (drop l.token-index l.waiting) < 4294967296;
  put : l.labels ≡ with_labels l.initial.labels l.node (map (label_in l.text) (take l.token-index l.waiting));
}
