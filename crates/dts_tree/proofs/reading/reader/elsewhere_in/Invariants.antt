use Rattle.std.proofs.Common.{◌≡◌, map, drop}
use Rattle.dts_tree.specs.Content.{elsewhere}
use Rattle.dts_tree.specs.Inside.Reader.{label_in}
use Rattle.dts_tree.proofs.reading.reader.elsewhere_in.Given as goal

abbrev pub invariant-loop-token : goal.invariant-loop-token
invariant-loop-token l = elsewhere l.labels l.node (map (label_in l.text) (drop l.token-index l.waiting)) ≡ elsewhere l.labels l.node (map (label_in l.text) l.waiting)
