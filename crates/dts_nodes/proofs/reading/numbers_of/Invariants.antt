use Rattle.std.proofs.Common.{◌≡◌, drop}
use Rattle.dts_nodes.specs.Forms.{numbers_of}
use Rattle.dts_nodes.proofs.NumberLemmas.{joined}
use Rattle.dts_nodes.proofs.reading.numbers_of.Given as goal

abbrev pub invariant-loop-cell : goal.invariant-loop-cell
invariant-loop-cell l = numbers_of l.cells ≡ joined l.numbers.items (numbers_of (drop l.cell-index l.cells))
