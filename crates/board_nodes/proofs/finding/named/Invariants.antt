use Rattle.std.proofs.Common.{◌≡◌, map}
use Rattle.board_nodes.specs.Rails.{seen}
use Rattle.board_nodes.specs.Inside.Drafts.{found_in}
use Rattle.board_nodes.proofs.finding.named.Given as goal

abbrev pub invariant-loop-draft : goal.invariant-loop-draft
invariant-loop-draft l = map seen l.rails ≡ map found_in l.yielded
