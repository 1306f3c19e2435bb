use Rattle.std.proofs.Common.{◌≡◌, take}
use Rattle.std.specs.Prelude.{string_bytes}
use Rattle.board_nodes.specs.Rails.{printed}
use Rattle.board_nodes.proofs.names.printed.Given as goal

abbrev pub invariant-loop-byte : goal.invariant-loop-byte
invariant-loop-byte l = string_bytes l.name ≡ printed (take l.byte-index l.bytes)
