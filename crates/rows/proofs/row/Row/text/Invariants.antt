use Rattle.std.proofs.Common.{◌≡◌, ◌++◌, take, flat_map, string_bytes}
use Rattle.rows.specs.Row.{write_text}
use Rattle.rows.proofs.row.Row.text.Given as goal

-- the text so far is what it was, and the writes so far behind it
abbrev pub invariant-loop-write : goal.invariant-loop-write
invariant-loop-write l =
    string_bytes l.text ≡ string_bytes l.initial.text ++ flat_map write_text (take l.write-index l.write-items)
