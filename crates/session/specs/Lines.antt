-- A text as lines.
use Rattle.std.specs.Prelude.{ℕ, ◌-◌, ◌==◌, List, [], length, take}
use Rattle.std.specs.List.{slice_split}
use Rattle.std.specs.Prelude.{slice_index_or}

-- the pieces of a text between its newlines; the last one is ended by no newline
abbrev pub pieces : List ℕ → List (List ℕ)
pieces bytes = slice_split (λ byte. byte == 10) bytes

-- the whole lines of a text, each without its newline
abbrev pub lines_of : List ℕ → List (List ℕ)
lines_of bytes = take (length (pieces bytes) - 1) (pieces bytes)

-- what stands after the last newline of a text
abbrev pub unended : List ℕ → List ℕ
unended bytes = slice_index_or (pieces bytes) (length (pieces bytes) - 1) []
