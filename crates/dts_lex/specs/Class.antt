-- The classes of bytes of which a token or a comment has a run.
use Rattle.std.specs.Prelude.{ℕ, List, Bool, ◌||◌, ◌&&◌, ◌==◌, not, slice_index, codes}
use Rattle.std.specs.List.{list_all}
use Rattle.std.specs.Char.{is_ascii_alphanumeric}
use Rattle.dts_lex.specs.Bytes.{is_in, is_label_start}
use Rattle.dts_lex.specs.declared.class.Class.{Class}
use Rattle.dts_lex.specs.declared.class.Class.TheVariants.{Word, Label, Directive, Line}

-- which bytes are of a class; 10 is the newline
unfoldable pub has : Class → ℕ → Bool
has Word b = is_ascii_alphanumeric b || is_in (codes ",._+-?#@") b
has Label b = is_ascii_alphanumeric b || is_in (codes "_") b
has Directive b = is_ascii_alphanumeric b || is_in (codes "-") b
has Line b = not (b == 10)

-- a letter or an underscore, and then letters, digits and underscores
unfoldable pub is_label : List ℕ → Bool
is_label bytes = is_label_start (slice_index bytes 0) && list_all (has Label) bytes
