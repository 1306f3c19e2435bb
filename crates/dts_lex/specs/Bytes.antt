-- The classes of bytes that tokens are made of.
use Rattle.std.specs.Prelude.{ℕ, List, Bool, ◌||◌, ◌&&◌, ◌==◌, nat_le, not, codes}
use Rattle.std.specs.List.{list_any}
use Rattle.std.specs.Char.{is_ascii_alphabetic}

-- a byte is one of those of a text
abbrev pub is_in : List ℕ → ℕ → Bool
is_in text b = list_any (λ c. b == c) text

-- space, tab, newline, carriage return
unfoldable pub is_blank : ℕ → Bool
is_blank b = b == 32 || b == 9 || b == 10 || b == 13

-- what a label begins with
unfoldable pub is_label_start : ℕ → Bool
is_label_start b = is_ascii_alphabetic b || is_in (codes "_") b

-- a sign that is a token wherever a token begins; the comma isn't among them
unfoldable pub is_sign : ℕ → Bool
is_sign b = is_in (codes "{};=:<>[]") b

-- what stands for itself in a string: 34 is the quote, 92 the backslash
unfoldable pub is_plain : ℕ → Bool
is_plain b = nat_le 0x20 b && nat_le b 0x7E && not (b == 34) && not (b == 92)

-- what may follow a backslash in a string
unfoldable pub is_escaped : ℕ → Bool
is_escaped b = b == 34 || b == 92 || is_in (codes "nt") b
