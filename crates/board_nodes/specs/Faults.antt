-- Why the nodes of a tree make no board: the first of these that holds.
use Rattle.std.specs.Prelude.{ℕ, Bool, ◌==◌, ◌+◌, ◌-◌, nat_lt, List, [], ◌∷◌, map, flat_map, find, length, Option, slice_index_or}
use Rattle.std.specs.List.{enumerate_from, range_with_len}
use Rattle.std.specs.Option.{option_map}
use Rattle.std.specs.Str.{bytes_eq}
use Rattle.dts_tree.specs.Tree.{Node}
use Rattle.dts_nodes.specs.Firsts.{first_of, when}
use Rattle.board_nodes.specs.declared.fault.NodesFault.{NodesFault}
use Rattle.board_nodes.specs.declared.fault.NodesFault.TheVariants.{TooManyChips, UnknownChip, TooManyRails, NoRails, NameTooLong, TwoNames}
use Rattle.board_nodes.specs.Chips.{chip_count, unknown_chip}
use Rattle.board_nodes.specs.Rails.{rails_in}

-- the names of the rails
abbrev pub names_in : List Node → List (List ℕ)
names_in nodes = map (λ rail. rail.name) (rails_in nodes)

-- a number with each greater one below a count
abbrev pub pairs_with : ℕ → ℕ → List (ℕ × ℕ)
pairs_with count a = map (λ b. (a, b)) (range_with_len (a + 1) (count - (a + 1)))

-- two numbers below a count, the first one less; by the first, and then by the second
abbrev pub pairs_below : ℕ → List (ℕ × ℕ)
pairs_below count = flat_map (pairs_with count) (range_with_len 0 count)

-- the first name that is too long
abbrev pub long_name : List (List ℕ) → Option ℕ
long_name names = option_map (λ named. named.0) (find (λ named. nat_lt 64 (length named.1)) (enumerate_from 0 names))

-- the names at two places are one
abbrev pub same_at : List (List ℕ) → ℕ → ℕ → Bool
same_at names a b = bytes_eq (slice_index_or names a []) (slice_index_or names b [])

-- the first two names that are
abbrev pub two_names : List (List ℕ) → Option (ℕ × ℕ)
two_names names = find (λ pair. same_at names pair.0 pair.1) (pairs_below (length names))

-- why the nodes make no board
abbrev pub nodes_fault : List Node → Option NodesFault
nodes_fault nodes =
    let rails = length (rails_in nodes) in
    first_of (
    when (nat_lt 16 (chip_count nodes)) (TooManyChips (chip_count nodes))
    ∷ option_map (λ at. UnknownChip at) (unknown_chip nodes)
    ∷ when (nat_lt 64 rails) (TooManyRails rails)
    ∷ when (rails == 0) NoRails
    ∷ option_map (λ r. NameTooLong r) (long_name (names_in nodes))
    ∷ option_map (λ pair. TwoNames pair.0 pair.1) (two_names (names_in nodes))
    ∷ [])
