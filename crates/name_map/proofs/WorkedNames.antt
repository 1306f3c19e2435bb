-- Entries worked out by hand: two owners, and names of which one begins the other.
use Rattle.std.proofs.Common.{◌≡◌, ℕ, List, [], ◌∷◌, true, false, Some, None, refl}
use Rattle.std.specs.Map.{lookup}
use Rattle.name_map.specs.NameEntries.{same_name, insert_entry, keep_entry, size_of, place_of}
use Rattle.name_map.specs.Inside.States.{piece_of, piece_at, pieces}
use Rattle.name_map.specs.Inside.Keys.{numbered}

abbrev Entries : Type 0
Entries = List ((ℕ × List ℕ) × ℕ)

-- `a` and `ab`
abbrev a : List ℕ
a = 97 ∷ []

abbrev ab : List ℕ
ab = 97 ∷ 98 ∷ []

abbrev three : Entries
three = ((1, a), 10) ∷ ((2, a), 20) ∷ ((1, ab), 30) ∷ []

-- a key is the same as itself, and not as one of another owner, another name or both
same : same_name (1, ab) (1, ab) ≡ true
same = refl

other_owner : same_name (1, a) (2, a) ≡ false
other_owner = refl

longer_name : same_name (1, a) (1, ab) ≡ false
longer_name = refl

other_byte : same_name (1, ab) (1, 97 ∷ 99 ∷ []) ≡ false
other_byte = refl

other_both : same_name (1, a) (2, ab) ≡ false
other_both = refl

-- where they stand
first_place : place_of (same_name (1, a)) three ≡ Some 0
first_place = refl

second_place : place_of (same_name (2, a)) three ≡ Some 1
second_place = refl

third_place : place_of (same_name (1, ab)) three ≡ Some 2
third_place = refl

no_place : place_of (same_name (2, ab)) three ≡ None
no_place = refl

third_value : lookup (same_name (1, ab)) three ≡ Some 30
third_value = refl

-- a value for a key that is there, and for one that isn't
put_there : insert_entry same_name three (2, a) 25 ≡ ((1, a), 10) ∷ ((2, a), 25) ∷ ((1, ab), 30) ∷ []
put_there = refl

put_last : insert_entry same_name three (2, ab) 40 ≡ ((1, a), 10) ∷ ((2, a), 20) ∷ ((1, ab), 30) ∷ ((2, ab), 40) ∷ []
put_last = refl

kept_there : keep_entry same_name three (2, a) 25 ≡ three
kept_there = refl

kept_last : keep_entry same_name three (2, ab) 40 ≡ ((1, a), 10) ∷ ((2, a), 20) ∷ ((1, ab), 30) ∷ ((2, ab), 40) ∷ []
kept_last = refl

-- four bytes of names, and one more for each of the three
sizes : size_of three ≡ 7
sizes = refl

no_size : size_of {V = ℕ} [] ≡ 0
no_size = refl

-- an empty name counts as well
empty_name : size_of {V = ℕ} (((1, []), 10) ∷ []) ≡ 1
empty_name = refl

-- a name of nine bytes in two pieces, and how many pieces names have
abbrev nine : List ℕ
nine = 97 ∷ 98 ∷ 99 ∷ 100 ∷ 101 ∷ 102 ∷ 103 ∷ 104 ∷ 105 ∷ []

first_piece : piece_at nine 0 ≡ 97 ∷ 98 ∷ 99 ∷ 100 ∷ 101 ∷ 102 ∷ 103 ∷ 7 ∷ []
unfolding piece_of
first_piece = refl

second_piece : piece_at nine 1 ≡ 104 ∷ 105 ∷ 0 ∷ 0 ∷ 0 ∷ 0 ∷ 0 ∷ 2 ∷ []
unfolding piece_of
second_piece = refl

two_pieces : pieces nine ≡ 2
two_pieces = refl

one_piece : pieces (97 ∷ 98 ∷ 99 ∷ 100 ∷ 101 ∷ 102 ∷ 103 ∷ []) ≡ 1
one_piece = refl

-- the code of the state 258, and keys by their owners and codes
numbered_code : numbered 258 ≡ 2 ∷ 1 ∷ 0 ∷ 0 ∷ 0 ∷ 0 ∷ 0 ∷ 8 ∷ []
unfolding numbered
numbered_code = refl
