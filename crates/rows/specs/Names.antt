-- The names of handles.
use Rattle.std.specs.Prelude.{ℕ, ◌<◌, ◌==◌, ◌&&◌, ◌||◌, nat_le, Bool, List, [], ◌∷◌, length, IsTrue}
use Rattle.std.specs.List.{list_all}

-- a byte that a handle's name may begin with, and one that may follow
abbrev pub is_letter : ℕ → Bool
is_letter byte = nat_le 97 byte && nat_le byte 122

abbrev pub is_name_byte : ℕ → Bool
is_name_byte byte = is_letter byte || (nat_le 48 byte && nat_le byte 57) || byte == 95

-- one to sixteen letters, digits and underscores, the first a letter
abbrev pub IsHandleName : List ℕ → Type 0
IsHandleName [] = ⊥
IsHandleName (byte ∷ bytes) = IsTrue (is_letter byte) × IsTrue (list_all is_name_byte bytes) × (length bytes < 16)
