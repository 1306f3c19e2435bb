-- The name of a handle is text.
use Rattle.std.proofs.Common.{ℕ, ◌≡◌, ◌<◌, List, [], ◌∷◌, true, arith}
use Rattle.std.proofs.lemmas.Bool.Decides.{nat_tests}
use Rattle.std.proofs.lemmas.List.Elements.{All-weaker}
use Rattle.std.proofs.lemmas.List.Sums.{AllPass-from_list_all}
use Rattle.std.proofs.lemmas.Str.{IsUtf8-from_ascii}
use Rattle.std.proofs.lemmas.Str.Ascii.{IsAscii-cons, IsAscii-from_all}
use Rattle.std.specs.Str.{IsUtf8}
use Rattle.rows.specs.Names.{is_letter, is_name_byte, IsHandleName}

letter_ascii : (byte : ℕ) → is_letter byte ≡ true → byte < 128
letter_ascii byte letter = grind (arith, nat_tests)

name_byte_ascii : (byte : ℕ) → is_name_byte byte ≡ true → byte < 128
name_byte_ascii byte name = grind (arith, nat_tests)

pub IsUtf8-name : (name : List ℕ) → IsHandleName name → IsUtf8 name
IsUtf8-name [] h = absurd h
IsUtf8-name (byte ∷ bytes) (letter, names, short) =
    IsUtf8-from_ascii (byte ∷ bytes) (IsAscii-cons byte bytes (letter_ascii byte letter) (IsAscii-from_all bytes (All-weaker (λ x. is_name_byte x ≡ true) (λ x. x < 128) name_byte_ascii bytes (AllPass-from_list_all is_name_byte bytes names))))

pub not_name : (name : List ℕ) → (IsUtf8 name → ⊥) → IsHandleName name → ⊥
not_name name bad h = bad (IsUtf8-name name h)
