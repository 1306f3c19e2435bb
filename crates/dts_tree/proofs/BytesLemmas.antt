-- The bytes that strings and words of digits stand for.
use Rattle.std.proofs.Common.{◌≡◌, ℕ, ◌+◌, ◌*◌, ◌<◌, ◌≤◌, List, [], ◌∷◌, ◌++◌, Bool, true, false, length, drop, get_or, refl, sym, ap, ◌∙◌, arith, append_assoc}
use Rattle.std.proofs.Common.{eqb}
use Rattle.std.specs.Char.{digit_value}
use Rattle.std.specs.List.{list_all}
use Rattle.std.proofs.Math.Logic.{⊎_elim}
use Rattle.std.proofs.lemmas.Bool.{cases_Bool}
use Rattle.std.proofs.lemmas.List.Folds.{list_all_at}
use Rattle.std.proofs.lemmas.Bool.{eq-eqb, ne_eqb}
use Rattle.std.proofs.lemmas.List.{drop_more, length-drop}
use Rattle.dts_tree.specs.Lexeme.{escaped, unescaped, bytes_of}

unescaped_cons : (b : ℕ) (rest : List ℕ) → eqb b 92 ≡ false → unescaped (b ∷ rest) ≡ b ∷ unescaped rest
unescaped_cons b [] other = refl
unescaped_cons b (c ∷ rest) other = rw other

unescaped_last : (b : ℕ) (rest : List ℕ) → length rest ≡ 0 → unescaped (b ∷ rest) ≡ b ∷ unescaped rest
unescaped_last b [] short = refl
unescaped_last b (c ∷ rest) short = absurd (omega arith)

module _ (bytes : List ℕ) (at : ℕ) where
  pub unescaped_escape : at + 1 < length bytes → get_or bytes at 0 ≡ 92 → unescaped (drop at bytes) ≡ escaped (get_or bytes (at + 1) 0) ∷ unescaped (drop (at + 2) bytes)
  unescaped_escape inside backslash =
      let first = drop_more bytes at 0 (omega arith) in
      let second = drop_more bytes (at + 1) 0 inside in
      let regrouped : at + 1 + 1 ≡ at + 2 = omega arith in
      let test : eqb (get_or bytes at 0) 92 ≡ true = eq-eqb (get_or bytes at 0) 92 backslash in
      rw (first, second, test, regrouped)

  pub unescaped_other : at < length bytes → (get_or bytes at 0 ≡ 92 → ⊥) → unescaped (drop at bytes) ≡ get_or bytes at 0 ∷ unescaped (drop (at + 1) bytes)
  unescaped_other inside other = rw (drop_more bytes at 0 inside) (unescaped_cons (get_or bytes at 0) (drop (at + 1) bytes) (ne_eqb _ _ other))

  pub unescaped_end : at < length bytes → length bytes ≤ at + 1 → unescaped (drop at bytes) ≡ get_or bytes at 0 ∷ unescaped (drop (at + 1) bytes)
  unescaped_end inside end = rw (drop_more bytes at 0 inside) (unescaped_last (get_or bytes at 0) (drop (at + 1) bytes) (omega (arith, length-drop (at + 1) bytes)))

-- what was read, and what is left
pub left_on : (read : List ℕ) (b : ℕ) (rest all left : List ℕ) → read ++ left ≡ all → left ≡ b ∷ rest → (read ++ b ∷ []) ++ rest ≡ all
left_on read b rest all left whole is = append_assoc read (b ∷ []) rest ∙ ap (λ xs. read ++ xs) (sym is) ∙ whole

module _ (word : List ℕ) (at : ℕ) where
  pub bytes_of_more : at + 1 < length word → bytes_of (drop at word) ≡ (digit_value (get_or word at 0) * 16 + digit_value (get_or word (at + 1) 0)) ∷ bytes_of (drop (at + 2) word)
  bytes_of_more inside =
      let first = drop_more word at 0 (omega arith) in
      let second = drop_more word (at + 1) 0 inside in
      let regrouped : at + 1 + 1 ≡ at + 2 = omega arith in
      rw (first, second, regrouped)

bytes_of_short : (word : List ℕ) → length word ≤ 1 → bytes_of word ≡ []
bytes_of_short [] short = refl
bytes_of_short (a ∷ []) short = refl
bytes_of_short (a ∷ b ∷ word) short = absurd (omega arith)

pub bytes_of_end : (word : List ℕ) (at : ℕ) → length word ≤ at + 1 → bytes_of (drop at word) ≡ []
bytes_of_end word at short = bytes_of_short (drop at word) (omega (arith, length-drop at word))

pub all_pass : (p : ℕ → Bool) (xs : List ℕ) (i : ℕ) → list_all p xs ≡ true → i < length xs → p (get_or xs i 0) ≡ true
all_pass p xs i all inside =
    ⊎_elim (λ passes. passes) (λ fails. absurd (let e : true ≡ false = sym all ∙ list_all_at p xs i 0 inside fails in cc)) (cases_Bool (p (get_or xs i 0)))
