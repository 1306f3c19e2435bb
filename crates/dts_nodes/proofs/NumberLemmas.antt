-- Numbers among cells, cell by cell.
use Rattle.std.proofs.Common.{◌≡◌, ℕ, zero, suc, ◌+◌, ◌<◌, ◌≤◌, List, [], ◌∷◌, ◌++◌, length, drop, get_or, Option, Some, None, refl, sym, ap, ◌∙◌, arith, append_assoc}
use Rattle.std.specs.Option.{option_map}
use Rattle.std.proofs.Math.Seq.{drop-cons}
use Rattle.std.proofs.lemmas.List.{append-nil}
use Rattle.dts_tree.specs.declared.value.Cell.{Cell}
use Rattle.dts_tree.specs.declared.value.Cell.TheVariants.{Num, Node as Reference}
use Rattle.dts_nodes.specs.Forms.{numbers_of}

-- the numbers before, and those of the cells that are left
abbrev pub joined : List ℕ → Option (List ℕ) → Option (List ℕ)
joined before rest = option_map (λ numbers. before ++ numbers) rest

pub joined-none : (rest : Option (List ℕ)) → joined [] rest ≡ rest
joined-none None = refl
joined-none (Some numbers) = refl

one_more : (before : List ℕ) (n : ℕ) (rest : Option (List ℕ)) → joined before (option_map (λ numbers. n ∷ numbers) rest) ≡ joined (before ++ n ∷ []) rest
one_more before n None = refl
one_more before n (Some numbers) = ap Some (sym (append_assoc before (n ∷ []) numbers))

rest_at : (cells : List (Cell ℕ)) (i : ℕ) (d c : Cell ℕ) → i < length cells → get_or cells i d ≡ c → drop i cells ≡ c ∷ drop (i + 1) cells
rest_at cells i d c inside is =
    let next : suc i ≡ i + 1 = omega arith in
    drop-cons cells i d inside ∙ ap (λ x. x ∷ drop (suc i) cells) is ∙ ap (λ k. c ∷ drop k cells) next

pub joined-number : (cells : List (Cell ℕ)) (i : ℕ) (d : Cell ℕ) (n : ℕ) (before : List ℕ) → i < length cells → get_or cells i d ≡ Num n
    → numbers_of cells ≡ joined before (numbers_of (drop i cells)) → numbers_of cells ≡ joined (before ++ n ∷ []) (numbers_of (drop (i + 1) cells))
joined-number cells i d n before inside is kept =
    kept ∙ ap (λ left. joined before (numbers_of left)) (rest_at cells i d (Num n) inside is) ∙ one_more before n (numbers_of (drop (i + 1) cells))

pub joined-reference : (cells : List (Cell ℕ)) (i : ℕ) (d : Cell ℕ) (k : ℕ) (before : List ℕ) → i < length cells → get_or cells i d ≡ Reference k
    → numbers_of cells ≡ joined before (numbers_of (drop i cells)) → numbers_of cells ≡ None
joined-reference cells i d k before inside is kept = kept ∙ ap (λ left. joined before (numbers_of left)) (rest_at cells i d (Reference k) inside is)

drop_all : (cells : List (Cell ℕ)) (i : ℕ) → length cells ≤ i → drop i cells ≡ []
drop_all [] zero past = refl
drop_all [] (suc i) past = refl
drop_all (c ∷ cells) zero past = absurd (omega (arith, past))
drop_all (c ∷ cells) (suc i) past = drop_all cells i (omega (arith, past))

pub joined-all : (cells : List (Cell ℕ)) (i : ℕ) (before : List ℕ) → length cells ≤ i → numbers_of cells ≡ joined before (numbers_of (drop i cells)) → numbers_of cells ≡ Some before
joined-all cells i before past kept = kept ∙ ap (λ left. joined before (numbers_of left)) (drop_all cells i past) ∙ ap Some (append-nil before)
