-- Lists that are cut at a separator.
use Rattle.std.proofs.Common.{ℕ, ◌≡◌, ◌≢◌, ◌+◌, ◌-◌, ◌<◌, List, [], ◌∷◌, ◌++◌, All, refl, sym, ap, ◌∙◌, arith, length, get_or, take, drop, length-drop, length-take}
use Rattle.std.specs.List.{AllWithin, HoldsAt}
use Rattle.std.proofs.lemmas.List.{drop_more, get_or-take, take_all, take-append-drop}
use Rattle.std.proofs.lemmas.List.Elements.{All-head, All-tail}

-- lists that are equal begin and go on equally
pub head_is : {X : Type 0} {x y : X} {xs ys : List X} → x ∷ xs ≡ y ∷ ys → x ≡ y
head_is {X} {x} same = ap (λ l. get_or l 0 x) same

pub tail_is : {X : Type 0} {x y : X} {xs ys : List X} → x ∷ xs ≡ y ∷ ys → xs ≡ ys
tail_is same = ap (drop 1) same

module _ {X : Type 0} (sep : X) where
  -- no item is the separator
  abbrev pub Lacks : List X → Type 0
  Lacks items = All (λ x. x ≢ sep) items

  -- what lacks the separator isn't split by it
  pub not_split : (text x y : List X) → Lacks text → text ≢ x ++ sep ∷ y
  not_split [] [] y lacks same = cc
  not_split [] (x ∷ xs) y lacks same = cc
  not_split (t ∷ text) [] y lacks same = All-head (λ z. z ≢ sep) t text lacks (head_is same)
  not_split (t ∷ text) (x ∷ xs) y lacks same = not_split text xs y (All-tail (λ z. z ≢ sep) t text lacks) (tail_is same)

  -- the first separator splits a text in one way
  pub split_once : (a b x y : List X) → Lacks a → Lacks x → a ++ sep ∷ b ≡ x ++ sep ∷ y → (a ≡ x) × (b ≡ y)
  split_once [] b [] y la lx same = (refl, tail_is same)
  split_once [] b (x ∷ xs) y la lx same = absurd (All-head (λ z. z ≢ sep) x xs lx (sym (head_is same)))
  split_once (a ∷ more) b [] y la lx same = absurd (All-head (λ z. z ≢ sep) a more la (head_is same))
  split_once (a ∷ more) b (x ∷ xs) y la lx same =
      let rest = split_once more b xs y (All-tail (λ z. z ≢ sep) a more la) (All-tail (λ z. z ≢ sep) x xs lx) (tail_is same) in
      (ap (λ h. h ∷ more) (head_is same) ∙ ap (λ t. x ∷ t) rest.0, rest.1)

  -- what goes on without a separator stands before the first one
  pub goes_on : (a b x : List X) (item : X) (y : List X) → Lacks x → item ≢ sep → a ++ sep ∷ b ≡ x ++ item ∷ y → (rest : List X) × (a ≡ x ++ item ∷ rest)
  goes_on [] b [] item y lx other same = absurd (other (sym (head_is same)))
  goes_on [] b (x ∷ xs) item y lx other same = absurd (All-head (λ z. z ≢ sep) x xs lx (sym (head_is same)))
  goes_on (a ∷ more) b [] item y lx other same = (more, ap (λ h. h ∷ more) (head_is same))
  goes_on (a ∷ more) b (x ∷ xs) item y lx other same =
      let rest = goes_on more b xs item y (All-tail (λ z. z ≢ sep) x xs lx) other (tail_is same) in
      (rest.0, ap (λ h. h ∷ more) (head_is same) ∙ ap (λ t. x ∷ t) rest.1)

  -- a text that is cut at a separator
  pub cut_at : (text : List X) (i : ℕ) → i < length text → HoldsAt (λ x. x ≡ sep) text i → text ≡ take i text ++ sep ∷ take (length text - (i + 1)) (drop (i + 1) text)
  cut_at text i within here =
      let whole = take_all (length text - (i + 1)) (drop (i + 1) text) (omega (arith, length-drop (i + 1) text)) in
      sym (take-append-drop i text) ∙ ap (λ rest. take i text ++ rest) (drop_more text i sep within ∙ cc (here sep, whole))

  -- what stands before the first separator lacks it
  pub before_cut : (text : List X) (i : ℕ) → AllWithin (λ x. x ≢ sep) text 0 i → Lacks (take i text)
  before_cut text i lacks k d within same =
      let below : k < i = omega (arith, length-take i text) in
      lacks k d (omega arith) below (sym (get_or-take i text k d below) ∙ same)
