-- What owners own, owner by owner, by links.
use Rattle.std.proofs.Common.{◌≡◌, ℕ, ◌+◌, ◌<◌, List, [], ◌∷◌, ◌++◌, Option, Some, None, length, take, get_or, sym, ap, ◌∙◌, arith, append_assoc}
use Rattle.std.proofs.lemmas.Bool.{cond-true, eq-eqb}
use Rattle.std.proofs.lemmas.List.{append-nil, take_more, get_or_read}
use Rattle.std.proofs.lemmas.List.Concat.{flat_map-append}
use Rattle.dts_tree.specs.Order.{children_from}
use Rattle.dts_tree.specs.Inside.Links.{first_of, Linked}
use Rattle.dts_tree.specs.Inside.Listing.{listed_of}
use Rattle.dts_tree.proofs.LinkLemmas.{children_from-step}
use Rattle.dts_tree.proofs.OrderLemmas.{children-first, first-none}

-- what an owner owns from the item on that waits
abbrev pub rest_at : List ℕ → ℕ → Option ℕ → List ℕ
rest_at owners x None = []
rest_at owners x (Some p) = children_from owners x p

-- the item that waits is the owner's
abbrev pub Waits : List ℕ → ℕ → Option ℕ → Type 0
Waits owners x None = Unit {0}
Waits owners x (Some p) = (p < length owners) × (get_or owners p 0 ≡ x)

pub rest-step : (owners : List ℕ) (x p : ℕ) → Waits owners x (Some p) → rest_at owners x (Some p) ≡ p ∷ children_from owners x (p + 1)
rest-step owners x p h = children_from-step owners x p h.0 ∙ cond-true _ (p ∷ children_from owners x (p + 1)) (children_from owners x (p + 1)) (eq-eqb (get_or owners p 0) x h.1)

pub waits-from : (owners : List ℕ) (x k : ℕ) (o : Option ℕ) → first_of (children_from owners x k) ≡ o → Waits owners x o
waits-from owners x k None is = tt
waits-from owners x k (Some p) is = let h = children-first owners x k p is in (h.inside, h.parent)

pub rest-from : (owners : List ℕ) (x k : ℕ) (o : Option ℕ) → first_of (children_from owners x k) ≡ o → rest_at owners x o ≡ children_from owners x k
rest-from owners x k None is = sym (first-none (children_from owners x k) is)
rest-from owners x k (Some p) is = rest-step owners x p (waits-from owners x k (Some p) is) ∙ sym (children-first owners x k p is).whole

-- what links tell
pub first-read : (owners : List ℕ) (count : ℕ) (first next : List (Option ℕ)) (x : ℕ) (r : Option ℕ) → Linked owners count first next 0 → x < count → r ≡ get_or first x r → r ≡ first_of (children_from owners x 0)
first-read owners count first next x r h inside read = get_or_read first x r (omega (arith, h.firsts, inside)) read None ∙ h.child x inside

pub next-read : (owners : List ℕ) (count : ℕ) (first next : List (Option ℕ)) (x p : ℕ) (r : Option ℕ) → Linked owners count first next 0 → Waits owners x (Some p) → r ≡ get_or next p r → r ≡ first_of (children_from owners x (p + 1))
next-read owners count first next x p r h waits read =
    get_or_read next p r (omega (arith, h.nexts, waits.0)) read None
    ∙ h.sibling p (omega arith) waits.0
    ∙ ap (λ (y : ℕ). first_of (children_from owners y (p + 1))) waits.1

pub listed_more : (owners order : List ℕ) (i : ℕ) → i < length order → listed_of owners (take (i + 1) order) ≡ listed_of owners (take i order) ++ children_from owners (get_or order i 0) 0
listed_more owners order i inside =
    ap (listed_of owners) (take_more order i 0 inside)
    ∙ flat_map-append (λ k. children_from owners k 0) (take i order) (get_or order i 0 ∷ [])
    ∙ ap (λ xs. listed_of owners (take i order) ++ xs) (append-nil (children_from owners (get_or order i 0) 0))

-- one item more is listed
pub listed-step : (owners : List ℕ) (x p : ℕ) (places now : List ℕ) (next : Option ℕ) (all : List ℕ) → Waits owners x (Some p) → now ≡ places ++ p ∷ [] → first_of (children_from owners x (p + 1)) ≡ next → places ++ rest_at owners x (Some p) ≡ all → now ++ rest_at owners x next ≡ all
listed-step owners x p places now next all h told is left =
    ap (λ ys. ys ++ rest_at owners x next) told
    ∙ append_assoc places (p ∷ []) (rest_at owners x next)
    ∙ ap (λ ys. places ++ (p ∷ ys)) (rest-from owners x (p + 1) next is)
    ∙ ap (λ ys. places ++ ys) (sym (rest-step owners x p h))
    ∙ left
