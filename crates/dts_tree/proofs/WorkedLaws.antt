-- What trees are and aren't, each in one clause alone, and which settings set another property, worked out
-- by hand.
use Rattle.std.specs.Prelude.{◌≡◌, ℕ, zero, suc, ◌<◌, List, [], ◌∷◌, Option, Some, None, Ok, Err, length, slice_index_or, codes}
use Rattle.std.proofs.Common.{refl, sym, arith, subst}
use Rattle.std.proofs.lemmas.Bool.{false≢true}
use Rattle.dts_lex.proofs.FailsBy.{FailsBy}
use Rattle.dts_tree.specs.declared.fault.TreeFault.TheVariants.{NoLabel}
use Rattle.dts_tree.specs.Value.{Property}
use Rattle.dts_tree.specs.Setting.{Root, Labelled, Child, Setting, OpensRoot, Opens, Adds, Sets}
use Rattle.dts_tree.specs.Content.{Content, nothing, with_setting}
use Rattle.dts_tree.specs.Tree.{Node}
use Rattle.dts_tree.specs.Look.{bare, properties_at}
use Rattle.dts_tree.specs.Laws.{node_at, IsTree, SetsOther, AllSetOther}
use Rattle.dts_tree.proofs.WorkedContents.{label, node, some_content}
use Rattle.dts_tree.proofs.WorkedTrees.{property, tree_node}

-- the clauses of a tree
abbrev HasOne : List Node → Type 0
HasOne nodes = 0 < length nodes

abbrev RootFirst : List Node → Type 0
RootFirst nodes = ((node_at nodes 0).name ≡ []) × ((node_at nodes 0).parent ≡ None)

abbrev Parents : List Node → Type 0
Parents nodes = (k : ℕ) → 0 < k → k < length nodes → (p : ℕ) × (((node_at nodes k).parent ≡ Some p) × (p < k))

abbrev Siblings : List Node → Type 0
Siblings nodes = (i j : ℕ) → 0 < i → 0 < j → i < length nodes → j < length nodes → (node_at nodes i).parent ≡ (node_at nodes j).parent → (node_at nodes i).name ≡ (node_at nodes j).name → i ≡ j

abbrev Once : List Node → Type 0
Once nodes = (k i j : ℕ) → (d : Property ℕ) → i < length (properties_at nodes k) → j < length (properties_at nodes k) → (slice_index_or (properties_at nodes k) i d).name ≡ (slice_index_or (properties_at nodes k) j d).name → i ≡ j

-- a node without properties
abbrev plain : List ℕ → Option ℕ → Node
plain name parent = tree_node name parent 5 []

second : node_at (plain [] None ∷ plain (codes "a") (Some 0) ∷ []) 1 ≡ plain (codes "a") (Some 0)
second = refl

past_all : node_at (plain [] None ∷ []) 1 ≡ bare
past_all = refl

-- below the root are a and bb, and below a another a; the root has the properties p and qq
abbrev nodes : List Node
nodes = tree_node [] None 3 (property (codes "p") [] ∷ property (codes "qq") [] ∷ []) ∷ plain (codes "a") (Some 0) ∷ plain (codes "a") (Some 1) ∷ plain (codes "bb") (Some 0) ∷ []

parents : Parents nodes
parents zero more less = absurd (omega (arith, more))
parents (suc zero) more less = (0, (refl, omega arith))
parents (suc (suc zero)) more less = (1, (refl, omega arith))
parents (suc (suc (suc zero))) more less = (0, (refl, omega arith))
parents (suc (suc (suc (suc k)))) more less = absurd (omega (arith, less))

siblings : Siblings nodes
siblings zero j more more' less less' above name = absurd (omega (arith, more))
siblings i zero more more' less less' above name = absurd (omega (arith, more'))
siblings (suc zero) (suc zero) more more' less less' above name = refl
siblings (suc zero) (suc (suc zero)) more more' less less' above name = absurd (let e : Some 0 ≡ Some 1 = above in let f : ⊥ = cc in f)
siblings (suc zero) (suc (suc (suc zero))) more more' less less' above name = absurd (let e : codes "a" ≡ codes "bb" = name in let f : ⊥ = cc in f)
siblings (suc (suc zero)) (suc zero) more more' less less' above name = absurd (let e : Some 1 ≡ Some 0 = above in let f : ⊥ = cc in f)
siblings (suc (suc zero)) (suc (suc zero)) more more' less less' above name = refl
siblings (suc (suc zero)) (suc (suc (suc zero))) more more' less less' above name = absurd (let e : Some 1 ≡ Some 0 = above in let f : ⊥ = cc in f)
siblings (suc (suc (suc zero))) (suc zero) more more' less less' above name = absurd (let e : codes "bb" ≡ codes "a" = name in let f : ⊥ = cc in f)
siblings (suc (suc (suc zero))) (suc (suc zero)) more more' less less' above name = absurd (let e : Some 0 ≡ Some 1 = above in let f : ⊥ = cc in f)
siblings (suc (suc (suc zero))) (suc (suc (suc zero))) more more' less less' above name = refl
siblings (suc (suc (suc (suc i)))) j more more' less less' above name = absurd (omega (arith, less))
siblings i (suc (suc (suc (suc j)))) more more' less less' above name = absurd (omega (arith, less'))

once : Once nodes
once zero zero zero d less less' name = refl
once zero zero (suc zero) d less less' name = absurd (let e : codes "p" ≡ codes "qq" = name in let f : ⊥ = cc in f)
once zero (suc zero) zero d less less' name = absurd (let e : codes "qq" ≡ codes "p" = name in let f : ⊥ = cc in f)
once zero (suc zero) (suc zero) d less less' name = refl
once zero (suc (suc i)) j d less less' name = absurd (omega (arith, less))
once zero i (suc (suc j)) d less less' name = absurd (omega (arith, less'))
once (suc zero) i j d less less' name = absurd (omega (arith, less))
once (suc (suc zero)) i j d less less' name = absurd (omega (arith, less))
once (suc (suc (suc zero))) i j d less less' name = absurd (omega (arith, less))
once (suc (suc (suc (suc k)))) i j d less less' name = absurd (omega (arith, less))

is_tree : IsTree nodes
is_tree = record { some = omega arith; root = (refl, refl); parents = parents; siblings = siblings; once = once }

-- no node
no_node : FailsBy (HasOne []) (IsTree [])
no_node = record {
  needs = λ h. h.some;
  suffices = λ some. record {
    some = some;
    root = (refl, refl);
    parents = λ k more less. absurd (omega (arith, less));
    siblings = λ i j more more' less less' above name. absurd (omega (arith, less));
    once = λ k i j d less less' name. absurd (omega (arith, less));
  };
  fails = λ some. absurd (omega (arith, some));
}

-- one node: no other stands below it or beside it
module _ (name : List ℕ) (parent : Option ℕ) where
  alone_once : Once (plain name parent ∷ [])
  alone_once zero i j d less less' same = absurd (omega (arith, less))
  alone_once (suc k) i j d less less' same = absurd (omega (arith, less))

  alone_tree : RootFirst (plain name parent ∷ []) → IsTree (plain name parent ∷ [])
  alone_tree root = record {
    some = omega arith;
    root = root;
    parents = λ k more less. absurd (omega (arith, more, less));
    siblings = λ i j more more' less less' above same. absurd (omega (arith, more, less));
    once = alone_once;
  }

root_with_name : FailsBy (RootFirst (plain (codes "a") None ∷ [])) (IsTree (plain (codes "a") None ∷ []))
root_with_name = record { needs = λ h. h.root; suffices = alone_tree (codes "a") None; fails = λ h. let e : codes "a" ≡ [] = h.0 in cc }

root_with_parent : FailsBy (RootFirst (plain [] (Some 0) ∷ [])) (IsTree (plain [] (Some 0) ∷ []))
root_with_parent = record { needs = λ h. h.root; suffices = alone_tree [] (Some 0); fails = λ h. let e : Some 0 ≡ None = h.1 in cc }

-- a root and another node, which has no parent, or itself
module _ (parent : Option ℕ) where
  abbrev two : List Node
  two = plain [] None ∷ plain (codes "a") parent ∷ []

  two_siblings : Siblings two
  two_siblings zero j more more' less less' above same = absurd (omega (arith, more))
  two_siblings i zero more more' less less' above same = absurd (omega (arith, more'))
  two_siblings (suc zero) (suc zero) more more' less less' above same = refl
  two_siblings (suc (suc i)) j more more' less less' above same = absurd (omega (arith, less))
  two_siblings i (suc (suc j)) more more' less less' above same = absurd (omega (arith, less'))

  two_once : Once two
  two_once zero i j d less less' same = absurd (omega (arith, less))
  two_once (suc zero) i j d less less' same = absurd (omega (arith, less))
  two_once (suc (suc k)) i j d less less' same = absurd (omega (arith, less))

  two_tree : Parents two → IsTree two
  two_tree parents = record { some = omega arith; root = (refl, refl); parents = parents; siblings = two_siblings; once = two_once }

second_root : FailsBy (Parents (two None)) (IsTree (two None))
second_root = record {
  needs = λ h. h.parents;
  suffices = two_tree None;
  fails = λ h. let one = h 1 (omega arith) (omega arith) in let e : None ≡ Some one.0 = one.1.0 in cc;
}

own_parent : FailsBy (Parents (two (Some 1))) (IsTree (two (Some 1)))
own_parent = record {
  needs = λ h. h.parents;
  suffices = two_tree (Some 1);
  fails = λ h. let one = h 1 (omega arith) (omega arith) in let e : Some 1 ≡ Some one.0 = one.1.0 in let f : one.0 ≡ 1 = cc in absurd (omega (arith, f, one.1.1));
}

-- two children of one name
abbrev twins : List Node
twins = plain [] None ∷ plain (codes "a") (Some 0) ∷ plain (codes "a") (Some 0) ∷ []

twins_parents : Parents twins
twins_parents zero more less = absurd (omega (arith, more))
twins_parents (suc zero) more less = (0, (refl, omega arith))
twins_parents (suc (suc zero)) more less = (0, (refl, omega arith))
twins_parents (suc (suc (suc k))) more less = absurd (omega (arith, less))

twins_once : Once twins
twins_once zero i j d less less' same = absurd (omega (arith, less))
twins_once (suc zero) i j d less less' same = absurd (omega (arith, less))
twins_once (suc (suc zero)) i j d less less' same = absurd (omega (arith, less))
twins_once (suc (suc (suc k))) i j d less less' same = absurd (omega (arith, less))

two_of_a_name : FailsBy (Siblings twins) (IsTree twins)
two_of_a_name = record {
  needs = λ h. h.siblings;
  suffices = λ siblings. record { some = omega arith; root = (refl, refl); parents = twins_parents; siblings = siblings; once = twins_once };
  fails = λ h. absurd (omega (arith, h 1 2 (omega arith) (omega arith) (omega arith) (omega arith) refl refl));
}

-- a node with two properties of one name
abbrev doubled : List Node
doubled = tree_node [] None 3 (property (codes "p") [] ∷ property (codes "p") [] ∷ []) ∷ []

property_twice : FailsBy (Once doubled) (IsTree doubled)
property_twice = record {
  needs = λ h. h.once;
  suffices = λ once. record {
    some = omega arith;
    root = (refl, refl);
    parents = λ k more less. absurd (omega (arith, more, less));
    siblings = λ i j more more' less less' above same. absurd (omega (arith, more, less));
    once = once;
  };
  fails = λ h. absurd (omega (arith, h 0 0 1 (property [] []) (omega arith) (omega arith) refl));
}

-- what sets no property, one of another name or node, and p of a (1) itself
root_sets_none : SetsOther (1, codes "p") some_content (OpensRoot 9)
root_sets_none = tt

opening_sets_none : SetsOther (1, codes "p") some_content (Opens Root (codes "p") 9 [])
opening_sets_none = tt

addition_sets_none : SetsOther (1, codes "p") some_content (Adds (label (codes "x") 9))
addition_sets_none = tt

other_name : SetsOther (1, codes "p") some_content (Sets (Labelled (codes "x")) (codes "q") [])
other_name = refl

other_node : SetsOther (1, codes "p") some_content (Sets (Labelled (codes "y")) (codes "p") [])
other_node = refl

that_property : ¬ SetsOther (1, codes "p") some_content (Sets (Child Root (codes "a")) (codes "p") [])
that_property other = false≢true (sym other)

-- a is node 1 once it is opened, so that p of a is another property than p of the root (0)
abbrev opens_and_sets : List Setting
opens_and_sets = Opens Root (codes "a") 9 [] ∷ Sets (Child Root (codes "a")) (codes "p") [] ∷ []

abbrev with_a : Content
with_a = record { root_at = None; children = ((0, codes "a"), node 9 1) ∷ []; labels = []; properties = [] }

a_opened : (next : Content) → with_setting nothing (Opens Root (codes "a") 9 []) ≡ Ok next → with_a ≡ next
unfolding nothing
a_opened next is = let e : Ok with_a ≡ Ok next = is in cc

none_sets_the_root : AllSetOther (0, codes "p") nothing opens_and_sets
none_sets_the_root = (tt, λ next is. (subst (λ (c : Content). SetsOther (0, codes "p") c (Sets (Child Root (codes "a")) (codes "p") [])) (a_opened next is) refl, λ last _. tt))

last_sets_a : ¬ AllSetOther (1, codes "p") nothing opens_and_sets
unfolding nothing
last_sets_a all = false≢true (sym (all.1 with_a refl).0)

first_sets_root : ¬ AllSetOther (0, codes "p") nothing (Sets Root (codes "p") [] ∷ [])
first_sets_root all = false≢true (sym all.0)

no_setting : AllSetOther (0, codes "p") nothing []
no_setting = tt

-- nothing counts behind a setting that is wrong
behind_a_fault : AllSetOther (0, codes "p") nothing (Adds (label (codes "w") 3) ∷ Sets Root (codes "p") [] ∷ [])
unfolding nothing
behind_a_fault = (tt, λ next is. absurd (let e : Err (NoLabel 3) ≡ Ok next = is in let f : ⊥ = cc in f))
