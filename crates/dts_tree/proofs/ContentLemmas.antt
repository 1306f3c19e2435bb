-- What stands of a content while it grows.
use Rattle.std.proofs.Common.{◌≡◌, ℕ, ◌+◌, List, [], ◌∷◌, Bool, true, false, cond, Option, Some, None, map, refl, sym, ap, ◌∙◌}
use Rattle.std.specs.Option.{option_map}
use Rattle.std.specs.Map.{lookup}
use Rattle.std.specs.Prelude.{nat_eq, ◌&&◌}
use Rattle.std.specs.Str.{bytes_eq}
use Rattle.std.proofs.lemmas.Bool.{eq-eqb}
use Rattle.std.proofs.lemmas.Slice.Eq.{bytes_eq-Decides}
use Rattle.ordered_map.specs.Entries.{place_of}
use Rattle.name_map.specs.NameEntries.{same_name, keep_entry}
use Rattle.dts_tree.specs.declared.store.Opened.{Opened}
use Rattle.dts_tree.specs.Setting.{Label, Path, Root, Labelled, Child}
use Rattle.dts_tree.specs.Content.{Content, child_of, node_of, number_at, or_root, with_labels, with_child, depth_of}

module _ {K V : Type 0} (same : K → K → Bool) where
  -- a place stays
  pub place-keep : (p : K → Bool) (es : List (K × V)) (key : K) (v : V) (k : ℕ) → place_of p es ≡ Some k → place_of p (keep_entry same es key v) ≡ Some k
  place-keep p [] key v k is = absurd (let e : None ≡ Some k = is in cc)
  place-keep p (e ∷ es) key v k is =
      elim (same key e.0) as (λ (b : Bool). place_of p (cond b (e ∷ es) (e ∷ keep_entry same es key v)) ≡ Some k) [
        | true ↦ is
        | false ↦ elim (p e.0) as (λ (b : Bool). cond b (Some 0) (option_map (λ n. n + 1) (place_of p es)) ≡ Some k → cond b (Some 0) (option_map (λ n. n + 1) (place_of p (keep_entry same es key v))) ≡ Some k) [
          | true ↦ λ h. h
          | false ↦ λ h. later (place_of p es) h (λ n there. place-keep p es key v n there)
        ] is
      ] where
        later : (o : Option ℕ) → option_map (λ n. n + 1) o ≡ Some k → ((n : ℕ) → o ≡ Some n → place_of p (keep_entry same es key v) ≡ Some n) → option_map (λ n. n + 1) (place_of p (keep_entry same es key v)) ≡ Some k
        later None h stays = absurd (let e : None ≡ Some k = h in cc)
        later (Some n) h stays = ap (option_map (λ n. n + 1)) (stays n refl) ∙ h

  -- a value stays
  pub lookup-keep : (p : K → Bool) (es : List (K × V)) (key : K) (v x : V) → lookup p es ≡ Some x → lookup p (keep_entry same es key v) ≡ Some x
  lookup-keep p [] key v x is = absurd (let e : None ≡ Some x = is in cc)
  lookup-keep p (e ∷ es) key v x is =
      elim (same key e.0) as (λ (b : Bool). lookup p (cond b (e ∷ es) (e ∷ keep_entry same es key v)) ≡ Some x) [
        | true ↦ is
        | false ↦ elim (p e.0) as (λ (b : Bool). cond b (Some e.1) (lookup p es) ≡ Some x → cond b (Some e.1) (lookup p (keep_entry same es key v)) ≡ Some x) [
          | true ↦ λ h. h
          | false ↦ λ h. lookup-keep p es key v x h
        ] is
      ]

  -- a key that was put is found
  pub place-kept : (reflexive : (key : K) → same key key ≡ true) (es : List (K × V)) (key : K) (v : V) → (k : ℕ) × (place_of (same key) (keep_entry same es key v) ≡ Some k)
  place-kept reflexive [] key v = (0, ap (λ (b : Bool). cond b (Some 0) None) (reflexive key))
  place-kept reflexive (e ∷ es) key v =
      elim (same key e.0) as (λ (b : Bool). same key e.0 ≡ b → (k : ℕ) × (place_of (same key) (cond b (e ∷ es) (e ∷ keep_entry same es key v)) ≡ Some k)) [
        | true ↦ λ is. (0, ap (λ (b : Bool). cond b (Some 0) (option_map (λ n. n + 1) (place_of (same key) es))) is)
        | false ↦ λ is. (
            let r = place-kept reflexive es key v in
            (r.0 + 1, ap (λ (b : Bool). cond b (Some 0) (option_map (λ n. n + 1) (place_of (same key) (keep_entry same es key v)))) is ∙ ap (option_map (λ n. n + 1)) r.1))
      ] refl

-- a path leads to a node
abbrev pub Leads : Content → Path → Type 0
Leads c Root = Unit {0}
Leads c (Labelled name) = (k : ℕ) × (node_of c.labels name ≡ Some k)
Leads c (Child path name) = Leads c path × ((k : ℕ) × (child_of c.children (number_at c path) name ≡ Some k))

-- what is there stays
pub record Grows (c d : Content) : Type 0 where
  pub children : (parent : ℕ) (name : List ℕ) (k : ℕ) → child_of c.children parent name ≡ Some k → child_of d.children parent name ≡ Some k
  pub labels : (name : List ℕ) (k : ℕ) → node_of c.labels name ≡ Some k → node_of d.labels name ≡ Some k

pub grown : (c d : Content) → Grows c d → (path : Path) → Leads c path → (number_at d path ≡ number_at c path) × Leads d path
grown c d g Root h = (refl, tt)
grown c d g (Labelled name) h =
    let now = g.labels name h.0 h.1 in (ap or_root (now ∙ sym h.1), (h.0, now))
grown c d g (Child path name) h =
    let before = grown c d g path h.0 in
    let now : child_of d.children (number_at d path) name ≡ Some h.1.0 = ap (λ n. child_of d.children n name) before.0 ∙ g.children (number_at c path) name h.1.0 h.1.1 in
    (ap or_root (now ∙ sym h.1.1), (before.1, (h.1.0, now)))

abbrev pub AllLead : Content → List Path → Type 0
AllLead c [] = Unit {0}
AllLead c (p ∷ ps) = Leads c p × AllLead c ps

pub grown_all : (c d : Content) → Grows c d → (ps : List Path) → AllLead c ps → (map (number_at d) ps ≡ map (number_at c) ps) × AllLead d ps
grown_all c d g [] h = (refl, tt)
grown_all c d g (p ∷ ps) h =
    let one = grown c d g p h.0 in
    let others = grown_all c d g ps h.1 in
    (ap (λ k. k ∷ map (number_at d) ps) one.0 ∙ ap (λ ks. number_at c p ∷ ks) others.0, (one.1, others.1))

pub grows_same : (c d : Content) → d.children ≡ c.children → d.labels ≡ c.labels → Grows c d
grows_same c d children labels = record {
  children = λ parent name k is. ap (λ es. child_of es parent name) children ∙ is;
  labels = λ name k is. ap (λ es. node_of es name) labels ∙ is;
}

child-keep : (es : List ((ℕ × List ℕ) × Opened)) (key : ℕ × List ℕ) (v : Opened) (parent : ℕ) (name : List ℕ) (k : ℕ) (o : Option ℕ) → place_of (same_name (parent, name)) es ≡ o → option_map (λ n. n + 1) o ≡ Some k → child_of (keep_entry same_name es key v) parent name ≡ Some k
child-keep es key v parent name k None is h = absurd (let e : None ≡ Some k = h in cc)
child-keep es key v parent name k (Some n) is h = ap (option_map (λ m. m + 1)) (place-keep same_name (same_name (parent, name)) es key v n is) ∙ h

labels-keep : (labels : List ((ℕ × List ℕ) × ℕ)) (node : ℕ) (ls : List Label) (name : List ℕ) (k : ℕ) → node_of labels name ≡ Some k → node_of (with_labels labels node ls) name ≡ Some k
labels-keep labels node [] name k is = is
labels-keep labels node (l ∷ ls) name k is =
    labels-keep (keep_entry same_name labels (0, l.name) node) node ls name k (lookup-keep same_name (same_name (0, name)) labels (0, l.name) node k is)

pub grows_child : (c : Content) (parent : ℕ) (name : List ℕ) (at : ℕ) (ls : List Label) → Grows c (with_child c parent name at ls)
grows_child c parent name at ls =
    let v : Opened = record { at = at; depth = depth_of c.children parent + 1 } in
    record {
      children = λ p n k is. child-keep c.children (parent, name) v p n k (place_of (same_name (p, n)) c.children) refl is;
      labels = λ n k is. labels-keep c.labels (or_root (child_of (keep_entry same_name c.children (parent, name) v) parent name)) ls n k is;
    }

pub same_name-self : (key : ℕ × List ℕ) → same_name key key ≡ true
same_name-self key =
    let owner : nat_eq key.0 key.0 ≡ true = eq-eqb key.0 key.0 refl in
    let name : bytes_eq key.1 key.1 ≡ true = (bytes_eq-Decides key.1 key.1).1 refl in
    ap (λ (b : Bool). b && bytes_eq key.1 key.1) owner ∙ name
