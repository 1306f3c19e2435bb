-- The last setting of a property counts.
use Rattle.std.proofs.Common.{◌≡◌, ℕ, List, [], ◌∷◌, Bool, true, false, cond, Option, Some, None, Result, Ok, Err, refl, sym, ap, ◌∙◌}
use Rattle.std.specs.Prelude.{nat_lt, nat_eq, ◌&&◌}
use Rattle.std.specs.Map.{lookup}
use Rattle.std.specs.Str.{bytes_eq}
use Rattle.std.proofs.lemmas.Bool.{eqb-true}
use Rattle.std.proofs.lemmas.Slice.Eq.{bytes_eq-Decides}
use Rattle.ordered_map.specs.Entries.{insert_entry}
use Rattle.name_map.specs.NameEntries.{same_name}
use Rattle.dts_tree.specs.declared.fault.TreeFault.{TreeFault}
use Rattle.dts_tree.specs.declared.fault.TreeFault.TheVariants.{TooDeep}
use Rattle.dts_tree.specs.Setting.{Label, Setting, OpensRoot, Opens, Adds, Sets}
use Rattle.dts_tree.specs.Content.{Content, number_at, node_of, child_of, depth_of, elsewhere, known, opened, with_child, with_setting, with_settings, unless_fault}
use Rattle.dts_tree.specs.Laws.{SetsOther, AllSetOther, LastSettingCounts}
use Rattle.dts_tree.proofs.ContentLemmas.{same_name-self}

both : (a b : Bool) → (a && b) ≡ true → (a ≡ true) × (b ≡ true)
both true b h = (refl, h)
both false b h = absurd (let e : false ≡ true = h in cc)

-- keys that are told to be the same are
pub same_name-true : (a b : ℕ × List ℕ) → same_name a b ≡ true → a ≡ b
same_name-true a b is =
    let h = both (nat_eq a.0 b.0) (bytes_eq a.1 b.1) is in
    let owner : a.0 ≡ b.0 = eqb-true a.0 b.0 h.0 in
    let name : a.1 ≡ b.1 = (bytes_eq-Decides a.1 b.1).0 h.1 in
    ap (λ (n : ℕ). (n, a.1)) owner ∙ ap (λ (w : List ℕ). (b.0, w)) name

-- keys that differ, the other way round
pub turned : (a b : ℕ × List ℕ) → same_name b a ≡ false → same_name a b ≡ false
turned a b differ =
    elim (same_name a b) as (λ (x : Bool). same_name a b ≡ x → x ≡ false) [
      | true ↦ λ is. (let e : true ≡ false = sym (same_name-self a) ∙ ap (λ k. same_name k a) (same_name-true a b is) ∙ differ in cc)
      | false ↦ λ is. refl
    ] refl

module _ {V : Type 0} where
  lookup-insert : (es : List ((ℕ × List ℕ) × V)) (key : ℕ × List ℕ) (v : V) → lookup (same_name key) (insert_entry same_name es key v) ≡ Some v
  lookup-insert [] key v = ap (λ (b : Bool). cond b (Some v) None) (same_name-self key)
  lookup-insert (e ∷ es) key v =
      elim (same_name key e.0) as (λ (b : Bool). same_name key e.0 ≡ b → lookup (same_name key) (cond b ((e.0, v) ∷ es) (e ∷ insert_entry same_name es key v)) ≡ Some v) [
        | true ↦ λ is. ap (λ (b : Bool). cond b (Some v) (lookup (same_name key) es)) is
        | false ↦ λ is. ap (λ (b : Bool). cond b (Some e.1) (lookup (same_name key) (insert_entry same_name es key v))) is ∙ lookup-insert es key v
      ] refl

  lookup-other : (es : List ((ℕ × List ℕ) × V)) (key other : ℕ × List ℕ) (v : V) → same_name other key ≡ false → lookup (same_name key) (insert_entry same_name es other v) ≡ lookup (same_name key) es
  lookup-other [] key other v differs = ap (λ (b : Bool). cond b (Some v) None) (turned key other differs)
  lookup-other (e ∷ es) key other v differs =
      elim (same_name other e.0) as (λ (b : Bool). same_name other e.0 ≡ b → lookup (same_name key) (cond b ((e.0, v) ∷ es) (e ∷ insert_entry same_name es other v)) ≡ lookup (same_name key) (e ∷ es)) [
        | true ↦ λ is. (
            let apart : same_name key e.0 ≡ false = elim (same_name key e.0) as (λ (x : Bool). same_name key e.0 ≡ x → x ≡ false) [ true ↦ λ here. (let never : true ≡ false = sym (same_name-self key) ∙ ap (λ k. same_name k key) (same_name-true key e.0 here ∙ sym (same_name-true other e.0 is)) ∙ differs in cc) | false ↦ λ here. refl ] refl in
            ap (λ (b : Bool). cond b (Some v) (lookup (same_name key) es)) apart ∙ sym (ap (λ (b : Bool). cond b (Some e.1) (lookup (same_name key) es)) apart))
        | false ↦ λ is. ap (λ (o : Option V). cond (same_name key e.0) (Some e.1) o) (lookup-other es key other v differs)
      ] refl

abbrev Keeps : ℕ × List ℕ → Content → Result Content TreeFault → Type 0
Keeps key c got = (next : Content) → got ≡ Ok next → lookup (same_name key) next.properties ≡ lookup (same_name key) c.properties

keeps_ok : (key : ℕ × List ℕ) (c d : Content) → lookup (same_name key) d.properties ≡ lookup (same_name key) c.properties → Keeps key c (Ok d)
keeps_ok key c d same = λ next is. (let e : d ≡ next = cc in ap (λ (x : Content). lookup (same_name key) x.properties) (sym e) ∙ same)

keeps_opened : (key : ℕ × List ℕ) (c : Content) (parent : ℕ) (name : List ℕ) (at : ℕ) (ls : List Label) (place : Option ℕ) → Keeps key c (opened c parent name at ls place)
keeps_opened key c parent name at ls (Some place) = λ next is. absurd (cc)
keeps_opened key c parent name at ls None =
    elim (nat_lt (depth_of c.children parent) 32) as (λ (b : Bool). Keeps key c (cond b (Ok (with_child c parent name at ls)) (Err (TooDeep at)))) [
      | true ↦ keeps_ok key c (with_child c parent name at ls) refl
      | false ↦ λ next is. absurd (cc)
    ]

keeps_known : (key : ℕ × List ℕ) (c : Content) (at : ℕ) (o : Option ℕ) → Keeps key c (known c at o)
keeps_known key c at (Some k) = keeps_ok key c c refl
keeps_known key c at None = λ next is. absurd (cc)

keeps : (key : ℕ × List ℕ) (c : Content) (s : Setting) → SetsOther key c s → Keeps key c (with_setting c s)
keeps key c (OpensRoot at) other = keeps_ok key c _ refl
keeps key c (Opens path name at ls) other = keeps_opened key c (number_at c path) name at ls (elsewhere c.labels (child_of c.children (number_at c path) name) ls)
keeps key c (Adds label) other = keeps_known key c label.at (node_of c.labels label.name)
keeps key c (Sets path name parts) other = keeps_ok key c _ (lookup-other c.properties key (number_at c path, name) parts other)

keeps_all : (key : ℕ × List ℕ) (ss : List Setting) (c e : Content) → with_settings c ss ≡ Ok e → AllSetOther key c ss → lookup (same_name key) e.properties ≡ lookup (same_name key) c.properties
unfolding with_settings
keeps_all key [] c e is other = keeps_ok key c c refl e is
keeps_all key (s ∷ ss) c e is other =
    elim (with_setting c s) as (λ (o : Result Content TreeFault). with_setting c s ≡ o → unless_fault (λ next. with_settings next ss) o ≡ Ok e → lookup (same_name key) e.properties ≡ lookup (same_name key) c.properties) [
      | Ok next ↦ λ here rest. keeps_all key ss next e rest (other.1 next here) ∙ keeps key c s other.0 next here
      | Err fault ↦ λ here rest. absurd (cc)
    ] refl is

pub last_setting : LastSettingCounts
last_setting c d e path name parts after here rest other =
    let key : ℕ × List ℕ = (number_at c path, name) in
    let is : record c { properties = insert_entry same_name c.properties key parts } ≡ d = cc in
    keeps_all key after d e rest other ∙ ap (λ (x : Content). lookup (same_name key) x.properties) (sym is) ∙ lookup-insert c.properties key parts
