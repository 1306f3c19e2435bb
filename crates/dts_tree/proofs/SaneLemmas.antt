-- What holds of a content, whatever was set.
use Rattle.std.proofs.Common.{◌≡◌, ℕ, ◌+◌, ◌≤◌, List, [], ◌∷◌, Bool, true, false, cond, Option, Some, None, Result, Ok, Err, length, refl, subst, arith}
use Rattle.std.specs.Prelude.{nat_lt}
use Rattle.std.specs.Option.{option_map}
use Rattle.ordered_map.specs.Entries.{insert_entry, place_of}
use Rattle.name_map.specs.NameEntries.{same_name, keep_entry}
use Rattle.dts_tree.specs.declared.fault.TreeFault.{TreeFault}
use Rattle.dts_tree.specs.declared.fault.TreeFault.TheVariants.{TooDeep}
use Rattle.dts_tree.specs.declared.store.Opened.{Opened}
use Rattle.dts_tree.specs.Setting.{Label, Path, Root, Labelled, Child, Setting, OpensRoot, Opens, Adds, Sets}
use Rattle.dts_tree.specs.Content.{Content, nothing, number_at, node_of, child_of, or_root, depth_of, elsewhere, known, opened, with_child, with_setting, with_settings, unless_fault}
use Rattle.dts_tree.specs.Inside.Sane.{Apart, Sane}
use Rattle.dts_tree.proofs.SettingLemmas.{turned}
use Rattle.dts_tree.proofs.ReaderLemmas.{all-keep, all-insert, all-weaker, lookup-all, length-keep, place-inside, earlier-keep, labels-all}

module _ {V : Type 0} where
  apart-keep : (es : List ((ℕ × List ℕ) × V)) (key : ℕ × List ℕ) (v : V) → Apart es → Apart (keep_entry same_name es key v)
  apart-keep [] key v h = (tt, tt)
  apart-keep (e ∷ es) key v h =
      elim (same_name key e.0) as (λ (b : Bool). same_name key e.0 ≡ b → Apart (cond b (e ∷ es) (e ∷ keep_entry same_name es key v))) [
        | true ↦ λ is. h
        | false ↦ λ is. (all-keep (λ f. same_name e.0 f.0 ≡ false) es key v h.0 (turned e.0 key is), apart-keep es key v h.1)
      ] refl

  apart-insert : (es : List ((ℕ × List ℕ) × V)) (key : ℕ × List ℕ) (v : V) → Apart es → Apart (insert_entry same_name es key v)
  apart-insert [] key v h = (tt, tt)
  apart-insert (e ∷ es) key v h =
      elim (same_name key e.0) as (λ (b : Bool). same_name key e.0 ≡ b → Apart (cond b ((e.0, v) ∷ es) (e ∷ insert_entry same_name es key v))) [
        | true ↦ λ is. h
        | false ↦ λ is. (all-insert (λ f. same_name e.0 f.0 ≡ false) es key v h.0 (turned e.0 key is) (λ f low. low), apart-insert es key v h.1)
      ] refl

child_inside : (es : List ((ℕ × List ℕ) × Opened)) (parent : ℕ) (name : List ℕ) → or_root (child_of es parent name) ≤ length es
child_inside es parent name = inside (place_of (same_name (parent, name)) es) refl where
  inside : (o : Option ℕ) → place_of (same_name (parent, name)) es ≡ o → or_root (option_map (λ k. k + 1) o) ≤ length es
  inside None is = omega arith
  inside (Some k) is = omega (arith, place-inside (same_name (parent, name)) es k is)

number_inside : (c : Content) → Sane c → (path : Path) → number_at c path ≤ length c.children
number_inside c h Root = omega arith
number_inside c h (Labelled name) = inside (node_of c.labels name) refl where
  inside : (o : Option ℕ) → node_of c.labels name ≡ o → or_root o ≤ length c.children
  inside None is = omega arith
  inside (Some k) is = lookup-all (λ n. n ≤ length c.children) (same_name (0, name)) c.labels k h.labels is
number_inside c h (Child path name) = child_inside c.children (number_at c path) name

abbrev AllSane : Result Content TreeFault → Type 0
AllSane (Ok c) = Sane c
AllSane (Err fault) = Unit {0}

sane_child : (c : Content) (parent : ℕ) (name : List ℕ) (at : ℕ) (ls : List Label) → Sane c → parent ≤ length c.children → Sane (with_child c parent name at ls)
sane_child c parent name at ls h inside =
    let v : Opened = record { at = at; depth = depth_of c.children parent + 1 } in
    let now : List ((ℕ × List ℕ) × Opened) = keep_entry same_name c.children (parent, name) v in
    let long = length-keep c.children (parent, name) v in
    record {
      earlier = earlier-keep 0 c.children (parent, name) v h.earlier (omega (arith, inside));
      labels = labels-all (length now) (or_root (child_of now parent name)) ls c.labels (child_inside now parent name) (all-weaker _ _ c.labels (λ e low. omega (arith, low, long.0)) h.labels);
      apart = apart-keep c.children (parent, name) v h.apart;
      single = h.single;
    }

sane_opened : (c : Content) (parent : ℕ) (name : List ℕ) (at : ℕ) (ls : List Label) (place : Option ℕ) → Sane c → parent ≤ length c.children → AllSane (opened c parent name at ls place)
sane_opened c parent name at ls (Some place) h inside = tt
sane_opened c parent name at ls None h inside =
    elim (nat_lt (depth_of c.children parent) 32) as (λ (b : Bool). AllSane (cond b (Ok (with_child c parent name at ls)) (Err (TooDeep at)))) [
      | true ↦ sane_child c parent name at ls h inside
      | false ↦ tt
    ]

sane_known : (c : Content) (at : ℕ) (o : Option ℕ) → Sane c → AllSane (known c at o)
sane_known c at (Some k) h = h
sane_known c at None h = tt

sane_setting : (c : Content) (s : Setting) → Sane c → AllSane (with_setting c s)
sane_setting c (OpensRoot at) h = record { earlier = h.earlier; labels = h.labels; apart = h.apart; single = h.single }
sane_setting c (Opens path name at ls) h = sane_opened c (number_at c path) name at ls (elsewhere c.labels (child_of c.children (number_at c path) name) ls) h (number_inside c h path)
sane_setting c (Adds label) h = sane_known c label.at (node_of c.labels label.name) h
sane_setting c (Sets path name parts) h = record { earlier = h.earlier; labels = h.labels; apart = h.apart; single = apart-insert c.properties (number_at c path, name) parts h.single }

sane_all : (ss : List Setting) (c e : Content) → Sane c → with_settings c ss ≡ Ok e → Sane e
unfolding with_settings
sane_all [] c e h is = let same : c ≡ e = cc in subst Sane same h
sane_all (s ∷ ss) c e h is =
    elim (with_setting c s) as (λ (o : Result Content TreeFault). AllSane o → unless_fault (λ next. with_settings next ss) o ≡ Ok e → Sane e) [
      | Ok next ↦ λ now rest. sane_all ss next e now rest
      | Err fault ↦ λ now rest. absurd (cc)
    ] (sane_setting c s h) is

pub sane : (ss : List Setting) (e : Content) → with_settings nothing ss ≡ Ok e → Sane e
unfolding nothing
sane ss e is = sane_all ss nothing e (record { earlier = tt; labels = tt; apart = tt; single = tt }) is
