-- Where keys stand among entries.
use Rattle.std.proofs.Common.{◌⊎◌, inl, inr, map, ◌≡◌, ℕ, zero, suc, ◌+◌, ◌<◌, ◌≤◌, List, [], ◌∷◌, ◌++◌, Bool, true, false, cond, Option, Some, None, length, get_or, set, refl, sym, ap, ◌∙◌, subst, add-one, arith}
use Rattle.std.specs.declared.cmp.Ordering.{Ordering}
use Rattle.std.specs.Ordering.{is_eq}
use Rattle.std.specs.Cmp.{IsEquivalence}
use Rattle.std.specs.Map.{lookup}
use Rattle.std.specs.Prelude.{IfSome}
use Rattle.std.specs.Option.{option_map, unwrap_or}
use Rattle.std.specs.BTreeMap.{BTreeMap, get}
use Rattle.std.proofs.Math.Logic.{⊎_elim}
use Rattle.std.proofs.lemmas.Bool.{cases_Bool}
use Rattle.std.specs.List.{slice_get}
use Rattle.std.proofs.lemmas.List.{map-append, length-map}
use Rattle.ordered_map.specs.Entries.{insert_entry, keep_entry, place_of, IsOnce, Placed}

record Before (o : Option ℕ) (n : ℕ) : Type 0 where
  at : ℕ
  there : o ≡ Some at
  next : n ≡ suc at

before : (o : Option ℕ) (n : ℕ) → option_map (λ k. k + 1) o ≡ Some n → Before o n
before None n is = absurd (cc)
before (Some k) n is = let e : k + 1 ≡ n = cc in record { at = k; there = refl; next = sym e ∙ add-one k }

none_before : (o : Option ℕ) → option_map (λ k. k + 1) o ≡ None → o ≡ None
none_before None is = refl
none_before (Some k) is = absurd (cc)

-- the place of an entry behind so many others, where none of them passes
abbrev pub or_last : Option ℕ → Bool → ℕ → Option ℕ
or_last (Some n) passes last = Some n
or_last None passes last = cond passes (Some last) None

or_last-next : (o : Option ℕ) (passes : Bool) (n : ℕ) → option_map (λ k. k + 1) (or_last o passes n) ≡ or_last (option_map (λ k. k + 1) o) passes (suc n)
or_last-next (Some k) passes n = refl
or_last-next None true n = ap Some (add-one n)
or_last-next None false n = refl

pub or_last-none : (o : Option ℕ) (n : ℕ) → or_last o false n ≡ o
or_last-none (Some k) n = refl
or_last-none None n = refl

or-there : (o : Option ℕ) (n end : ℕ) → n ≡ unwrap_or o end → n < end → o ≡ Some n
or-there None n end is below = absurd (omega (arith, is, below))
or-there (Some k) n end is below = ap Some (sym is)

or_last-front : (o : Option ℕ) (passes : Bool) (last place : ℕ) → place < last → or_last o passes last ≡ Some place → o ≡ Some place
or_last-front (Some k) passes last place below is = is
or_last-front None true last place below is = absurd (let e : last ≡ place = cc in omega (arith, e, below))
or_last-front None false last place below is = absurd (let no : None ≡ Some place = is in cc)

-- an item of the front of a list
get-front : {X : Type 0} (xs ys : List X) (i : ℕ) (x : X) → slice_get xs i ≡ Some x → slice_get (xs ++ ys) i ≡ Some x
get-front [] ys i x is = absurd (let no : None ≡ Some x = is in cc)
get-front (y ∷ xs) ys zero x is = is
get-front (y ∷ xs) ys (suc i) x is = get-front xs ys i x is

get-inside : {X : Type 0} (xs : List X) (i : ℕ) (x : X) → slice_get xs i ≡ Some x → i < length xs
get-inside [] i x is = absurd (let no : None ≡ Some x = is in cc)
get-inside (y ∷ xs) zero x is = omega arith
get-inside (y ∷ xs) (suc i) x is = omega (arith, get-inside xs i x is)

-- what stands at a place in a list with one item more
read-push : {X : Type 0} (xs : List X) (last x : X) (i : ℕ) → slice_get (xs ++ last ∷ []) i ≡ Some x → (slice_get xs i ≡ Some x) ⊎ ((i ≡ length xs) × (last ≡ x))
read-push [] last x zero is = inr (refl, cc)
read-push [] last x (suc i) is = absurd (cc)
read-push (y ∷ xs) last x zero is = inl is
read-push (y ∷ xs) last x (suc i) is = ⊎_elim (λ h. inl h) (λ h. inr (ap suc h.0, h.1)) (read-push xs last x i is)

module _ {K V : Type 0} where
  -- the entry of a key that has a place
  abbrev pub Found : (K → Bool) → List (K × V) → ℕ → K × V → Type 0
  Found passes es n d = (n < length es) × (lookup passes es ≡ Some (get_or es n d).1)

  pub place-found : (passes : K → Bool) (es : List (K × V)) (n : ℕ) (d : K × V) → place_of passes es ≡ Some n → Found passes es n d
  place-found passes [] n d is = absurd (let no : None ≡ Some n = is in cc)
  place-found passes (e ∷ es) n d is =
      elim (passes e.0) as (λ (b : Bool). cond b (Some 0) (option_map (λ k. k + 1) (place_of passes es)) ≡ Some n → (n < length (e ∷ es)) × (cond b (Some e.1) (lookup passes es) ≡ Some (get_or (e ∷ es) n d).1)) [
        | true ↦ λ first. (let z : 0 ≡ n = cc in subst (λ (m : ℕ). (m < length (e ∷ es)) × (Some e.1 ≡ Some (get_or (e ∷ es) m d).1)) z (omega arith, refl))
        | false ↦ λ later. (let b = before (place_of passes es) n later in
            let f = place-found passes es b.at d b.there in
            subst (λ (m : ℕ). (m < length (e ∷ es)) × (lookup passes es ≡ Some (get_or (e ∷ es) m d).1)) (sym b.next) (omega (arith, f.0), f.1))
      ] is

  pub place-inside : (passes : K → Bool) (es : List (K × V)) (n : ℕ) → place_of passes es ≡ Some n → n < length es
  place-inside passes [] n is = absurd (let no : None ≡ Some n = is in cc)
  place-inside passes (e ∷ es) n is = (place-found passes (e ∷ es) n e is).0

  pub place-within : (passes : K → Bool) (es : List (K × V)) (place : Option ℕ) → place ≡ place_of passes es → IfSome place (λ n. n < length es)
  place-within passes es None is = tt
  place-within passes es (Some n) is = place-inside passes es n (sym is)

  pub place-missing : (passes : K → Bool) (es : List (K × V)) → place_of passes es ≡ None → lookup passes es ≡ None
  place-missing passes [] is = refl
  place-missing passes (e ∷ es) is =
      elim (passes e.0) as (λ (b : Bool). cond b (Some 0) (option_map (λ k. k + 1) (place_of passes es)) ≡ None → cond b (Some e.1) (lookup passes es) ≡ None) [
        | true ↦ λ first. absurd (let no : Some 0 ≡ None = first in cc)
        | false ↦ λ later. place-missing passes es (none_before (place_of passes es) later)
      ] is

  -- an entry behind the others
  pub place-push : (passes : K → Bool) (es : List (K × V)) (e : K × V) → place_of passes (es ++ e ∷ []) ≡ or_last (place_of passes es) (passes e.0) (length es)
  place-push passes [] e = refl
  place-push passes (x ∷ es) e =
      ap (λ o. cond (passes x.0) (Some 0) (option_map (λ k. k + 1) o)) (place-push passes es e)
      ∙ ap (λ o. cond (passes x.0) (Some 0) o) (or_last-next (place_of passes es) (passes e.0) (length es))
      ∙ elim (passes x.0) as (λ (b : Bool). cond b (Some 0) (or_last (option_map (λ k. k + 1) (place_of passes es)) (passes e.0) (suc (length es))) ≡ or_last (cond b (Some 0) (option_map (λ k. k + 1) (place_of passes es))) (passes e.0) (suc (length es))) [ true ↦ refl | false ↦ refl ]

  pub place-last : (same : K → K → Bool) (es : List (K × V)) (key : K) (value : V) → same key key ≡ true → place_of (same key) es ≡ None → place_of (same key) (es ++ (key, value) ∷ []) ≡ Some (length es)
  place-last same es key value self is =
      place-push (same key) es (key, value)
      ∙ ap (λ o. or_last o (same key key) (length es)) is
      ∙ ap (λ b. cond b (Some (length es)) None) self

  pub place-new : (same : K → K → Bool) → IsEquivalence same → (es : List (K × V)) (key : K) (value : V) → place_of (same key) es ≡ None → place_of (same key) (es ++ (key, value) ∷ []) ≡ Some (length es)
  place-new same laws es key value is = place-last same es key value (laws.refl key) is

  pub insert-new : (same : K → K → Bool) (es : List (K × V)) (key : K) (value : V) → place_of (same key) es ≡ None → insert_entry same es key value ≡ es ++ (key, value) ∷ []
  insert-new same [] key value is = refl
  insert-new same (e ∷ es) key value is =
      elim (same key e.0) as (λ (b : Bool). cond b (Some 0) (option_map (λ k. k + 1) (place_of (same key) es)) ≡ None → cond b ((e.0, value) ∷ es) (e ∷ insert_entry same es key value) ≡ e ∷ (es ++ (key, value) ∷ [])) [
        | true ↦ λ first. absurd (let no : Some 0 ≡ None = first in cc)
        | false ↦ λ later. ap (λ xs. e ∷ xs) (insert-new same es key value (none_before (place_of (same key) es) later))
      ] is

  pub insert-there : (same : K → K → Bool) (es : List (K × V)) (key : K) (value : V) (n : ℕ) (d : K × V) → place_of (same key) es ≡ Some n → insert_entry same es key value ≡ set es n ((get_or es n d).0, value)
  insert-there same [] key value n d is = absurd (let no : None ≡ Some n = is in cc)
  insert-there same (e ∷ es) key value n d is =
      elim (same key e.0) as (λ (b : Bool). cond b (Some 0) (option_map (λ k. k + 1) (place_of (same key) es)) ≡ Some n → cond b ((e.0, value) ∷ es) (e ∷ insert_entry same es key value) ≡ set (e ∷ es) n ((get_or (e ∷ es) n d).0, value)) [
        | true ↦ λ first. (let z : 0 ≡ n = cc in subst (λ (m : ℕ). (e.0, value) ∷ es ≡ set (e ∷ es) m ((get_or (e ∷ es) m d).0, value)) z refl)
        | false ↦ λ later. (let b = before (place_of (same key) es) n later in
            subst (λ (m : ℕ). e ∷ insert_entry same es key value ≡ set (e ∷ es) m ((get_or (e ∷ es) m d).0, value)) (sym b.next) (ap (λ xs. e ∷ xs) (insert-there same es key value b.at d b.there)))
      ] is

  pub keep-new : (same : K → K → Bool) (es : List (K × V)) (key : K) (value : V) → place_of (same key) es ≡ None → keep_entry same es key value ≡ es ++ (key, value) ∷ []
  keep-new same [] key value is = refl
  keep-new same (e ∷ es) key value is =
      elim (same key e.0) as (λ (b : Bool). cond b (Some 0) (option_map (λ k. k + 1) (place_of (same key) es)) ≡ None → cond b (e ∷ es) (e ∷ keep_entry same es key value) ≡ e ∷ (es ++ (key, value) ∷ [])) [
        | true ↦ λ first. absurd (let no : Some 0 ≡ None = first in cc)
        | false ↦ λ later. ap (λ xs. e ∷ xs) (keep-new same es key value (none_before (place_of (same key) es) later))
      ] is

  pub keep-there : (same : K → K → Bool) (es : List (K × V)) (key : K) (value : V) (n : ℕ) → place_of (same key) es ≡ Some n → keep_entry same es key value ≡ es
  keep-there same [] key value n is = absurd (let no : None ≡ Some n = is in cc)
  keep-there same (e ∷ es) key value n is =
      elim (same key e.0) as (λ (b : Bool). cond b (Some 0) (option_map (λ k. k + 1) (place_of (same key) es)) ≡ Some n → cond b (e ∷ es) (e ∷ keep_entry same es key value) ≡ e ∷ es) [
        | true ↦ λ first. refl
        | false ↦ λ later. (let b = before (place_of (same key) es) n later in ap (λ xs. e ∷ xs) (keep-there same es key value b.at b.there))
      ] is

  -- the number that a map has for a key, or else the next one, tells whether the key is there
  module _ (passes : K → Bool) (es : List (K × V)) (got : Option ℕ) (n end : ℕ) (is : n ≡ unwrap_or got end) (found : got ≡ place_of passes es) (next : end ≡ length es) where
    pub found-there : n < end → place_of passes es ≡ Some n
    found-there below = sym found ∙ or-there got n end is below

    pub found-missing : end ≤ n → place_of passes es ≡ None
    found-missing past =
        elim (place_of passes es) as (λ (o : Option ℕ). place_of passes es ≡ o → got ≡ o → o ≡ None) [
          | None ↦ λ e same. refl
          | Some k ↦ λ e same. absurd (omega (arith, place-inside passes es k e, is, ap (λ o. unwrap_or o end) same, next, past))
        ] refl found

    pub found-last : end ≤ n → n ≡ length es
    found-last past = is ∙ ap (λ o. unwrap_or o end) (found ∙ found-missing past) ∙ next

  place-congr : (p q : K → Bool) (es : List (K × V)) → ((k : K) → p k ≡ q k) → place_of p es ≡ place_of q es
  place-congr p q [] h = refl
  place-congr p q (e ∷ es) h =
      ap (λ b. cond b (Some 0) (option_map (λ k. k + 1) (place_of p es))) (h e.0)
      ∙ ap (λ o. cond (q e.0) (Some 0) (option_map (λ k. k + 1) o)) (place-congr p q es h)

  once-push : (same : K → K → Bool) → IsEquivalence same → (es : List (K × V)) (key : K) (value : V) → IsOnce same es → place_of (same key) es ≡ None → IsOnce same (es ++ (key, value) ∷ [])
  once-push same laws es key value once absent place k is =
      ⊎_elim
      (λ old. place-push (same k) es (key, value) ∙ ap (λ o. or_last o (same k key) (length es)) (once place k old))
      (λ new. subst (λ (q : K). place_of (same q) (es ++ (key, value) ∷ []) ≡ Some place) new.1
      (place-new same laws es key value absent ∙ ap Some (sym (new.0 ∙ length-map es (λ (e : K × V). e.0)))))
      (read-push (map (λ (e : K × V). e.0) es) key k place (sym (ap (λ ks. slice_get ks place) (map-append (λ (e : K × V). e.0) es ((key, value) ∷ []))) ∙ is))

  -- a key that was found nowhere has its entry last
  pub placed-push : (same : K → K → Bool) (cmp : K → K → Ordering) → IsEquivalence same → ((x y : K) → same x y ≡ is_eq (cmp x y)) → (es : List (K × V)) (old new : BTreeMap K ℕ) (key : K) (value : V) → Placed same cmp es old → place_of (same key) es ≡ None → ((q : K) → get cmp new q ≡ cond (is_eq (cmp key q)) (Some (length es)) (get cmp old q)) → Placed same cmp (es ++ (key, value) ∷ []) new
  placed-push same cmp laws ties es old new key value placed absent updates = record {
    found = λ q. updates q
        ∙ ap (λ b. cond b (Some (length es)) (get cmp old q)) (sym (ties key q))
        ∙ ap (λ o. cond (same key q) (Some (length es)) o) (placed.found q)
        ∙ ⊎_elim
        (λ there.
        let none : place_of (same q) es ≡ None = place-congr (same q) (same key) es (λ k. sym (laws.congr key q k there)) ∙ absent in
        ap (λ b. cond b (Some (length es)) (place_of (same q) es)) there
        ∙ sym (place-push (same q) es (key, value)
        ∙ ap (λ o. or_last o (same q key) (length es)) none
        ∙ ap (λ b. cond b (Some (length es)) None) (laws.symm q key ∙ there)))
        (λ other. ap (λ b. cond b (Some (length es)) (place_of (same q) es)) other
        ∙ sym (place-push (same q) es (key, value)
        ∙ ap (λ b. or_last (place_of (same q) es) b (length es)) (laws.symm q key ∙ other)
        ∙ or_last-none (place_of (same q) es) (length es)))
        (cases_Bool (same key q));
    once = once-push same laws es key value placed.once absent;
  }

  keys-last : (es : List (K × V)) (e : K × V) → slice_get (map (λ (d : K × V). d.0) (es ++ e ∷ [])) (length es) ≡ Some e.0
  keys-last [] e = refl
  keys-last (x ∷ es) e = keys-last es e

  -- one entry less: where a key that was found is found, and each key comes once
  placed-front : (same : K → K → Bool) (es : List (K × V)) (e : K × V) (key : K) (place : ℕ) → place < length es → place_of (same key) (es ++ e ∷ []) ≡ Some place → place_of (same key) es ≡ Some place
  placed-front same es e key place below is = or_last-front (place_of (same key) es) (same key e.0) (length es) place below (sym (place-push (same key) es e) ∙ is)

  placed-fresh : (same : K → K → Bool) (es : List (K × V)) (e : K × V) → place_of (same e.0) (es ++ e ∷ []) ≡ Some (length es) → place_of (same e.0) es ≡ None
  placed-fresh same es e is =
      elim (place_of (same e.0) es) as (λ (o : Option ℕ). place_of (same e.0) es ≡ o → o ≡ None) [
        | None ↦ λ none. refl
        | Some n ↦ λ there. absurd (let at : Some n ≡ Some (length es) = ap (λ o. or_last o (same e.0 e.0) (length es)) (sym there) ∙ sym (place-push (same e.0) es e) ∙ is in
            let same_place : n ≡ length es = cc in omega (arith, same_place, place-inside (same e.0) es n there))
      ] refl

  pub placed-pop : (same : K → K → Bool) (cmp : K → K → Ordering) → IsEquivalence same → ((x y : K) → same x y ≡ is_eq (cmp x y)) → (es : List (K × V)) (e : K × V) (old new : BTreeMap K ℕ) → Placed same cmp (es ++ e ∷ []) old → ((q : K) → get cmp new q ≡ cond (is_eq (cmp e.0 q)) None (get cmp old q)) → Placed same cmp es new
  placed-pop same cmp laws ties es e old new placed updates = record {
    found = λ q. updates q
        ∙ ap (λ b. cond b None (get cmp old q)) (sym (ties e.0 q))
        ∙ ap (λ o. cond (same e.0 q) None o) (placed.found q ∙ place-push (same q) es e)
        ∙ ⊎_elim
        (λ there. ap (λ b. cond b None (or_last (place_of (same q) es) (same q e.0) (length es))) there
        ∙ sym (place-congr (same q) (same e.0) es (λ k. sym (laws.congr e.0 q k there)) ∙ placed-fresh same es e (placed.once (length es) e.0 (keys-last es e))))
        (λ other. ap (λ b. cond b None (or_last (place_of (same q) es) (same q e.0) (length es))) other
        ∙ ap (λ b. or_last (place_of (same q) es) b (length es)) (laws.symm q e.0 ∙ other)
        ∙ or_last-none (place_of (same q) es) (length es))
        (cases_Bool (same e.0 q));
    once = λ place k is. placed-front same es e k place (omega (arith, get-inside (map (λ (d : K × V). d.0) es) place k is, length-map es (λ (d : K × V). d.0)))
        (placed.once place k (ap (λ ks. slice_get ks place) (map-append (λ (d : K × V). d.0) es (e ∷ [])) ∙ get-front (map (λ (d : K × V). d.0) es) (e.0 ∷ []) place k is));
  }
