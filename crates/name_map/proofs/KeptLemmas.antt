-- Entries and where their short keys say that they stand.
use Rattle.std.proofs.Common.{◌≡◌, ℕ, ◌+◌, ◌<◌, ◌≤◌, List, [], ◌∷◌, ◌++◌, Bool, true, false, cond, Option, Some, None, Result, Ok, Err, length, map, set, zero, suc, get_or, add-one, refl, sym, ap, subst, ◌∙◌, arith}
use Rattle.std.proofs.lemmas.Bool.{cases_Bool}
use Rattle.std.proofs.lemmas.List.{length_push}
use Rattle.std.proofs.Math.Logic.{⊎_elim}
use Rattle.std.specs.BTreeMap.{get}
use Rattle.std.specs.List.{AllByRecursion}
use Rattle.std.specs.Map.{lookup}
use Rattle.std.specs.Option.{IsSome, option_map, unwrap_or}
use Rattle.std.specs.Ordering.{is_eq}
use Rattle.std.specs.Prelude.{is_some, slice_get, IfOk, OnOk}
use Rattle.std.specs.declared.alloc.AllocError.{AllocError}
use Rattle.ordered_map.proofs.EntryLemmas.{found-there, found-missing, found-last, or_last, or_last-none, place-push, place-last, insert-there, keep-there, keep-new}
use Rattle.name_map.specs.NameEntries.{same_name, size_of, insert_entry, keep_entry, place_of}
use Rattle.name_map.specs.Inside.States.{Edges}
use Rattle.name_map.specs.Inside.Keys.{Key, key_of, key_cmp, is_key, IsGrown}
use Rattle.name_map.specs.Inside.Kept.{Places, Kept, IsPut}
use Rattle.name_map.proofs.StateLemmas.{counted, place-key}
use Rattle.name_map.proofs.KeyLemmas.{short, key-from, key-same, key-apart, key_cmp-is, name-same, same_name-refl, same_name-symm}

pub record Has {X : Type 0} (o : Option X) : Type 0 where
  pub at : X
  pub is : o ≡ Some at

pub has : {X : Type 0} (o : Option X) → is_some o ≡ true → Has o
has None some_ = absurd (let e : false ≡ true = some_ in cc)
has (Some x) some_ = record { at = x; is = refl }

-- a key that is a short key
is_key-same : (key : Key) (o : Option Key) → is_key key o ≡ true → o ≡ Some key
is_key-same key None is = absurd (let e : false ≡ true = is in cc)
is_key-same key (Some other) is = ap Some (sym (name-same key other is))

pub key-grown : (old new : Edges) (name : List ℕ) → IsGrown old new name → (b : ℕ × List ℕ) (key : Key) → key_of old b ≡ Some key → key_of new b ≡ Some key
key-grown old new name grown b key is = let s = short old b key is in key-from new b key (record { owner = s.owner; code = grown.kept b.1 key.1 s.code })

-- where a short key was put
pub is-put : (edges : Edges) (a : ℕ × List ℕ) (old new : Places) (end : ℕ) (key : Key) → key_of edges a ≡ Some key → (result : Result ℕ AllocError) → IfOk result (λ place. place ≡ unwrap_or (get key_cmp old key) end) → OnOk result ((q : Key) → get key_cmp new q ≡ cond (is_eq (key_cmp key q)) (Some (unwrap_or (get key_cmp old key) end)) (get key_cmp old q)) → IfOk result (λ place. IsPut edges a old new end place)
is-put edges a old new end key is (Ok place) at found = record {
  led = ap is_some is;
  at = λ k other. (let same : key ≡ k = one_key k other in at ∙ ap (λ (q : Key). unwrap_or (get key_cmp old q) end) same);
  found = λ k other. subst (λ (x : Key). (q : Key) → get key_cmp new q ≡ cond (is_eq (key_cmp x q)) (Some place) (get key_cmp old q)) (one_key k other) (λ q. found q ∙ ap (λ (n : ℕ). cond (is_eq (key_cmp key q)) (Some n) (get key_cmp old q)) (sym at));
} where
  one_key : (k : Key) → key_of edges a ≡ Some k → key ≡ k
  one_key k other = let both : Some key ≡ Some k = sym is ∙ other in cc
is-put edges a old new end key is (Err refused) at found = tt

module _ {V : Type 0} where
  abbrev Coded : Edges → List ((ℕ × List ℕ) × V) → Type 0
  Coded edges es = AllByRecursion (λ e. IsSome (key_of edges e.0)) es

  -- where the first entry with this short key stands
  abbrev stands : Edges → Key → List ((ℕ × List ℕ) × V) → Option ℕ
  stands edges key es = place_of (λ a. is_key key (key_of edges a)) es

  pub size-push : (es : List ((ℕ × List ℕ) × V)) (a : ℕ × List ℕ) (value : V) → size_of (es ++ (a, value) ∷ []) ≡ size_of es + length a.1 + 1
  size-push [] a value = omega arith
  size-push (e ∷ es) a value = omega (arith, size-push es a value)

  -- so many entries at most
  pub size-length : (es : List ((ℕ × List ℕ) × V)) → length es ≤ size_of es
  size-length [] = omega arith
  size-length (e ∷ es) = omega (arith, size-length es)

  -- an owner and a name that have a short key stand where it does
  pub stands-by : (edges : Edges) (a : ℕ × List ℕ) (key : Key) → key_of edges a ≡ Some key → (es : List ((ℕ × List ℕ) × V)) → Coded edges es → stands edges key es ≡ place_of (same_name a) es
  stands-by edges a key is [] coded = refl
  stands-by edges a key is (e ∷ es) coded =
      let h = has (key_of edges e.0) coded.0 in
      ap (λ b. cond b (Some 0) (option_map (λ k. k + 1) (stands edges key es))) (ap (is_key key) h.is ∙ key-apart edges a e.0 key h.at is h.is)
      ∙ ap (λ o. cond (same_name a e.0) (Some 0) (option_map (λ k. k + 1) o)) (stands-by edges a key is es coded.1)

  -- and those that have none stand nowhere
  pub stands-off : (edges : Edges) (a : ℕ × List ℕ) → key_of edges a ≡ None → (es : List ((ℕ × List ℕ) × V)) → Coded edges es → place_of (same_name a) es ≡ None
  stands-off edges a none [] coded = refl
  stands-off edges a none (e ∷ es) coded =
      elim (same_name a e.0) as (λ (b : Bool). same_name a e.0 ≡ b → cond b (Some 0) (option_map (λ k. k + 1) (place_of (same_name a) es)) ≡ None) [
        | true ↦ λ same. absurd (let h = has (key_of edges e.0) coded.0 in
            let clash : None ≡ Some h.at = sym none ∙ ap (key_of edges) (name-same a e.0 same) ∙ h.is in cc)
        | false ↦ λ other. ap (option_map (λ k. k + 1)) (stands-off edges a none es coded.1)
      ] refl

  coded-grown : (old new : Edges) (name : List ℕ) → IsGrown old new name → (es : List ((ℕ × List ℕ) × V)) → Coded old es → Coded new es
  coded-grown old new name grown [] coded = tt
  coded-grown old new name grown (e ∷ es) coded =
      let h = has (key_of old e.0) coded.0 in
      (ap is_some (key-grown old new name grown e.0 h.at h.is), coded-grown old new name grown es coded.1)

  stands-grown : (old new : Edges) (name : List ℕ) → IsGrown old new name → (key : Key) (es : List ((ℕ × List ℕ) × V)) → Coded old es → stands new key es ≡ stands old key es
  stands-grown old new name grown key [] coded = refl
  stands-grown old new name grown key (e ∷ es) coded =
      let h = has (key_of old e.0) coded.0 in
      ap (λ b. cond b (Some 0) (option_map (λ k. k + 1) (stands new key es))) (ap (is_key key) (key-grown old new name grown e.0 h.at h.is ∙ sym h.is))
      ∙ ap (λ o. cond (is_key key (key_of old e.0)) (Some 0) (option_map (λ k. k + 1) o)) (stands-grown old new name grown key es coded.1)

  coded-push : (edges : Edges) (es : List ((ℕ × List ℕ) × V)) (a : ℕ × List ℕ) (value : V) → Coded edges es → IsSome (key_of edges a) → Coded edges (es ++ (a, value) ∷ [])
  coded-push edges [] a value coded led = (led, tt)
  coded-push edges (e ∷ es) a value coded led = (coded.0, coded-push edges es a value coded.1 led)

  -- a key that was put
  module _ (old new : Edges) (before after : Places) (es : List ((ℕ × List ℕ) × V)) (a : ℕ × List ℕ) (value : V) (end place : ℕ) (kept : Kept old before es) (grown : IsGrown old new a.1) (put : IsPut new a before after end place) (next : end ≡ length es) where
    abbrev led : Has (key_of new a)
    led = has (key_of new a) put.led

    abbrev key : Key
    key = led.at

    found_ : get key_cmp before key ≡ stands old key es
    found_ = kept.found key

    there_key : place < end → stands old key es ≡ Some place
    there_key = found-there (λ b. is_key key (key_of old b)) es (get key_cmp before key) place end (put.at key led.is) found_ next

    fresh_key : end ≤ place → stands old key es ≡ None
    fresh_key = found-missing (λ b. is_key key (key_of old b)) es (get key_cmp before key) place end (put.at key led.is) found_ next

    pub put-last : end ≤ place → place ≡ length es
    put-last = found-last (λ b. is_key key (key_of old b)) es (get key_cmp before key) place end (put.at key led.is) found_ next

    -- a key that is there had its short key before
    had : place < end → key_of old a ≡ Some key
    had below =
        let e = get_or es place (a, value) in
        let was : key_of old e.0 ≡ Some key = is_key-same key (key_of old e.0) (place-key (λ b. is_key key (key_of old b)) es place (a, value) (there_key below)) in
        let same : e.0 ≡ a = key-same new e.0 a key (key-grown old new a.1 grown e.0 key was) led.is in
        ap (key_of old) (sym same) ∙ was

    pub put-there : place < end → place_of (same_name a) es ≡ Some place
    put-there below = sym (stands-by old a key (had below) es kept.coded) ∙ there_key below

    pub put-fresh : end ≤ place → place_of (same_name a) es ≡ None
    put-fresh past =
        elim (key_of old a) as (λ (o : Option Key). key_of old a ≡ o → place_of (same_name a) es ≡ None) [
          | None ↦ λ none. stands-off old a none es kept.coded
          | Some k ↦ λ is. (let both : Some k ≡ Some key = sym (key-grown old new a.1 grown a k is) ∙ led.is in
              let same : k ≡ key = cc in
              sym (stands-by old a key (is ∙ ap Some same) es kept.coded) ∙ fresh_key past)
        ] refl

    unmoved : place < end → new ≡ old
    unmoved below = grown.stays key.1 (short old a key (had below)).code

    kept_at : place < end → Kept old after es
    kept_at below = record {
      few = kept.few;
      short = kept.short;
      coded = kept.coded;
      found = λ q. put.found key led.is q
          ∙ ap (λ b. cond b (Some place) (get key_cmp before q)) (key_cmp-is key q)
          ∙ ⊎_elim
          (λ same. ap (λ b. cond b (Some place) (get key_cmp before q)) same ∙ sym (there_key below) ∙ ap (λ (k : Key). stands old k es) (name-same key q same))
          (λ other. ap (λ b. cond b (Some place) (get key_cmp before q)) other ∙ kept.found q)
          (cases_Bool (same_name key q));
    }

    pub kept-there : place < end → Kept new after es
    kept-there below = subst (λ (xs : Edges). Kept xs after es) (sym (unmoved below)) (kept_at below)

    stands-push : (q : Key) → stands new q (es ++ (a, value) ∷ []) ≡ or_last (stands old q es) (same_name q key) (length es)
    stands-push q =
        place-push (λ b. is_key q (key_of new b)) es (a, value)
        ∙ ap (λ o. or_last o (is_key q (key_of new a)) (length es)) (stands-grown old new a.1 grown q es kept.coded)
        ∙ ap (λ o. or_last (stands old q es) (is_key q o) (length es)) led.is

    pub kept-push : end ≤ place → size_of es + length a.1 < 4294967295 → Kept new after (es ++ (a, value) ∷ [])
    kept-push past room = record {
      few = omega (arith, grown.few, kept.few, size-push es a value);
      short = omega (arith, room, size-push es a value);
      coded = coded-push new es a value (coded-grown old new a.1 grown es kept.coded) put.led;
      found = λ q. put.found key led.is q
          ∙ ap (λ b. cond b (Some place) (get key_cmp before q)) (key_cmp-is key q)
          ∙ ⊎_elim
          (λ same. let e = name-same key q same in
          ap (λ b. cond b (Some place) (get key_cmp before q)) same
          ∙ ap Some (put-last past)
          ∙ sym (stands-push q
          ∙ ap (λ o. or_last o (same_name q key) (length es)) (ap (λ (k : Key). stands old k es) (sym e) ∙ fresh_key past)
          ∙ ap (λ b. or_last None b (length es)) (same_name-symm q key ∙ same)))
          (λ other. ap (λ b. cond b (Some place) (get key_cmp before q)) other
          ∙ kept.found q
          ∙ sym (stands-push q
          ∙ ap (λ b. or_last (stands old q es) b (length es)) (same_name-symm q key ∙ other)
          ∙ or_last-none (stands old q es) (length es)))
          (cases_Bool (same_name key q));
    }

    pub keep-is-there : place < end → es ≡ keep_entry same_name es a value
    keep-is-there below = sym (keep-there same_name es a value place (put-there below))

    pub keep-is-new : end ≤ place → es ++ (a, value) ∷ [] ≡ keep_entry same_name es a value
    keep-is-new past = sym (keep-new same_name es a value (put-fresh past))

    pub put-inside : end ≤ place → place < length (es ++ (a, value) ∷ [])
    put-inside past = omega (arith, put-last past, length_push es (a, value))

    pub put-new : end ≤ place → place_of (same_name a) (es ++ (a, value) ∷ []) ≡ Some place
    put-new past = place-last same_name es a value (same_name-refl a) (put-fresh past) ∙ ap Some (sym (put-last past))

-- the value of a key stands at its place
pub lookup-place : {K V : Type 0} (passes : K → Bool) (es : List (K × V)) (n : ℕ) → place_of passes es ≡ Some n → lookup passes es ≡ slice_get (map (λ (e : K × V). e.1) es) n
lookup-place passes [] n is = absurd (let none : None ≡ Some n = is in cc)
lookup-place {K} {V} passes (e ∷ es) n is =
    elim (passes e.0) as (λ (b : Bool). cond b (Some 0) (option_map (λ k. k + 1) (place_of passes es)) ≡ Some n → cond b (Some e.1) (lookup passes es) ≡ slice_get (map (λ (d : K × V). d.1) (e ∷ es)) n) [
      | true ↦ λ first. (let z : 0 ≡ n = cc in ap (slice_get (map (λ (d : K × V). d.1) (e ∷ es))) z)
      | false ↦ λ later. (let c = counted (place_of passes es) n later in
          lookup-place passes es c.at c.there ∙ ap (slice_get (map (λ (d : K × V). d.1) (e ∷ es))) (sym (c.next ∙ add-one c.at)))
    ] is

-- another value for a key that was kept, and the key with this value
insert-kept : {K V : Type 0} (same : K → K → Bool) (es : List (K × V)) (key : K) (value : V) → same key key ≡ true → insert_entry same (keep_entry same es key value) key value ≡ insert_entry same es key value
insert-kept same [] key value self = ap (λ b. cond b ((key, value) ∷ []) ((key, value) ∷ (key, value) ∷ [])) self
insert-kept same (e ∷ es) key value self =
    elim (same key e.0) as (λ (b : Bool). same key e.0 ≡ b → insert_entry same (cond b (e ∷ es) (e ∷ keep_entry same es key value)) key value ≡ cond b ((e.0, value) ∷ es) (e ∷ insert_entry same es key value)) [
      | true ↦ λ here. ap (λ b. cond b ((e.0, value) ∷ es) (e ∷ insert_entry same es key value)) here
      | false ↦ λ other. ap (λ b. cond b ((e.0, value) ∷ keep_entry same es key value) (e ∷ insert_entry same (keep_entry same es key value) key value)) other ∙ ap (λ xs. e ∷ xs) (insert-kept same es key value self)
    ] refl

-- an entry that was put, and then its value
pub insert-put : {V : Type 0} (old new : List ((ℕ × List ℕ) × V)) (a : ℕ × List ℕ) (value : V) (place : ℕ) (e : (ℕ × List ℕ) × V) → new ≡ keep_entry same_name old a value → place_of (same_name a) new ≡ Some place → set new place ((get_or new place e).0, value) ≡ insert_entry same_name old a value
insert-put old new a value place e is there =
    sym (insert-there same_name new a value place e there)
    ∙ ap (λ xs. insert_entry same_name xs a value) is
    ∙ insert-kept same_name old a value (same_name-refl a)

-- another value changes no key
size-values : {V : Type 0} (es : List ((ℕ × List ℕ) × V)) (n : ℕ) (e : (ℕ × List ℕ) × V) (value : V) → n < length es → size_of (set es n ((get_or es n e).0, value)) ≡ size_of es
size-values [] n e value inside = absurd (omega (arith, inside))
size-values (x ∷ es) zero e value inside = refl
size-values (x ∷ es) (suc n) e value inside = omega (arith, size-values es n e value (omega (arith, inside)))

coded-values : {V : Type 0} (edges : Edges) (es : List ((ℕ × List ℕ) × V)) (n : ℕ) (e : (ℕ × List ℕ) × V) (value : V) → n < length es → AllByRecursion (λ x. IsSome (key_of edges x.0)) es → AllByRecursion (λ x. IsSome (key_of edges x.0)) (set es n ((get_or es n e).0, value))
coded-values edges [] n e value inside coded = absurd (omega (arith, inside))
coded-values edges (x ∷ es) zero e value inside coded = coded
coded-values edges (x ∷ es) (suc n) e value inside coded = (coded.0, coded-values edges es n e value (omega (arith, inside)) coded.1)

stands-values : {V : Type 0} (passes : ℕ × List ℕ → Bool) (es : List ((ℕ × List ℕ) × V)) (n : ℕ) (e : (ℕ × List ℕ) × V) (value : V) → n < length es → place_of passes (set es n ((get_or es n e).0, value)) ≡ place_of passes es
stands-values passes [] n e value inside = absurd (omega (arith, inside))
stands-values passes (x ∷ es) zero e value inside = refl
stands-values passes (x ∷ es) (suc n) e value inside = ap (λ o. cond (passes x.0) (Some 0) (option_map (λ k. k + 1) o)) (stands-values passes es n e value (omega (arith, inside)))

pub kept-values : {V : Type 0} (edges : Edges) (places : Places) (es : List ((ℕ × List ℕ) × V)) (n : ℕ) (e : (ℕ × List ℕ) × V) (value : V) → n < length es → Kept edges places es → Kept edges places (set es n ((get_or es n e).0, value))
kept-values edges places es n e value inside kept = record {
  few = omega (arith, kept.few, size-values es n e value inside);
  short = omega (arith, kept.short, size-values es n e value inside);
  coded = coded-values edges es n e value inside kept.coded;
  found = λ q. kept.found q ∙ sym (stands-values (λ a. is_key q (key_of edges a)) es n e value inside);
}
