-- Where names lead to.
use Rattle.std.proofs.Common.{◌≡◌, ℕ, zero, suc, ◌+◌, ◌-◌, ◌*◌, ◌<◌, ◌≤◌, List, [], ◌∷◌, ◌++◌, Bool, true, false, cond, Option, Some, None, length, get_or, take, drop, refl, sym, ap, ◌∙◌, subst, add-one, arith}
use Rattle.std.proofs.Math.Seq.{take-add}
use Rattle.std.proofs.lemmas.Bool.{and_parts, eqb-true}
use Rattle.std.proofs.lemmas.List.{ext_get_or, length-take, take_all}
use Rattle.std.proofs.lemmas.Slice.Eq.{bytes_eq-Decides}
use Rattle.std.specs.Option.{option_map}
use Rattle.ordered_map.proofs.EntryLemmas.{keep-there}
use Rattle.name_map.specs.NameEntries.{same_name, place_of, keep_entry}
use Rattle.name_map.specs.Inside.States.{Edges, piece_of, piece_at, pieces, step, walk, state_of}

-- an option that was counted up
pub record Counted (o : Option ℕ) (n : ℕ) : Type 0 where
  pub at : ℕ
  pub there : o ≡ Some at
  pub next : n ≡ at + 1

pub counted : (o : Option ℕ) (n : ℕ) → option_map (λ k. k + 1) o ≡ Some n → Counted o n
counted None n is = absurd (cc)
counted (Some k) n is = let e : k + 1 ≡ n = cc in record { at = k; there = refl; next = sym e }

-- keys that are the same are equal
pub same_name-true : (a b : ℕ × List ℕ) → same_name a b ≡ true → (a.0 ≡ b.0) × (a.1 ≡ b.1)
same_name-true a b is =
    let parts = and_parts _ _ is in
    (eqb-true a.0 b.0 parts.0, (bytes_eq-Decides a.1 b.1).0 parts.1)

-- the key of the entry at a place
pub place-key : {K V : Type 0} (passes : K → Bool) (es : List (K × V)) (n : ℕ) (d : K × V) → place_of passes es ≡ Some n → passes (get_or es n d).0 ≡ true
place-key passes [] n d is = absurd (let no : None ≡ Some n = is in cc)
place-key {K} {V} passes (e ∷ es) n d is =
    elim (passes e.0) as (λ (b : Bool). passes e.0 ≡ b → cond b (Some 0) (option_map (λ k. k + 1) (place_of passes es)) ≡ Some n → passes (get_or (e ∷ es) n d).0 ≡ true) [
      | true ↦ λ yes first. (let z : 0 ≡ n = cc in subst (λ (m : ℕ). passes (get_or (e ∷ es) m d).0 ≡ true) z yes)
      | false ↦ λ no later. (let b = counted (place_of passes es) n later in
          subst (λ (m : ℕ). passes (get_or (e ∷ es) m d).0 ≡ true) (sym (b.next ∙ add-one b.at)) (place-key passes es b.at d b.there))
    ] refl is

-- a key that was found is found where it was, after another was kept
pub place-keep : {K V : Type 0} (passes : K → Bool) (same : K → K → Bool) (es : List (K × V)) (key : K) (value : V) (n : ℕ) → place_of passes es ≡ Some n → place_of passes (keep_entry same es key value) ≡ Some n
place-keep passes same [] key value n is = absurd (let no : None ≡ Some n = is in cc)
place-keep passes same (e ∷ es) key value n is =
    elim (same key e.0) as (λ (b : Bool). place_of passes (cond b (e ∷ es) (e ∷ keep_entry same es key value)) ≡ Some n) [
      | true ↦ is
      | false ↦ elim (passes e.0) as (λ (b : Bool). cond b (Some 0) (option_map (λ k. k + 1) (place_of passes es)) ≡ Some n → cond b (Some 0) (option_map (λ k. k + 1) (place_of passes (keep_entry same es key value))) ≡ Some n) [
        | true ↦ λ first. first
        | false ↦ λ later. (let b = counted (place_of passes es) n later in
            ap (option_map (λ k. k + 1)) (place-keep passes same es key value b.at b.there) ∙ ap Some (sym b.next))
      ] is
    ]

-- one more entry at most
pub keep-length : {K V : Type 0} (same : K → K → Bool) (es : List (K × V)) (key : K) (value : V) → length (keep_entry same es key value) ≤ length es + 1
keep-length same [] key value = omega arith
keep-length same (e ∷ es) key value =
    elim (same key e.0) as (λ (b : Bool). length (cond b (e ∷ es) (e ∷ keep_entry same es key value)) ≤ length (e ∷ es) + 1) [ true ↦ omega arith | false ↦ omega (arith, keep-length same es key value) ]

pub keep-longer : {K V : Type 0} (same : K → K → Bool) (es : List (K × V)) (key : K) (value : V) → length es ≤ length (keep_entry same es key value)
keep-longer same [] key value = omega arith
keep-longer same (e ∷ es) key value =
    elim (same key e.0) as (λ (b : Bool). length (e ∷ es) ≤ length (cond b (e ∷ es) (e ∷ keep_entry same es key value))) [ true ↦ omega arith | false ↦ omega (arith, keep-longer same es key value) ]

-- pieces tell their bytes
piece_of-read : (a b : List ℕ) → piece_of a ≡ piece_of b → (i : ℕ) → i < 7 → get_or a i 0 ≡ get_or b i 0
unfolding piece_of
piece_of-read a b is zero below = ap (λ xs. get_or xs 0 0) is
piece_of-read a b is (suc zero) below = ap (λ xs. get_or xs 1 0) is
piece_of-read a b is (suc (suc zero)) below = ap (λ xs. get_or xs 2 0) is
piece_of-read a b is (suc (suc (suc zero))) below = ap (λ xs. get_or xs 3 0) is
piece_of-read a b is (suc (suc (suc (suc zero)))) below = ap (λ xs. get_or xs 4 0) is
piece_of-read a b is (suc (suc (suc (suc (suc zero))))) below = ap (λ xs. get_or xs 5 0) is
piece_of-read a b is (suc (suc (suc (suc (suc (suc zero)))))) below = ap (λ xs. get_or xs 6 0) is
piece_of-read a b is (suc (suc (suc (suc (suc (suc (suc i))))))) below = absurd (omega arith)

piece_of-length : (a b : List ℕ) → piece_of a ≡ piece_of b → length a ≡ length b
unfolding piece_of
piece_of-length a b is = ap (λ xs. get_or xs 7 0) is

pub piece_of-same : (a b : List ℕ) → length a ≤ 7 → piece_of a ≡ piece_of b → a ≡ b
piece_of-same a b few is = ext_get_or 0 a b (piece_of-length a b is) (λ i inside. piece_of-read a b is i (omega (arith, few, inside)))

-- names with the same pieces so far have the same bytes so far
take-piece : (a b : List ℕ) (k : ℕ) → take (7 * k) a ≡ take (7 * k) b → piece_at a k ≡ piece_at b k → take (7 * (k + 1)) a ≡ take (7 * (k + 1)) b
take-piece a b k front is =
    let n : 7 * (k + 1) ≡ 7 * k + 7 = omega arith in
    let same = piece_of-same (take 7 (drop (7 * k) a)) (take 7 (drop (7 * k) b)) (omega (arith, length-take 7 (drop (7 * k) a))) is in
    ap (λ m. take m a) n ∙ take-add (7 * k) 7 a
    ∙ ap (λ xs. xs ++ take 7 (drop (7 * k) a)) front
    ∙ ap (λ xs. take (7 * k) b ++ xs) same
    ∙ sym (ap (λ m. take m b) n ∙ take-add (7 * k) 7 b)

module _ (edges : Edges) where
  pub walk-none : (name : List ℕ) → walk edges name 0 ≡ Some 0
  unfolding walk
  walk-none name = refl

  pub walk-next : (name : List ℕ) (k : ℕ) → walk edges name (k + 1) ≡ step edges (piece_at name k) (walk edges name k)
  unfolding walk
  walk-next name k = ap (walk edges name) (add-one k)

  pub walk-on : (name : List ℕ) (k state place : ℕ) → walk edges name k ≡ Some state → place_of (same_name (state, piece_at name k)) edges ≡ Some place → walk edges name (k + 1) ≡ Some (place + 1)
  walk-on name k state place before there =
      walk-next name k ∙ ap (step edges (piece_at name k)) before ∙ ap (option_map (λ n. n + 1)) there

  pub walk-off : (name : List ℕ) (k state : ℕ) → walk edges name k ≡ Some state → place_of (same_name (state, piece_at name k)) edges ≡ None → walk edges name (k + 1) ≡ None
  walk-off name k state before there =
      walk-next name k ∙ ap (step edges (piece_at name k)) before ∙ ap (option_map (λ n. n + 1)) there

  lost-on : (name : List ℕ) (k more : ℕ) → walk edges name k ≡ None → walk edges name (k + more) ≡ None
  lost-on name k zero is = ap (walk edges name) (let e : k + 0 ≡ k = omega arith in e) ∙ is
  lost-on name k (suc more) is =
      ap (walk edges name) (let e : k + suc more ≡ k + more + 1 = omega arith in e)
      ∙ walk-next name (k + more)
      ∙ ap (step edges (piece_at name (k + more))) (lost-on name k more is)

  -- a name that led nowhere leads nowhere further on
  pub walk-lost : (name : List ℕ) (k n : ℕ) → k ≤ n → walk edges name k ≡ None → walk edges name n ≡ None
  walk-lost name k n inside is = ap (walk edges name) (let e : n ≡ k + (n - k) = omega arith in e) ∙ lost-on name k (n - k) is

  record Walked (name : List ℕ) (k state : ℕ) : Type 0 where
    from : ℕ
    before : walk edges name k ≡ Some from
    place : ℕ
    there : place_of (same_name (from, piece_at name k)) edges ≡ Some place
    next : state ≡ place + 1

  walked : (name : List ℕ) (k state : ℕ) → walk edges name (k + 1) ≡ Some state → Walked name k state
  walked name k state is =
      elim (walk edges name k) as (λ (o : Option ℕ). walk edges name k ≡ o → step edges (piece_at name k) o ≡ Some state → Walked name k state) [
        | None ↦ λ e no. absurd (cc)
        | Some from ↦ λ e led. (let c = counted (place_of (same_name (from, piece_at name k)) edges) state led in
            record { from = from; before = e; place = c.at; there = c.there; next = c.next })
      ] refl (sym (walk-next name k) ∙ is)

  -- two names that lead to one state by as many pieces as they like
  pub walk-apart : (a b : List ℕ) (k j state : ℕ) → walk edges a k ≡ Some state → walk edges b j ≡ Some state → (k ≡ j) × (take (7 * k) a ≡ take (7 * k) b)
  walk-apart a b zero zero state is_a is_b = (refl, refl)
  walk-apart a b zero (suc j) state is_a is_b =
      let w = walked b j state (ap (walk edges b) (add-one j) ∙ is_b) in
      let z : Some 0 ≡ Some state = sym (walk-none a) ∙ is_a in
      let n : 0 ≡ state = cc in
      absurd (omega (arith, n, w.next))
  walk-apart a b (suc k) zero state is_a is_b =
      let w = walked a k state (ap (walk edges a) (add-one k) ∙ is_a) in
      let z : Some 0 ≡ Some state = sym (walk-none b) ∙ is_b in
      let n : 0 ≡ state = cc in
      absurd (omega (arith, n, w.next))
  walk-apart a b (suc k) (suc j) state is_a is_b =
      let v = walked a k state (ap (walk edges a) (add-one k) ∙ is_a) in
      let w = walked b j state (ap (walk edges b) (add-one j) ∙ is_b) in
      let d : (ℕ × List ℕ) × Unit {0} = ((0, []), tt) in
      let place : v.place ≡ w.place = omega (arith, v.next, w.next) in
      let one = same_name-true (v.from, piece_at a k) (get_or edges v.place d).0 (place-key (same_name (v.from, piece_at a k)) edges v.place d v.there) in
      let other = same_name-true (w.from, piece_at b j) (get_or edges w.place d).0 (place-key (same_name (w.from, piece_at b j)) edges w.place d w.there) in
      let edge : get_or edges v.place d ≡ get_or edges w.place d = ap (λ n. get_or edges n d) place in
      let from : v.from ≡ w.from = one.0 ∙ ap (λ (e : (ℕ × List ℕ) × Unit {0}). e.0.0) edge ∙ sym other.0 in
      let piece : piece_at a k ≡ piece_at b j = one.1 ∙ ap (λ (e : (ℕ × List ℕ) × Unit {0}). e.0.1) edge ∙ sym other.1 in
      let rest = walk-apart a b k j v.from v.before (w.before ∙ ap Some (sym from)) in
      let e : suc k ≡ k + 1 = sym (add-one k) in (
        ap suc rest.0,
        subst (λ (n : ℕ). take (7 * n) a ≡ take (7 * n) b) (sym e)
            (take-piece a b k rest.1 (piece ∙ ap (λ n. piece_at b n) (sym rest.0))),
      )

  -- two names that lead to one state are the same
  pub state-apart : (a b : List ℕ) (state : ℕ) → state_of edges a ≡ Some state → state_of edges b ≡ Some state → a ≡ b
  state-apart a b state is_a is_b =
      let both = walk-apart a b (pieces a) (pieces b) state is_a is_b in
      sym (take_all (7 * pieces a) a (omega arith))
      ∙ both.1
      ∙ take_all (7 * pieces a) b (omega (arith, both.0))

  -- a name that leads on has its edges already
  pub keep-stays : (name : List ℕ) (k n from state : ℕ) → k < n → walk edges name k ≡ Some from → walk edges name n ≡ Some state → keep_entry same_name edges (from, piece_at name k) tt ≡ edges
  keep-stays name k n from state below before led =
      elim (place_of (same_name (from, piece_at name k)) edges) as (λ (o : Option ℕ). place_of (same_name (from, piece_at name k)) edges ≡ o → keep_entry same_name edges (from, piece_at name k) tt ≡ edges) [
        | None ↦ λ missing. absurd (let none : None ≡ Some state = sym (walk-lost name (k + 1) n (omega (arith, below)) (walk-off name k from before missing)) ∙ led in cc)
        | Some place ↦ λ there. keep-there same_name edges (from, piece_at name k) tt place there
      ] refl

-- a name leads where it led, if each edge that was there is there
pub walk-more : (old new : Edges) → ((q : ℕ × List ℕ) (place : ℕ) → place_of (same_name q) old ≡ Some place → place_of (same_name q) new ≡ Some place) → (name : List ℕ) (k state : ℕ) → walk old name k ≡ Some state → walk new name k ≡ Some state
walk-more old new grows name zero state is = walk-none new name ∙ sym (walk-none old name) ∙ is
walk-more old new grows name (suc k) state is =
    let w = walked old name k state (ap (walk old name) (add-one k) ∙ is) in
    ap (walk new name) (sym (add-one k))
    ∙ walk-on new name k w.from w.place (walk-more old new grows name k w.from w.before) (grows (w.from, piece_at name k) w.place w.there)
    ∙ ap Some (sym w.next)

pub keep-grows : (edges : Edges) (key : ℕ × List ℕ) (name : List ℕ) (k state : ℕ) → walk edges name k ≡ Some state → walk (keep_entry same_name edges key tt) name k ≡ Some state
keep-grows edges key name k state is =
    walk-more edges (keep_entry same_name edges key tt) (λ q place there. place-keep (same_name q) same_name edges key tt place there) name k state is

-- the entries that were there stand in front
pub keep-front : {K V : Type 0} (same : K → K → Bool) (es : List (K × V)) (key : K) (value : V) (n : ℕ) → n ≤ length es → take n (keep_entry same es key value) ≡ take n es
keep-front same es key value zero inside = refl
keep-front same [] key value (suc n) inside = absurd (omega arith)
keep-front same (e ∷ es) key value (suc n) inside =
    elim (same key e.0) as (λ (b : Bool). take (suc n) (cond b (e ∷ es) (e ∷ keep_entry same es key value)) ≡ e ∷ take n es) [ true ↦ refl | false ↦ ap (λ xs. e ∷ xs) (keep-front same es key value n (omega arith)) ]
