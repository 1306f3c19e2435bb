-- Short keys, and the entries that have them.
use Rattle.std.proofs.Common.{◌≡◌, ℕ, ◌<◌, ◌/◌, ◌%◌, List, Bool, true, false, cond, Option, Some, None, get_or, length, refl, sym, ap, ◌∙◌, arith}
use Rattle.std.proofs.lemmas.Bool.{and_from, eq-eqb, ltb-true}
use Rattle.std.proofs.lemmas.Bool.Decides.{nat_tests}
use Rattle.std.proofs.lemmas.Map.Text.{is_eq-slice_cmp}
use Rattle.std.proofs.lemmas.Slice.Eq.{bytes_eq-Decides}
use Rattle.std.specs.Cmp.Lexicographic.{slice_cmp}
use Rattle.std.specs.Option.{option_map}
use Rattle.std.specs.Ordering.{is_eq, nat_cmp, ordering_then}
use Rattle.std.specs.Prelude.{nat_eq, nat_lt, ◌&&◌}
use Rattle.std.specs.declared.cmp.Ordering.{Ordering}
use Rattle.std.specs.declared.cmp.Ordering.TheVariants.{Less, Equal, Greater}
use Rattle.name_map.specs.NameEntries.{same_name}
use Rattle.name_map.specs.Inside.States.{Edges, piece_of, state_of}
use Rattle.name_map.specs.Inside.Keys.{Key, code_of, key_of, key_cmp, numbered}
use Rattle.name_map.proofs.StateLemmas.{piece_of-same, same_name-true, state-apart}

pub same_name-refl : (a : ℕ × List ℕ) → same_name a a ≡ true
same_name-refl a = and_from _ _ (eq-eqb a.0 a.0 refl) ((bytes_eq-Decides a.1 a.1).1 refl)

-- ---- the order of keys

then_is : (o p : Ordering) → is_eq (ordering_then o p) ≡ (is_eq o && is_eq p)
then_is Less p = refl
then_is Equal p = refl
then_is Greater p = refl

nat_is : (m n : ℕ) → is_eq (nat_cmp m n) ≡ nat_eq m n
nat_is m n = grind (arith, nat_tests)

pub key_cmp-is : (a b : Key) → is_eq (key_cmp a b) ≡ same_name a b
key_cmp-is a b =
    then_is (nat_cmp a.0 b.0) (slice_cmp nat_cmp a.1 b.1)
    ∙ ap (λ x. x && is_eq (slice_cmp nat_cmp a.1 b.1)) (nat_is a.0 b.0)
    ∙ ap (λ y. nat_eq a.0 b.0 && y) (is_eq-slice_cmp a.1 b.1)

-- ---- codes

numbered-same : (s t : ℕ) → numbered s ≡ numbered t → s ≡ t
unfolding numbered
numbered-same s t is =
    let a : s % 256 ≡ t % 256 = ap (λ xs. get_or xs 0 0) is in
    let b : s / 256 % 256 ≡ t / 256 % 256 = ap (λ xs. get_or xs 1 0) is in
    let c : s / 65536 % 256 ≡ t / 65536 % 256 = ap (λ xs. get_or xs 2 0) is in
    let d : s / 16777216 ≡ t / 16777216 = ap (λ xs. get_or xs 3 0) is in
    omega (arith, a, b, c, d)

-- the last byte tells a short name from a state
piece-number : (name : List ℕ) (state : ℕ) → length name < 8 → piece_of name ≡ numbered state → ⊥
unfolding piece_of numbered
piece-number name state few is = let e : length name ≡ 8 = ap (λ xs. get_or xs 7 0) is in omega (arith, few, e)

pub record Numbered (edges : Edges) (name code : List ℕ) : Type 0 where
  pub state : ℕ
  pub led : state_of edges name ≡ Some state
  pub is : numbered state ≡ code

numbered_of : (edges : Edges) (name code : List ℕ) (o : Option ℕ) → state_of edges name ≡ o → option_map numbered o ≡ Some code → Numbered edges name code
numbered_of edges name code None led is = absurd (let none : None ≡ Some code = is in cc)
numbered_of edges name code (Some s) led is = record { state = s; led = led; is = (let e : numbered s ≡ code = cc in e) }

-- a code by whether the name is short
abbrev code_by : Edges → List ℕ → Bool → Option (List ℕ)
code_by edges name short = cond short (Some (piece_of name)) (option_map numbered (state_of edges name))

piece_is : (a code : List ℕ) → Some (piece_of a) ≡ Some code → piece_of a ≡ code
piece_is a code is = cc

-- names with one code are the same
pub code-apart : (edges : Edges) (a b code : List ℕ) → code_of edges a ≡ Some code → code_of edges b ≡ Some code → a ≡ b
code-apart edges a b code =
    elim (nat_lt (length a) 8) as (λ (x : Bool). nat_lt (length a) 8 ≡ x → code_by edges a x ≡ Some code → code_by edges b (nat_lt (length b) 8) ≡ Some code → a ≡ b) [
      | true ↦ λ few_a is_a. elim (nat_lt (length b) 8) as (λ (y : Bool). nat_lt (length b) 8 ≡ y → code_by edges b y ≡ Some code → a ≡ b) [
        | true ↦ λ few_b is_b. piece_of-same a b (omega (arith, ltb-true (length a) 8 few_a)) (piece_is a code is_a ∙ sym (piece_is b code is_b))
        | false ↦ λ many_b is_b. absurd (let n = numbered_of edges b code (state_of edges b) refl is_b in piece-number a n.state (ltb-true (length a) 8 few_a) (piece_is a code is_a ∙ sym n.is))
      ] refl
      | false ↦ λ many_a is_a. elim (nat_lt (length b) 8) as (λ (y : Bool). nat_lt (length b) 8 ≡ y → code_by edges b y ≡ Some code → a ≡ b) [
        | true ↦ λ few_b is_b. absurd (let n = numbered_of edges a code (state_of edges a) refl is_a in piece-number b n.state (ltb-true (length b) 8 few_b) (piece_is b code is_b ∙ sym n.is))
        | false ↦ λ many_b is_b. (let m = numbered_of edges a code (state_of edges a) refl is_a in
            let n = numbered_of edges b code (state_of edges b) refl is_b in
            state-apart edges a b m.state m.led (n.led ∙ ap Some (numbered-same n.state m.state (n.is ∙ sym m.is))))
      ] refl
    ] refl

-- ---- keys

-- what a short key is made of
pub record Short (edges : Edges) (a : ℕ × List ℕ) (key : Key) : Type 0 where
  pub owner : key.0 ≡ a.0
  pub code : code_of edges a.1 ≡ Some key.1

short_of : (edges : Edges) (a : ℕ × List ℕ) (key : Key) (code : Option (List ℕ)) → code_of edges a.1 ≡ code → option_map (λ (c : List ℕ). let k : Key = (a.0, c) in k) code ≡ Some key → Short edges a key
short_of edges a key None is led = absurd (let none : None ≡ Some key = led in cc)
short_of edges a key (Some c) is led =
    let made : Key = (a.0, c) in
    let e : made ≡ key = cc in
    record {
      owner = ap (λ (k : Key). k.0) (sym e);
      code = is ∙ ap (λ (k : Key). Some k.1) e;
    }

pub short : (edges : Edges) (a : ℕ × List ℕ) (key : Key) → key_of edges a ≡ Some key → Short edges a key
short edges a key is = short_of edges a key (code_of edges a.1) refl is

pub key-from : (edges : Edges) (a : ℕ × List ℕ) (key : Key) → Short edges a key → key_of edges a ≡ Some key
key-from edges a key s =
    ap (option_map (λ (c : List ℕ). let k : Key = (a.0, c) in k)) s.code
    ∙ ap (λ (o : ℕ). let k : Key = (o, key.1) in Some k) (sym s.owner)

-- owners and names with one short key are the same
pub key-same : (edges : Edges) (a b : ℕ × List ℕ) (key : Key) → key_of edges a ≡ Some key → key_of edges b ≡ Some key → a ≡ b
key-same edges a b key is_a is_b =
    let s = short edges a key is_a in
    let t = short edges b key is_b in
    ap (λ (o : ℕ). let p : ℕ × List ℕ = (o, a.1) in p) (sym s.owner ∙ t.owner)
    ∙ ap (λ (n : List ℕ). let p : ℕ × List ℕ = (b.0, n) in p) (code-apart edges a.1 b.1 key.1 s.code t.code)

pub name-same : (a b : ℕ × List ℕ) → same_name a b ≡ true → a ≡ b
name-same a b is =
    let parts = same_name-true a b is in
    ap (λ (o : ℕ). let p : ℕ × List ℕ = (o, a.1) in p) parts.0 ∙ ap (λ (n : List ℕ). let p : ℕ × List ℕ = (b.0, n) in p) parts.1

either_way : (x y : Bool) → (x ≡ true → y ≡ true) → (y ≡ true → x ≡ true) → x ≡ y
either_way true y there back = sym (there refl)
either_way false true there back = back refl
either_way false false there back = refl

-- short keys are the same exactly where the keys are
pub key-apart : (edges : Edges) (a b : ℕ × List ℕ) (k l : Key) → key_of edges a ≡ Some k → key_of edges b ≡ Some l → same_name k l ≡ same_name a b
key-apart edges a b k l is_a is_b =
    either_way (same_name k l) (same_name a b)
    (λ same. let e = name-same k l same in
    let both : a ≡ b = key-same edges a b l (is_a ∙ ap Some e) is_b in
    ap (same_name a) (sym both) ∙ same_name-refl a)
    (λ same. let e = name-same a b same in
    let both : Some k ≡ Some l = sym is_a ∙ ap (key_of edges) e ∙ is_b in
    let keys : k ≡ l = cc in
    ap (same_name k) (sym keys) ∙ same_name-refl k)

pub same_name-symm : (a b : ℕ × List ℕ) → same_name a b ≡ same_name b a
same_name-symm a b =
    either_way (same_name a b) (same_name b a)
    (λ same. ap (same_name b) (name-same a b same) ∙ same_name-refl b)
    (λ same. ap (same_name a) (name-same b a same) ∙ same_name-refl a)
