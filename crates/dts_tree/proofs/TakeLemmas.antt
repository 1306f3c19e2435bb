-- What a reader makes of one token, and of all.
use Rattle.std.proofs.Common.{get_or, ◌≡◌, ◌≢◌, ℕ, zero, suc, ◌+◌, ◌<◌, ◌≤◌, List, [], ◌∷◌, Bool, true, false, cond, Result, Ok, Err, length, map, take, drop, refl, sym, ap, ◌∙◌, subst, arith}
use Rattle.std.specs.Prelude.{slice_range, slice_index, slice_index_or}
use Rattle.std.specs.List.{AllByRecursion}
use Rattle.std.proofs.lemmas.List.{drop_more}
use Rattle.dts_lex.specs.Shape.{is_last}
use Rattle.dts_lex.specs.Lex.{SpansRise}
use Rattle.dts_lex.specs.declared.token.Token.{Token}
use Rattle.dts_lex.specs.declared.token.Kind.{Kind}
use Rattle.dts_lex.specs.declared.token.Kind.TheVariants as kind
use Rattle.dts_tree.specs.declared.fault.TreeFault.{TreeFault}
use Rattle.dts_tree.specs.declared.fault.TreeFault.TheVariants.{Memory}
use Rattle.dts_tree.specs.declared.piece.Piece.{Piece}
use Rattle.dts_tree.specs.declared.piece.Place.{Place}
use Rattle.dts_tree.specs.declared.reading.reader.Reader.{Reader}
use Rattle.dts_tree.specs.declared.reading.spot.Spot.{Spot}
use Rattle.dts_tree.specs.declared.reading.spot.Spot.TheVariants as spot
use Rattle.dts_tree.specs.declared.reading.symbol.Symbol.{Symbol}
use Rattle.dts_tree.specs.declared.reading.symbol.Symbol.TheVariants as symbol
use Rattle.dts_tree.specs.declared.store.Opened.{Opened}
use Rattle.dts_tree.specs.declared.store.Store.{Store}
use Rattle.dts_tree.specs.Lexeme.{Lexeme, Semicolon, Colon, Equals, Comma, Slash, Open, Close, Less, Greater, Left, Right, Foreign, lexeme_of, said_by, sign_of}
use Rattle.dts_tree.specs.Outline.{fault_of}
use Rattle.dts_tree.specs.Content.{unless_fault}
use Rattle.dts_tree.specs.Inside.Inner.{inner_of, inner_by}
use Rattle.dts_tree.specs.Inside.Stored.{Sound}
use Rattle.dts_tree.specs.Inside.View.{View, symbol_of, bytes_said, is_inside, may_end, take_at, take_token, take_all}
use Rattle.dts_tree.specs.Inside.Reader.{IsInner, said_word, view_of, spot_of, Went, Held, EarlierFrom, Counted, pending}

-- a sign says no bytes
record Mute (inner : List ℕ) (l : Lexeme) : Type 0 where
  said : bytes_said l ≡ said_word (symbol_of l) inner
  word : symbol_of l ≡ symbol.Word → ⊥
  ref : symbol_of l ≡ symbol.Ref → ⊥

either : (inner : List ℕ) (b : Bool) (x y : Lexeme) → Mute inner x → Mute inner y → Mute inner (cond b x y)
either inner true x y p q = p
either inner false x y p q = q

mute_sign : (inner : List ℕ) (b : ℕ) → Mute inner (sign_of b)
unfolding sign_of
mute_sign inner b =
    either inner _ Semicolon _ (record { said = refl; word = λ e. (cc); ref = λ e. (cc) })
    (either inner _ Colon _ (record { said = refl; word = λ e. (cc); ref = λ e. (cc) })
    (either inner _ Equals _ (record { said = refl; word = λ e. (cc); ref = λ e. (cc) })
    (either inner _ Comma _ (record { said = refl; word = λ e. (cc); ref = λ e. (cc) })
    (either inner _ Slash _ (record { said = refl; word = λ e. (cc); ref = λ e. (cc) })
    (either inner _ Open _ (record { said = refl; word = λ e. (cc); ref = λ e. (cc) })
    (either inner _ Close _ (record { said = refl; word = λ e. (cc); ref = λ e. (cc) })
    (either inner _ Less _ (record { said = refl; word = λ e. (cc); ref = λ e. (cc) })
    (either inner _ Greater _ (record { said = refl; word = λ e. (cc); ref = λ e. (cc) })
    (either inner _ Left _ (record { said = refl; word = λ e. (cc); ref = λ e. (cc) })
    (either inner _ Right Foreign (record { said = refl; word = λ e. (cc); ref = λ e. (cc) }) (record { said = refl; word = λ e. (cc); ref = λ e. (cc) })))))))))))

record Bytes (text : List ℕ) (t : Token) (inner : List ℕ) (l : Lexeme) : Type 0 where
  said : bytes_said l ≡ said_word (symbol_of l) inner
  inside : IsInner text inner t (symbol_of l)

bytes_by : (text : List ℕ) (t : Token) (k : Kind) → Bytes text t (inner_by k text t) (said_by k text t)
bytes_by text t kind.Word = record { said = refl; inside = (λ e. refl, λ e. absurd (cc)) }
bytes_by text t kind.Number = record { said = refl; inside = (λ e. absurd (cc), λ e. absurd (cc)) }
bytes_by text t kind.Text = record { said = refl; inside = (λ e. absurd (cc), λ e. absurd (cc)) }
bytes_by text t kind.Directive = record { said = refl; inside = (λ e. absurd (cc), λ e. absurd (cc)) }
bytes_by text t kind.Ref = record { said = refl; inside = (λ e. absurd (cc), λ e. refl) }
bytes_by text t kind.Sign = let m = mute_sign (slice_range text t.start t.end) (slice_index text t.start) in record { said = m.said; inside = (λ e. absurd (m.word e), λ e. absurd (m.ref e)) }

bytes_of_token : (text : List ℕ) (t : Token) → Bytes text t (inner_of text t) (lexeme_of text t)
unfolding lexeme_of
bytes_of_token text t =
    elim (is_last text t) as (λ (b : Bool). Bytes text t (inner_of text t) (cond b Foreign (said_by t.kind text t))) [
      | true ↦ record { said = refl; inside = (λ e. absurd (cc), λ e. absurd (cc)) }
      | false ↦ bytes_by text t t.kind
    ]

module _ (text : List ℕ) (t : Token) (s : Symbol) (inner : List ℕ) (is : s ≡ symbol_of (lexeme_of text t)) (says : inner ≡ inner_of text t) where
  pub is_inner : IsInner text inner t s
  is_inner = subst (λ (x : Symbol). IsInner text inner t x) (sym is) (subst (λ (w : List ℕ). IsInner text w t (symbol_of (lexeme_of text t))) (sym says) (bytes_of_token text t).inside)

  token_is : (v : View) → take_token text v t ≡ take_at v (said_word s inner) t.start (fault_of text t) v.spot s
  token_is v =
      let b = bytes_of_token text t in
      let take : List ℕ → Symbol → Result View TreeFault = λ w x. take_at v w t.start (fault_of text t) v.spot x in
      ap (λ (w : List ℕ). take w (symbol_of (lexeme_of text t))) (b.said ∙ ap (said_word (symbol_of (lexeme_of text t))) (sym says))
      ∙ ap (λ (x : Symbol). take (said_word x inner) x) (sym is)

  module _ (r : Reader) (expected : Result View TreeFault) (spot : Spot) (here : r.spot ≡ spot) (takes : take_at (view_of text r) (said_word s inner) t.start (fault_of text t) (spot_of text spot) s ≡ expected) where
    expects : take_token text (view_of text r) t ≡ expected
    expects = token_is (view_of text r) ∙ ap (λ (x : Spot). take_at (view_of text r) (said_word s inner) t.start (fault_of text t) (spot_of text x) s) here ∙ takes

    pub went_token : (new : Reader) → Went expected text t.end new → Went (take_token text (view_of text r) t) text t.end new
    went_token new went = record { view = expects ∙ went.view; kept = went.kept; counted = went.counted }

    pub fault_token : (fault : TreeFault) → (fault ≢ Memory → expected ≡ Err fault) → fault ≢ Memory → take_token text (view_of text r) t ≡ Err fault
    fault_token fault h other = expects ∙ h other

-- ---- all tokens

-- where the last of some tokens ends
abbrev pub reached : ℕ → List Token → ℕ
reached from [] = from
reached from (t ∷ ts) = reached t.end ts

pub spans_reach : (from to : ℕ) (ts : List Token) (i : ℕ) → SpansRise from to ts → reached from (take i ts) ≤ to
spans_reach from to [] i h = reach_none i h where
  reach_none : (i : ℕ) → from ≤ to → reached from (take i []) ≤ to
  reach_none zero h = h
  reach_none (suc i) h = h
spans_reach from to (t ∷ ts) zero h = let rest = spans_reach t.end to ts zero h.2 in omega (arith, h.0, h.1, rest)
spans_reach from to (t ∷ ts) (suc i) h = spans_reach t.end to ts i h.2

pub spans_start : (from to : ℕ) (ts : List Token) (i : ℕ) (d : Token) → SpansRise from to ts → i < length ts → reached from (take i ts) ≤ (get_or ts i d).start
spans_start from to [] i d h inside = absurd (omega arith)
spans_start from to (t ∷ ts) zero d h inside = h.0
spans_start from to (t ∷ ts) (suc i) d h inside = spans_start t.end to ts i d h.2 (omega arith)

pub spans_next : (from : ℕ) (ts : List Token) (i : ℕ) (d : Token) → i < length ts → reached from (take (i + 1) ts) ≡ (get_or ts i d).end
spans_next from [] i d inside = absurd (omega arith)
spans_next from (t ∷ ts) zero d inside = refl
spans_next from (t ∷ ts) (suc i) d inside =
    let e : suc i + 1 ≡ suc (i + 1) = omega arith in
    ap (λ (n : ℕ). reached from (take n (t ∷ ts))) e ∙ spans_next t.end ts i d (omega arith)

pub spans_at : (from to : ℕ) (ts : List Token) (i : ℕ) (d : Token) → SpansRise from to ts → i < length ts → ((get_or ts i d).start < (get_or ts i d).end) × ((get_or ts i d).end ≤ to)
spans_at from to [] i d h inside = absurd (omega arith)
spans_at from to (t ∷ ts) zero d h inside = let rest = spans_reach t.end to ts 0 h.2 in (h.1, omega (arith, rest))
spans_at from to (t ∷ ts) (suc i) d h inside = spans_at t.end to ts i d h.2 (omega arith)

module _ (text : List ℕ) (tokens : List Token) (i : ℕ) (d : Token) (v : View) (inside : i < length tokens) where
  next : take_all text v (drop i tokens) ≡ unless_fault (λ w. take_all text w (drop (i + 1) tokens)) (take_token text v (get_or tokens i d))
  unfolding take_all
  next = ap (take_all text v) (drop_more tokens i d inside)

  pub all_on : (w : View) → take_token text v (get_or tokens i d) ≡ Ok w → take_all text v (drop i tokens) ≡ take_all text w (drop (i + 1) tokens)
  all_on w is = next ∙ ap (unless_fault (λ x. take_all text x (drop (i + 1) tokens))) is

  pub all_fault : (fault : TreeFault) → take_token text v (get_or tokens i d) ≡ Err fault → take_all text v (drop i tokens) ≡ Err fault
  all_fault fault is = next ∙ ap (unless_fault (λ x. take_all text x (drop (i + 1) tokens))) is

pub all_end : (text : List ℕ) (v : View) → take_all text v [] ≡ Ok v
unfolding take_all
all_end text v = refl

pub counted_on : (m n : ℕ) (r : Reader) → m ≤ n → Counted m r → Counted n r
counted_on m n r on h = (omega (arith, h.0, on), omega (arith, h.1, on), omega (arith, h.2, on))

-- a text that may end has begun
pub begun : (text : List ℕ) (at : Spot) → is_inside (spot_of text at) ≡ true → 1 ≤ pending at
begun text spot.Inside h = omega arith
begun text spot.Start h = absurd (cc)
begun text spot.Versioned h = absurd (cc)
begun text (spot.Slashed at) h = absurd (cc)
begun text spot.Added h = absurd (cc)
begun text spot.Closed h = absurd (cc)
begun text (spot.Worded t) h = absurd (cc)
begun text spot.Behind h = absurd (cc)
begun text (spot.Named t) h = absurd (cc)
begun text (spot.Valued t) h = absurd (cc)
begun text (spot.InCells t) h = absurd (cc)
begun text (spot.InBytes t) h = absurd (cc)
begun text (spot.Parted t) h = absurd (cc)

pub may_begun : (text : List ℕ) (r : Reader) → may_end (view_of text r) ≡ true → 1 ≤ pending r.spot
may_begun text r h = begun text r.spot (front (is_inside (spot_of text r.spot)) _ h) where
  front : (a b : Bool) → cond a b false ≡ true → a ≡ true
  front true b h = refl
  front false b h = h

-- ---- what is kept is sound

all-at : {X : Type 0} (P : ℕ → Type 0) (f : X → ℕ) (xs : List X) (k : ℕ) → AllByRecursion (λ x. P (f x)) xs → k < length xs → P (slice_index_or (map f xs) k 0)
all-at P f [] k h inside = absurd (omega arith)
all-at P f (x ∷ xs) zero h inside = h.0
all-at P f (x ∷ xs) (suc k) h inside = all-at P f xs k h.1 (omega arith)

pub earlier-at : (n : ℕ) (es : List ((ℕ × List ℕ) × Opened)) (k : ℕ) → EarlierFrom n es → k < length es → slice_index_or (map (λ e. e.0.0) es) k 0 ≤ n + k
earlier-at n [] k h inside = absurd (omega arith)
earlier-at n (e ∷ es) zero h inside = omega (arith, h.0)
earlier-at n (e ∷ es) (suc k) h inside = let r = earlier-at (n + 1) es k h.1 (omega arith) in omega (arith, r)

pub sound : (first : ℕ) (ps : List (Piece Place)) (open_ : List ℕ) (store : Store) → Held first ps open_ store → length store.children < 4294967295 → length store.properties < 4294967295 → Sound store
sound first ps open_ store h children properties = record {
  few = children;
  earlier = λ k inside. (let r = earlier-at 0 store.children k h.earlier inside in omega (arith, r));
  labels = λ k inside. all-at (λ n. n ≤ length store.children) (λ e. e.1) store.labels k h.labels inside;
  owners = λ k inside. all-at (λ n. n ≤ length store.children) (λ e. e.0.0) store.properties k h.owners inside;
  few_properties = properties;
}
