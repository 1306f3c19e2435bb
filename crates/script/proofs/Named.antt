-- The names of a board's rails, put into a map one after another.
use Rattle.std.proofs.Common.{◌≡◌, ◌≢◌, ℕ, ◌+◌, ◌<◌, ◌≤◌, ◌&&◌, Bool, true, false, cond, if◌then◌else◌, nat_le, List, [], length, get_or, option_map, Option, Some, None, bytes_eq, refl, sym, ap, subst, ◌∙◌, inl, inr, arith}
use Rattle.std.specs.List.{All, AllPairs, list_all, slice_get}
use Rattle.std.specs.Cmp.Lexicographic.{bytes_decides}
use Rattle.std.specs.Str.{IsUtf8}
use Rattle.std.proofs.lemmas.Bool.{cases_order, le-leb}
use Rattle.std.proofs.lemmas.Bool.Decides.{nat_tests}
use Rattle.std.proofs.lemmas.List.{get_or_default}
use Rattle.std.proofs.lemmas.List.Elements.{All-weaker}
use Rattle.std.proofs.lemmas.List.Sums.{AllPass-from_list_all, list_all-from_AllPass}
use Rattle.std.proofs.lemmas.Option.{get_or_from_slice_get, slice_get_within, slice_get_cases}
use Rattle.std.proofs.lemmas.Str.{IsUtf8-from_ascii}
use Rattle.std.proofs.lemmas.Str.Ascii.{IsAscii-from_all}
use Rattle.arrayvec.specs.ArrayString.{ArrayString}
use Rattle.board.specs.declared.board.Board.{Board}
use Rattle.board.specs.declared.rail.Rail.{Rail}
use Rattle.board.specs.declared.rail_id.RailId.{RailId}
use Rattle.board.specs.Valid.{IsPrinted, HasNames}
use Rattle.script.specs.RailNames.{Names, is_printed, is_name, rail_under, rail_named, AreNamesOf}

-- words that rails may have as their names are text
is_printed-ascii : (byte : ℕ) → is_printed byte ≡ true → byte < 128
is_printed-ascii byte e = grind (arith, nat_tests)

printed-part : (b c : Bool) → (b && c) ≡ true → (b ≡ true) × (c ≡ true)
printed-part true true e = (refl, refl)
printed-part true false e = absurd (cc)
printed-part false c e = absurd (cc)

pub is_name-short : (word : List ℕ) → is_name word ≡ true → length word ≤ 64
is_name-short word e = let short = (printed-part (nat_le (length word) 64) (list_all is_printed word) e).0 in grind (arith, nat_tests)

pub IsUtf8-name : (word : List ℕ) → is_name word ≡ true → IsUtf8 word
IsUtf8-name word e =
    IsUtf8-from_ascii word
    (IsAscii-from_all word (All-weaker (λ byte. is_printed byte ≡ true) (λ byte. byte < 128) is_printed-ascii word
    (AllPass-from_list_all is_printed word (printed-part (nat_le (length word) 64) (list_all is_printed word) e).1)))

printed-test : (byte : ℕ) → IsPrinted byte → is_printed byte ≡ true
printed-test byte h = grind (arith, nat_tests)

-- a name of a board is one that a rail may have
pub is_name-printed : (word : List ℕ) → length word ≤ 64 → All IsPrinted word → is_name word ≡ true
is_name-printed word short printed =
    ap (λ (b : Bool). b && list_all is_printed word) (le-leb (length word) 64 short)
    ∙ list_all-from_AllPass is_printed word (All-weaker IsPrinted (λ byte. is_printed byte ≡ true) printed-test word printed)

pub is_name-item : (board : Board) → HasNames board → (k : ℕ) (rail : Rail) → get_or board.rails k rail ≡ rail → k < length board.rails → length rail.name.bytes ≤ 64 → is_name rail.name.bytes ≡ true
is_name-item board names k rail is inside short =
    is_name-printed rail.name.bytes short (subst (λ (r : Rail). All IsPrinted r.name.bytes) is (names.printed k rail inside))

-- one name more
rail_named-put : (old new : Names) (name : List ℕ) (r : RailId) → is_name name ≡ true
    → ((word : List ℕ) → rail_under new word ≡ cond (bytes_eq name word) (Some r) (rail_under old word))
    → (word : List ℕ) → rail_named new word ≡ if bytes_eq name word then Some r else rail_named old word
rail_named-put old new name r good put word =
    ap (λ (rail : Option RailId). if is_name word then rail else None) (put word) ∙ by (bytes_eq name word) refl (is_name word) refl
  where
    by : (b : Bool) → bytes_eq name word ≡ b → (t : Bool) → is_name word ≡ t
        → ◌≡◌ {A = Option RailId} (cond t (cond b (Some r) (rail_under old word)) None) (cond b (Some r) (cond t (rail_under old word) None))
    by true is true fits = refl
    by true is false fits =
        let same : is_name name ≡ is_name word = ap is_name ((bytes_decides name word).0 is) in
        let no : true ≡ false = sym good ∙ same ∙ fits in
        absurd (cc)
    by false is true fits = refl
    by false is false fits = refl

pub rail_named-insert : (old new : Names) (name : ArrayString) (r : RailId) → is_name name.bytes ≡ true
    → ((q : ArrayString) → rail_under new q.bytes ≡ cond (bytes_eq name.bytes q.bytes) (Some r) (rail_under old q.bytes))
    → (word : List ℕ) → rail_named new word ≡ if bytes_eq name.bytes word then Some r else rail_named old word
rail_named-insert old new name r good put word = rail_named-put old new name.bytes r good (λ word. put (record { bytes = word; spare = [] })) word

-- the first n rails have their names in the map, and nothing else has
pub record Through (rails : List Rail) (n : ℕ) (names : Names) : Type 0 where
  pub each : (k : ℕ) (d : Rail) → k < n → rail_named names (get_or rails k d).name.bytes ≡ Some (record { 0 = k })
  pub from : (word : List ℕ) (r : RailId) → rail_named names word ≡ Some r → (r.0 < n) × ((d : Rail) → (get_or rails r.0 d).name.bytes ≡ word)

-- the map takes in rail n
abbrev pub Puts : Names → Names → List ℕ → ℕ → Type 0
Puts old new name n = (word : List ℕ) → rail_named new word ≡ if bytes_eq name word then Some (record { 0 = n }) else rail_named old word

abbrev pub AreApart : List Rail → Type 0
AreApart rails = AllPairs (λ a b. a.name.bytes ≢ b.name.bytes) rails

module _ (rails : List Rail) (n : ℕ) (old new : Names) (rail : Rail) (is : get_or rails n rail ≡ rail) (inside : n < length rails) where
  there : (d : Rail) → get_or rails n d ≡ rail
  there d = get_or_default rails n d rail inside ∙ is

  pub through-next : AreApart rails → Puts old new rail.name.bytes n → Through rails n old → Through rails (n + 1) new
  through-next apart puts before = record { each = each; from = from }
    where
      itself : (word : List ℕ) → word ≡ rail.name.bytes → rail_named new word ≡ Some (record { 0 = n })
      itself word e = puts word ∙ ap (λ (b : Bool). if b then Some (record { 0 = n }) else rail_named old word) ((bytes_decides rail.name.bytes word).1 (sym e))

      other : (word : List ℕ) → rail.name.bytes ≢ word → rail_named new word ≡ rail_named old word
      other word apart = puts word ∙ by (bytes_eq rail.name.bytes word) refl
        where
          by : (b : Bool) → bytes_eq rail.name.bytes word ≡ b → ◌≡◌ {A = Option RailId} (cond b (Some (record { 0 = n })) (rail_named old word)) (rail_named old word)
          by true e = absurd (apart ((bytes_decides rail.name.bytes word).0 e))
          by false e = refl

      each : (k : ℕ) (d : Rail) → k < n + 1 → rail_named new (get_or rails k d).name.bytes ≡ Some (record { 0 = k })
      each k d below =
          elim (cases_order k n) [
            | inl same ↦ subst (λ (m : ℕ). rail_named new (get_or rails m d).name.bytes ≡ Some (record { 0 = m })) (sym same) (itself (get_or rails n d).name.bytes (ap (λ (r : Rail). r.name.bytes) (there d)))
            | inr (inl under) ↦
                other (get_or rails k d).name.bytes (λ e. apart k n d under inside (sym e ∙ ap (λ (r : Rail). r.name.bytes) (sym (there d))))
                ∙ before.each k d under
            | inr (inr over) ↦ absurd (omega arith)
          ]

      from : (word : List ℕ) (r : RailId) → rail_named new word ≡ Some r → (r.0 < n + 1) × ((d : Rail) → (get_or rails r.0 d).name.bytes ≡ word)
      from word r e = by (bytes_eq rail.name.bytes word) refl (sym (puts word) ∙ e)
        where
          by : (b : Bool) → bytes_eq rail.name.bytes word ≡ b → cond b (Some (record { 0 = n })) (rail_named old word) ≡ Some r → (r.0 < n + 1) × ((d : Rail) → (get_or rails r.0 d).name.bytes ≡ word)
          by true same e =
              let number : n ≡ r.0 = cc in
              (omega arith, λ d. ap (λ (m : ℕ). (get_or rails m d).name.bytes) (sym number) ∙ ap (λ (r : Rail). r.name.bytes) (there d) ∙ (bytes_decides rail.name.bytes word).0 same)
          by false same e = let found = before.from word r e in (omega (arith, found.0), found.1)

pub through-none : (rails : List Rail) (names : Names) → ((word : List ℕ) → rail_under names word ≡ None) → Through rails 0 names
through-none rails names none = record {
  each = λ k d below. absurd (omega arith);
  from = λ word r e. absurd (nothing (is_name word) word r (none word) e);
}
  where
    nothing : (b : Bool) (word : List ℕ) (r : RailId) → rail_under names word ≡ None → cond b (rail_under names word) None ≡ Some r → ⊥
    nothing true word r none e = let clash : None ≡ Some r = sym none ∙ e in cc
    nothing false word r none e = cc

pub through-all : (board : Board) (n : ℕ) (names : Names) → n ≡ length board.rails → Through board.rails n names → AreNamesOf board names
through-all board n names all through = record { each = each; no_other = no_other }
  where
    each : (at : ℕ) (rail : Rail) → slice_get board.rails at ≡ Some rail → option_map {T = RailId} (λ r. r.0) (rail_named names rail.name.bytes) ≡ Some at
    each at rail there =
        let inside = slice_get_within board.rails at rail there in
        let is = get_or_from_slice_get board.rails at rail rail there in
        ap (λ (found : Rail). option_map {T = RailId} (λ r. r.0) (rail_named names found.name.bytes)) (sym is)
        ∙ ap (λ (found : Option RailId). option_map {T = RailId} (λ r. r.0) found) (through.each at rail (omega arith))

    no_other : (word : List ℕ) (r : RailId) → rail_named names word ≡ Some r → option_map {T = Rail} (λ rail. rail.name.bytes) (slice_get board.rails r.0) ≡ Some word
    no_other word r e =
        let found = through.from word r e in
        elim (slice_get_cases board.rails r.0).1 [
          | inl (rail, inside, there, is) ↦
              ap (λ (found : Option Rail). option_map {T = Rail} (λ rail. rail.name.bytes) found) there
              ∙ ap (λ (found : Rail). Some found.name.bytes) (sym is)
              ∙ ap Some (found.1 rail)
          | inr (past, none) ↦ absurd (omega (arith, found.0))
        ]
