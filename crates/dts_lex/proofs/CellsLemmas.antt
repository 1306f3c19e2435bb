-- Whether tokens stand among cells, token by token.
use Rattle.std.proofs.Common.{◌≡◌, ℕ, zero, suc, ◌+◌, ◌⊎◌, List, [], ◌∷◌, ◌++◌, true, false, length, take, drop, refl, sym, ap, ◌∙◌, subst, inl, inr, ⊎_elim, arith, append_assoc, length-append, slice_index, slice_range, get_or}
use Rattle.std.specs.List.{AllByRecursion}
use Rattle.std.proofs.lemmas.Bool.{eqb-true, eq-eqb, false≢true, cases_Bool}
use Rattle.std.proofs.lemmas.List.{get_or-take, get_or-drop}
use Rattle.dts_lex.specs.declared.token.Kind.{Kind}
use Rattle.dts_lex.specs.declared.token.Kind.TheVariants.{Word, Number, Text, Directive, Ref, Sign}
use Rattle.dts_lex.specs.declared.token.Token.{Token}
use Rattle.dts_lex.specs.Lex.{is_the_sign, of_token, in_cells}
use Rattle.dts_lex.specs.Shape.{IsOfKind, IsSign}
use Rattle.dts_lex.specs.Standing.{IsTheSign, StandsAmongCells, StandsAsNumber, NumbersStand}
use Rattle.dts_lex.proofs.LexLemmas.{in_cells_push}
use Rattle.dts_lex.proofs.CoverLemmas.{AllByRecursion-push}

-- where an element stands in a list behind which one more was put
split_push : {X : Type 0} (front back before : List X) (x t : X) → front ++ x ∷ back ≡ before ++ t ∷ [] → ((back ≡ []) × (before ≡ front) × (x ≡ t)) ⊎ ((others : List X) × (back ≡ others ++ t ∷ []) × (before ≡ front ++ x ∷ others))
split_push [] back [] x t is = let same : x ≡ t = cc in let none : back ≡ [] = cc in inl (none, refl, same)
split_push [] back (y ∷ ys) x t is =
    let same : y ≡ x = cc in
    let rest : back ≡ ys ++ t ∷ [] = cc in
    inr (ys, rest, ap (λ z. z ∷ ys) same)
split_push (y ∷ front) back [] x t is =
    let none : front ++ x ∷ back ≡ [] = cc in
    absurd (omega (arith, length-append front (x ∷ back), ap length none))
split_push (y ∷ front) back (z ∷ before) x t is =
    let same : z ≡ y = cc in
    let rest : front ++ x ∷ back ≡ before ++ t ∷ [] = cc in
    ⊎_elim
    (λ last. inl (last.0, (λ i. same i ∷ last.1 i), last.2))
    (λ earlier. inr (earlier.0, earlier.1, (λ i. same i ∷ earlier.2 i)))
    (split_push front back before x t rest)

-- what holds of each up to the last one
All-but_last : {X : Type 0} (P : X → Type 0) (xs : List X) (x : X) → AllByRecursion P (xs ++ x ∷ []) → AllByRecursion P xs × P x
All-but_last P [] x all = (tt, all.0)
All-but_last P (y ∷ ys) x all = let rest = All-but_last P ys x all.1 in ((all.0, rest.0), rest.1)

-- the first byte of a slice
pub first_byte : (bytes : List ℕ) (n b : ℕ) (rest : List ℕ) → take n bytes ≡ b ∷ rest → get_or bytes 0 0 ≡ b
first_byte bytes zero b rest is = absurd (omega (arith, ap length is))
first_byte bytes (suc n) b rest is = sym (get_or-take (suc n) bytes 0 0 (omega arith)) ∙ ap (λ xs. get_or xs 0 0) is

pub first_of : (text : List ℕ) (from to b : ℕ) (rest : List ℕ) → slice_range text from to ≡ b ∷ rest → slice_index text from ≡ b
first_of text from to b rest is = let same : from + 0 ≡ from = omega arith in ap (λ i. get_or text i 0) (sym same) ∙ sym (get_or-drop from text 0 0) ∙ first_byte (drop from text) _ b rest is

sign_kind : (kind : Kind) (first b : ℕ) → is_the_sign b kind first ≡ true → (kind ≡ Sign) × (first ≡ b)
sign_kind Sign first b is = (refl, eqb-true first b is)
sign_kind Word first b is = absurd (false≢true is)
sign_kind Number first b is = absurd (false≢true is)
sign_kind Text first b is = absurd (false≢true is)
sign_kind Directive first b is = absurd (false≢true is)
sign_kind Ref first b is = absurd (false≢true is)

module _ (text : List ℕ) (t : Token) where
  -- a sign is told by its first byte, but for the start of a path
  sign_told : (b : ℕ) → (38 ≡ b → ⊥) → IsOfKind t.kind (slice_range text t.start t.end) → of_token (is_the_sign b) text t ≡ true → IsTheSign text b t
  sign_told b no_path fits is =
      let told = sign_kind t.kind (slice_index text t.start) b is in
      let sign : IsSign (slice_range text t.start t.end) = subst (λ kind. IsOfKind kind (slice_range text t.start t.end)) told.0 fits in
      ⊎_elim
      (λ one. (told.0, one.1 ∙ ap (λ c. c ∷ []) (sym (first_of text t.start t.end one.0 [] one.1) ∙ told.1)))
      (λ path. absurd (no_path (sym (first_of text t.start t.end 38 (123 ∷ []) path) ∙ told.1)))
      sign

  sign_tells : (b : ℕ) → IsTheSign text b t → of_token (is_the_sign b) text t ≡ true
  sign_tells b is = rw is.0 (eq-eqb _ b (first_of text t.start t.end b [] is.1))

-- the flag says where the tokens end
pub record Cells (text : List ℕ) (before : List Token) : Type 0 where
  pub stands : in_cells text before ≡ true → StandsAmongCells text before
  pub told : StandsAmongCells text before → in_cells text before ≡ true

pub Cells-none : (text : List ℕ) → Cells text []
unfolding in_cells
Cells-none text = record { stands = λ is. absurd (false≢true is); told = λ h. absurd (omega (arith, ap length h.parts, length-append h.front (h.opening ∷ h.since))) }

module _ (text : List ℕ) (before : List Token) (t : Token) (fits : IsOfKind t.kind (slice_range text t.start t.end)) (cells : Cells text before) where
  opened : of_token (is_the_sign 60) text t ≡ true → Cells text (before ++ t ∷ [])
  opened opening = record {
    stands = λ _. record { front = before; opening = t; since = []; parts = refl; opens = sign_told text t 60 (λ is. absurd (omega (arith, is))) fits opening; stays = tt };
    told = λ _. in_cells_push text before t ∙ rw opening refl;
  }

  -- an earlier token opened the cells, and the last one doesn't close them
  earlier : of_token (is_the_sign 60) text t ≡ false → (h : StandsAmongCells text (before ++ t ∷ [])) → (others : List Token) × (h.since ≡ others ++ t ∷ []) × (before ≡ h.front ++ h.opening ∷ others)
  earlier no_open h =
      ⊎_elim
      (λ last. absurd (false≢true (sym no_open ∙ sign_tells text t 60 (subst (IsTheSign text 60) last.2 h.opens))))
      (λ others. others)
      (split_push h.front h.since before h.opening t (sym h.parts))

  closed : of_token (is_the_sign 60) text t ≡ false → of_token (is_the_sign 62) text t ≡ true → Cells text (before ++ t ∷ [])
  closed no_open close = record {
    stands = λ is. absurd (false≢true (sym (in_cells_push text before t ∙ rw (no_open, close) refl) ∙ is));
    told = λ h.
        let others = earlier no_open h in
        let all = All-but_last (λ u. IsTheSign text 62 u → ⊥) others.0 t (subst (AllByRecursion (λ u. IsTheSign text 62 u → ⊥)) others.1 h.stays) in
        absurd (all.1 (sign_told text t 62 (λ is. absurd (omega (arith, is))) fits close));
  }

  kept : of_token (is_the_sign 60) text t ≡ false → of_token (is_the_sign 62) text t ≡ false → Cells text (before ++ t ∷ [])
  kept no_open no_close =
      let same : in_cells text (before ++ t ∷ []) ≡ in_cells text before = in_cells_push text before t ∙ rw (no_open, no_close) refl in
      record {
        stands = λ is.
            let h = cells.stands (sym same ∙ is) in
            record {
              front = h.front;
              opening = h.opening;
              since = h.since ++ t ∷ [];
              parts = ap (λ xs. xs ++ t ∷ []) h.parts ∙ append_assoc h.front (h.opening ∷ h.since) (t ∷ []);
              opens = h.opens;
              stays = AllByRecursion-push _ h.since t h.stays (λ is. absurd (false≢true (sym no_close ∙ sign_tells text t 62 is)));
            };
        told = λ h.
            let others = earlier no_open h in
            let all = All-but_last (λ u. IsTheSign text 62 u → ⊥) others.0 t (subst (AllByRecursion (λ u. IsTheSign text 62 u → ⊥)) others.1 h.stays) in
            same ∙ cells.told (record { front = h.front; opening = h.opening; since = others.0; parts = others.2; opens = h.opens; stays = all.0 });
      }

  pub Cells-push : Cells text (before ++ t ∷ [])
  Cells-push =
      ⊎_elim opened
      (λ no_open. ⊎_elim (closed no_open) (kept no_open) (cases_Bool (of_token (is_the_sign 62) text t)))
      (cases_Bool (of_token (is_the_sign 60) text t))

-- numbers stand, token by token
pub NumbersStand-none : (text : List ℕ) → NumbersStand text []
NumbersStand-none text front back t is = absurd (omega (arith, ap length is, length-append front (t ∷ back)))

pub NumbersStand-push : (text : List ℕ) (before : List Token) (t : Token) → NumbersStand text before → StandsAsNumber text before t → NumbersStand text (before ++ t ∷ [])
NumbersStand-push text before t numbers here front back u is =
    ⊎_elim
    (λ last. subst (λ ts. StandsAsNumber text ts u) last.1 (subst (StandsAsNumber text before) (sym last.2) here))
    (λ others. numbers front others.0 u others.2)
    (split_push front back before u t (sym is))
