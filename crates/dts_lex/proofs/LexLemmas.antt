-- What is left of a text while its tokens are read.
use Rattle.std.proofs.Common.{◌≡◌, ℕ, zero, suc, ◌+◌, ◌-◌, ◌<◌, ◌≤◌, List, [], ◌∷◌, ◌++◌, Bool, true, false, cond, ◌||◌, ltb, length, Result, Ok, Err, refl, sym, ap, ◌∙◌, subst, arith, filter, slice_index, IfOk}
use Rattle.std.proofs.lemmas.Bool.{cond_both, ltb-true, lt-ltb, le-ltb}
use Rattle.std.proofs.lemmas.List.{append-nil, length_push, get_or_push}
use Rattle.std.proofs.lemmas.List.Elements.{filter-append}
use Rattle.std.proofs.lemmas.Option.{slice_get-get_or}
use Rattle.dts_lex.specs.declared.fault.LexFault.{LexFault}
use Rattle.dts_lex.specs.declared.token.Kind.{Kind}
use Rattle.dts_lex.specs.declared.token.Token.{Token}
use Rattle.dts_lex.specs.declared.piece.Piece.{Piece}
use Rattle.dts_lex.specs.declared.piece.Piece.TheVariants as piece
use Rattle.dts_lex.specs.Piece.{piece_at}
use Rattle.dts_lex.specs.Lex.{is_the_sign, ends_part, of_token, last_passes, comma_alone, in_cells, behind, lexed_from, lexed, SpansRise}
use Rattle.dts_lex.proofs.PieceLemmas.{Within, piece_ends}

-- the last one after a push is what was pushed
last_passes_push : {X : Type 0} (p : X → Bool) (xs : List X) (x : X) → last_passes p (xs ++ x ∷ []) ≡ p x
last_passes_push p xs x =
    let len = length_push xs x in
    let last : length (xs ++ x ∷ []) - 1 ≡ length xs = omega (arith, len) in
    let found = slice_get-get_or (xs ++ x ∷ []) (length xs) x (omega (arith, len)) in
    rw (last, found, get_or_push xs x x (length xs) refl)

pub comma_alone_push : (text : List ℕ) (before : List Token) (t : Token) → comma_alone text (before ++ t ∷ []) ≡ ends_part t.kind (slice_index text t.start)
unfolding comma_alone
comma_alone_push text before t = last_passes_push (of_token ends_part text) before t

-- the last of those that open or close, after a push
pushed_angle : (opens closes : Token → Bool) (before : List Token) (t : Token) → last_passes opens (filter (λ t. opens t || closes t) before ++ filter (λ t. opens t || closes t) (t ∷ [])) ≡ cond (opens t) true (cond (closes t) false (last_passes opens (filter (λ t. opens t || closes t) before)))
pushed_angle opens closes before t =
    let others = filter (λ t. opens t || closes t) before in
    elim (opens t) as (λ o. opens t ≡ o → last_passes opens (others ++ cond (o || closes t) (t ∷ []) []) ≡ cond o true (cond (closes t) false (last_passes opens others))) [
      | true ↦ λ is. last_passes_push opens others t ∙ is
      | false ↦ λ is. elim (closes t) as (λ k. last_passes opens (others ++ cond k (t ∷ []) []) ≡ cond k false (last_passes opens others)) [
        | true ↦ last_passes_push opens others t ∙ is
        | false ↦ ap (last_passes opens) (append-nil others)
      ]
    ] refl

-- the text's tokens are those before a place, and those that are found from there on
pub record Remains (text : List ℕ) (before : List Token) (at : ℕ) : Type 0 where
  pub steps : ℕ
  pub enough : length text ≤ at + steps
  pub same : lexed_from steps text before at ≡ lexed text

pub remains_start : (text : List ℕ) → Remains text [] 0
unfolding lexed
remains_start text = record { steps = length text; enough = omega arith; same = refl }

-- the piece at the place decides how lexing goes on
behind_step : (text : List ℕ) (before : List Token) (at : ℕ) → at < length text → (steps : ℕ) → length text ≤ at + steps → lexed_from steps text before at ≡ lexed text → (n : ℕ) × (length text ≤ at + 1 + n) × (behind (lexed_from n text) before at (piece_at text (comma_alone text before) (in_cells text before) at) ≡ lexed text)
unfolding lexed_from
behind_step text before at inside zero enough same = absurd (omega arith)
behind_step text before at inside (suc n) enough same = (n, omega arith, rw (lt-ltb at (length text) inside) at same)

behind_piece : (text : List ℕ) (before : List Token) (at : ℕ) (r : Result Piece LexFault) → at < length text → Remains text before at → r ≡ piece_at text (comma_alone text before) (in_cells text before) at → (n : ℕ) × (length text ≤ at + 1 + n) × (behind (lexed_from n text) before at r ≡ lexed text)
behind_piece text before at r inside left is =
    let step = behind_step text before at inside left.steps left.enough left.same in
    (step.0, step.1, ap (behind (lexed_from step.0 text) before at) is ∙ step.2)

module _ (text : List ℕ) (before : List Token) (at end : ℕ) (inside : at < length text) (forward : at < end) (left : Remains text before at) where
  -- a gap is passed
  pub remains_gap : Ok (piece.Gap end) ≡ piece_at text (comma_alone text before) (in_cells text before) at → Remains text before end
  remains_gap is =
      let step = behind_piece text before at (Ok (piece.Gap end)) inside left is in
      record { steps = step.0; enough = omega (arith, step.1); same = step.2 }

  -- a token joins those before it
  pub remains_token : (kind : Kind) → Ok (piece.Token kind end) ≡ piece_at text (comma_alone text before) (in_cells text before) at → Remains text (before ++ record { kind = kind; start = at; end = end } ∷ []) end
  remains_token kind is =
      let step = behind_piece text before at (Ok (piece.Token kind end)) inside left is in
      record { steps = step.0; enough = omega (arith, step.1); same = step.2 }

-- the last token ends the text
pub remains_last : (text : List ℕ) (before : List Token) (at end : ℕ) (kind : Kind) → at < length text → Remains text before at → Ok (piece.Last kind end) ≡ piece_at text (comma_alone text before) (in_cells text before) at → lexed text ≡ Ok (before ++ record { kind = kind; start = at; end = end } ∷ [])
remains_last text before at end kind inside left is =
    let step = behind_piece text before at (Ok (piece.Last kind end)) inside left is in
    sym step.2

-- a fault is the text's
pub remains_fault : (text : List ℕ) (before : List Token) (at : ℕ) (fault : LexFault) → at < length text → Remains text before at → Err fault ≡ piece_at text (comma_alone text before) (in_cells text before) at → lexed text ≡ Err fault
remains_fault text before at fault inside left is =
    let step = behind_piece text before at (Err fault) inside left is in
    sym step.2

end_step : (text : List ℕ) (before : List Token) (at steps : ℕ) → length text ≤ at → lexed_from steps text before at ≡ Ok before
unfolding lexed_from
end_step text before at zero past = refl
end_step text before at (suc steps) past = rw (le-ltb at (length text) past)

-- at the end of the text its tokens are those that were found
pub remains_end : (text : List ℕ) (before : List Token) (at : ℕ) → length text ≤ at → Remains text before at → lexed text ≡ Ok before
remains_end text before at past left = sym left.same ∙ end_step text before at left.steps past

pub in_cells_push : (text : List ℕ) (before : List Token) (t : Token) → in_cells text (before ++ t ∷ []) ≡ cond (of_token (is_the_sign 60) text t) true (cond (of_token (is_the_sign 62) text t) false (in_cells text before))
unfolding in_cells
in_cells_push text before t =
    let opens : Token → Bool = of_token (is_the_sign 60) text in
    let closes : Token → Bool = of_token (is_the_sign 62) text in
    let both : Token → Bool = λ t. opens t || closes t in
    let parts = filter-append both before (t ∷ []) in
    ap (last_passes opens) parts ∙ pushed_angle opens closes before t

-- spans go on to a later place
pub SpansRise-wider : (from at to : ℕ) (ts : List Token) → at ≤ to → SpansRise from at ts → SpansRise from to ts
SpansRise-wider from at to [] more h = omega arith
SpansRise-wider from at to (t ∷ ts) more h = (h.0, h.1, SpansRise-wider t.end at to ts more h.2)

-- a token joins them that begins where they end or later
pub SpansRise-push : (from at to : ℕ) (ts : List Token) (t : Token) → at ≤ t.start → t.start < t.end → t.end ≤ to → SpansRise from at ts → SpansRise from to (ts ++ t ∷ [])
SpansRise-push from at to [] t behind some within h = (omega arith, some, within)
SpansRise-push from at to (u ∷ us) t behind some within h = (h.0, h.1, SpansRise-push u.end at to us t behind some within h.2)

behind_rises : (size : ℕ) (others : List Token → ℕ → Result (List Token) LexFault) → ((before : List Token) (at : ℕ) → at ≤ size → SpansRise 0 at before → IfOk (others before at) (SpansRise 0 size)) → (before : List Token) (at : ℕ) (r : Result Piece LexFault) → IfOk r (Within at size) → SpansRise 0 at before → IfOk (behind others before at r) (SpansRise 0 size)
behind_rises size others rise before at (Ok (piece.Gap end)) within h = rise before end within.1 (SpansRise-wider 0 at end before (omega (arith, within.0)) h)
behind_rises size others rise before at (Ok (piece.Token kind end)) within h = rise _ end within.1 (SpansRise-push 0 at end before (record { kind = kind; start = at; end = end }) (omega arith) within.0 (omega arith) h)
behind_rises size others rise before at (Ok (piece.Last kind end)) within h = SpansRise-push 0 at size before (record { kind = kind; start = at; end = end }) (omega arith) within.0 within.1 h
behind_rises size others rise before at (Err fault) within h = tt

lexed_from_rises : (steps : ℕ) (text : List ℕ) (before : List Token) (at : ℕ) → at ≤ length text → SpansRise 0 at before → IfOk (lexed_from steps text before at) (SpansRise 0 (length text))
unfolding lexed_from
lexed_from_rises zero text before at inside h = SpansRise-wider 0 at (length text) before inside h
lexed_from_rises (suc steps) text before at inside h =
    cond_both (ltb at (length text)) _ _ (λ (r : Result (List Token) LexFault). IfOk r (SpansRise 0 (length text)))
    (λ more. behind_rises (length text) (lexed_from steps text) (lexed_from_rises steps text) before at _ (piece_ends text at (ltb-true _ _ more) (comma_alone text before) (in_cells text before)) h)
    (λ _. SpansRise-wider 0 at (length text) before inside h)

-- the spans of a text's tokens rise
pub lexed_rises : (text : List ℕ) → IfOk (lexed text) (SpansRise 0 (length text))
unfolding lexed
lexed_rises text = lexed_from_rises (length text) text [] 0 (omega arith) (omega arith)

-- the tokens that were found are the text's
pub record Found (text : List ℕ) (tokens : List Token) : Type 0 where
  pub tokens_are : lexed text ≡ Ok tokens
  pub spans : SpansRise 0 (length text) tokens

pub found : (text : List ℕ) (tokens : List Token) → lexed text ≡ Ok tokens → Found text tokens
found text tokens is =
    record { tokens_are = is; spans = subst (λ (r : Result (List Token) LexFault). IfOk r (SpansRise 0 (length text))) is (lexed_rises text) }
