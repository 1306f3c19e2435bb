-- What holds of the tokens before each place of a text, from its start to its end or its fault.
use Rattle.std.proofs.Common.{◌≡◌, ℕ, zero, suc, ◌+◌, ◌<◌, ◌≤◌, List, [], ◌∷◌, ◌++◌, ltb, length, Result, Ok, Err, refl, arith, IfOk}
use Rattle.std.specs.Result.{MatchResult}
use Rattle.std.proofs.lemmas.Bool.{cond_both, ltb-true, ltb-false}
use Rattle.std.proofs.lemmas.Result.{MatchResult-at_ok, MatchResult-at_err}
use Rattle.dts_lex.specs.declared.fault.LexFault.{LexFault}
use Rattle.dts_lex.specs.declared.token.Kind.{Kind}
use Rattle.dts_lex.specs.declared.token.Token.{Token}
use Rattle.dts_lex.specs.declared.piece.Piece.{Piece}
use Rattle.dts_lex.specs.declared.piece.Piece.TheVariants as piece
use Rattle.dts_lex.specs.Piece.{piece_at}
use Rattle.dts_lex.specs.Lex.{comma_alone, in_cells, behind, lexed_from, lexed}
use Rattle.dts_lex.proofs.PieceLemmas.{Within, piece_ends}

-- the piece behind these tokens
abbrev pub piece_behind : List ℕ → List Token → ℕ → Result Piece LexFault
piece_behind text before at = piece_at text (comma_alone text before) (in_cells text before) at

-- the place of a fault, and what holds there
pub record FaultAt (text : List ℕ) (Holds : List Token → ℕ → Type 0) (fault : LexFault) : Type 0 where
  pub before : List Token
  pub at : ℕ
  pub inside : at < length text
  pub holds : Holds before at
  pub found : piece_behind text before at ≡ Err fault

-- what holds at a place goes on behind a gap and behind a token
pub record GoesOn (text : List ℕ) (Holds : List Token → ℕ → Type 0) : Type 0 where
  pub gap : (before : List Token) (at end : ℕ) → at < length text → at < end → end ≤ length text → Holds before at → piece_behind text before at ≡ Ok (piece.Gap end) → Holds before end
  pub token : (before : List Token) (at end : ℕ) (kind : Kind) → at < length text → at < end → end ≤ length text → Holds before at → piece_behind text before at ≡ Ok (piece.Token kind end) → Holds (before ++ record { kind = kind; start = at; end = end } ∷ []) end

-- what holds of all tokens, from what holds at the end or before the last token
pub record Closes (text : List ℕ) (Holds : List Token → ℕ → Type 0) (Done : List Token → Type 0) : Type 0 where
  pub last : (before : List Token) (at end : ℕ) (kind : Kind) → at < length text → at < end → end ≤ length text → Holds before at → piece_behind text before at ≡ Ok (piece.Last kind end) → Done (before ++ record { kind = kind; start = at; end = end } ∷ [])
  pub all : (before : List Token) (at : ℕ) → length text ≤ at → Holds before at → Done before

module _ (text : List ℕ) (Holds : List Token → ℕ → Type 0) (Done : List Token → Type 0) (on : GoesOn text Holds) (closes : Closes text Holds Done) where
  abbrev Outcome : Result (List Token) LexFault → Type 0
  Outcome r = MatchResult r Done (FaultAt text Holds)

  behind_outcome : (others : List Token → ℕ → Result (List Token) LexFault) (before : List Token) (at : ℕ) → at < length text → ((found : List Token) (end : ℕ) → at < end → Holds found end → Outcome (others found end)) → (r : Result Piece LexFault) → piece_behind text before at ≡ r → IfOk r (Within at (length text)) → Holds before at → Outcome (behind others before at r)
  behind_outcome others before at inside more (Ok (piece.Gap end)) is within h = more before end within.0 (on.gap before at end inside within.0 within.1 h is)
  behind_outcome others before at inside more (Ok (piece.Token kind end)) is within h = more _ end within.0 (on.token before at end kind inside within.0 within.1 h is)
  behind_outcome others before at inside more (Ok (piece.Last kind end)) is within h = closes.last before at end kind inside within.0 within.1 h is
  behind_outcome others before at inside more (Err fault) is within h = record { before = before; at = at; inside = inside; holds = h; found = is }

  walk_from : (steps : ℕ) (before : List Token) (at : ℕ) → length text ≤ at + steps → Holds before at → Outcome (lexed_from steps text before at)
  unfolding lexed_from
  walk_from zero before at enough h = closes.all before at (omega arith) h
  walk_from (suc steps) before at enough h =
      cond_both (ltb at (length text)) _ _ Outcome
      (λ more.
      let inside = ltb-true _ _ more in
      behind_outcome (lexed_from steps text) before at inside
      (λ found end forward so_far. walk_from steps found end (omega (arith, forward)) so_far)
      (piece_behind text before at) refl (piece_ends text at inside (comma_alone text before) (in_cells text before)) h)
      (λ past. closes.all before at (ltb-false _ _ past) h)

  walk : Holds [] 0 → Outcome (lexed text)
  unfolding lexed
  walk start = walk_from (length text) [] 0 (omega arith) start

  -- of a text's tokens
  pub walk_ok : Holds [] 0 → (tokens : List Token) → lexed text ≡ Ok tokens → Done tokens
  walk_ok start tokens is = MatchResult-at_ok Done (FaultAt text Holds) tokens is (walk start)

  -- and of its fault
  pub walk_err : Holds [] 0 → (fault : LexFault) → lexed text ≡ Err fault → FaultAt text Holds fault
  walk_err start fault is = MatchResult-at_err Done (FaultAt text Holds) fault is (walk start)
