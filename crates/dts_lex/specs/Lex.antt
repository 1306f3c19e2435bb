-- The tokens of a text.
use Rattle.std.specs.Prelude.{ℕ, zero, suc, ◌-◌, ◌<◌, ◌≤◌, List, [], ◌∷◌, ◌++◌, Bool, true, false, ◌||◌, ◌==◌, nat_lt, Result, Ok, Err, length, filter, slice_get, slice_index, if◌then◌else◌}
use Rattle.std.specs.Option.{option_map_or}
use Rattle.dts_lex.specs.declared.fault.LexFault.{LexFault}
use Rattle.dts_lex.specs.declared.token.Kind.{Kind}
use Rattle.dts_lex.specs.declared.token.Kind.TheVariants.{Word, Number, Text, Directive, Ref, Sign}
use Rattle.dts_lex.specs.declared.token.Token.{Token}
use Rattle.dts_lex.specs.declared.piece.Piece.{Piece}
use Rattle.dts_lex.specs.declared.piece.Piece.TheVariants as piece
use Rattle.dts_lex.specs.Piece.{piece_at}

-- a sign with this byte
abbrev pub is_the_sign : ℕ → Kind → ℕ → Bool
is_the_sign b Sign first = first == b
is_the_sign b Word first = false
is_the_sign b Number first = false
is_the_sign b Text first = false
is_the_sign b Directive first = false
is_the_sign b Ref first = false

-- a string, a reference, > and ], which may end a part of a value
abbrev pub ends_part : Kind → ℕ → Bool
ends_part Text first = true
ends_part Ref first = true
ends_part Sign first = first == 62 || first == 93
ends_part Word first = false
ends_part Number first = false
ends_part Directive first = false

-- the same of a token, by its first byte
abbrev pub of_token : (Kind → ℕ → Bool) → List ℕ → Token → Bool
of_token test text t = test t.kind (slice_index text t.start)

-- there is a last one, and it passes
abbrev pub last_passes : {X : Type 0} → (X → Bool) → List X → Bool
last_passes p xs = option_map_or p (slice_get xs (length xs - 1)) false

-- whether a comma stands alone behind these tokens: the last of them may end a part of a value
unfoldable pub comma_alone : List ℕ → List Token → Bool
comma_alone text before = last_passes (of_token ends_part text) before

-- whether what stands behind these tokens is among cells: the last < or > of them is a <
unfoldable pub in_cells : List ℕ → List Token → Bool
in_cells text before =
    last_passes (of_token (is_the_sign 60) text) (filter (λ t. of_token (is_the_sign 60) text t || of_token (is_the_sign 62) text t) before)

-- the tokens of the text, where those before a place are known and a piece begins there: a gap is
-- passed, a token is put behind them, and the first fault is answered
abbrev pub behind : (List Token → ℕ → Result (List Token) LexFault) → List Token → ℕ → Result Piece LexFault → Result (List Token) LexFault
behind others before at (Ok (piece.Gap end)) = others before end
behind others before at (Ok (piece.Token kind end)) = others (before ++ record { kind = kind; start = at; end = end } ∷ []) end
behind others before at (Ok (piece.Last kind end)) = Ok (before ++ record { kind = kind; start = at; end = end } ∷ [])
behind others before at (Err fault) = Err fault

-- piece by piece to the end of the text. No piece is empty, so a step for each byte is enough.
unfoldable pub lexed_from : ℕ → List ℕ → List Token → ℕ → Result (List Token) LexFault
lexed_from zero text before at = Ok before
lexed_from (suc steps) text before at =
    if nat_lt at (length text) then behind (lexed_from steps text) before at (piece_at text (comma_alone text before) (in_cells text before) at)
    else Ok before

-- the tokens of a text, or its first fault
unfoldable pub lexed : List ℕ → Result (List Token) LexFault
lexed text = lexed_from (length text) text [] 0

-- the tokens stand in order between two places, none is empty, and none begins before the one before
-- it ends
abbrev pub SpansRise : ℕ → ℕ → List Token → Type 0
SpansRise from to [] = from ≤ to
SpansRise from to (t ∷ ts) = (from ≤ t.start) × (t.start < t.end) × SpansRise t.end to ts
