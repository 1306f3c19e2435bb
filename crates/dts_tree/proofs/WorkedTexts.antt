-- The outlines of tiny texts, worked out by hand.
use Rattle.std.specs.Prelude.{◌≡◌, ℕ, List, [], ◌∷◌, ◌++◌, Some, None, codes}
use Rattle.std.proofs.Common.{refl, ap, sym, ◌∙◌, inl, inr}
use Rattle.dts_lex.specs.declared.token.Kind.TheVariants as kind
use Rattle.dts_lex.specs.declared.token.Token.{Token}
use Rattle.dts_tree.specs.declared.fault.TreeFault.TheVariants.{Syntax}
use Rattle.dts_tree.specs.Lexeme.{Version, Semicolon, Slash, Ref}
use Rattle.dts_tree.specs.Grammar.{Told, AreItems, IsFile}
use Rattle.dts_tree.specs.Grammar as grammar
use Rattle.dts_tree.specs.Outline.{Reads, list_of, set_by, Begins, BeginText, AreText, Tell, IsOutline}
use Rattle.dts_tree.proofs.WorkedGrammar.{mute}
use Rattle.dts_tree.proofs.WorkedLexemes.{token, reading}
use Rattle.dts_tree.proofs.WorkedOutlines.{naming}

-- /dts-v1/; is a text, and sets nothing
abbrev pub short : List Token
short = token kind.Directive 0 8 ∷ token kind.Sign 8 9 ∷ []

short_told : (text : List ℕ) (ts : List Told) → Reads text short ts → Begins ts → set_by ts ≡ []
short_told text [] reads begins = absurd reads
short_told text (t ∷ []) reads begins = absurd reads.2
short_told text (t ∷ u ∷ []) reads (more, grammar.file _ _ _ version semicolon items) = ap (λ o. list_of o ++ (list_of u.sets ++ [])) version.1 ∙ ap (λ o. list_of o ++ []) semicolon.1
short_told text (t ∷ u ∷ v ∷ ts) reads begins = absurd reads.2.2

abbrev short_ts : List Told
short_ts = mute Version 0 ∷ mute Semicolon 8 ∷ []

short_file : IsFile short_ts
short_file = grammar.file _ _ _ (refl, refl) (refl, refl) grammar.none

short_tells : Tell (codes "/dts-v1/;") short []
unfolding reading
short_tells = record { begins = (short_ts, (refl, refl, (refl, refl, tt)), ([], short_file)); telling = short_told (codes "/dts-v1/;") }

pub short_text : IsOutline (codes "/dts-v1/;") short [] None
unfolding reading
short_text = (short_tells, (short_ts, (refl, refl, (refl, refl, tt)), short_file))

-- /dts-v1/;; breaks at its second semicolon
no_item : (t : Told) (ts : List Told) → t.lexeme ≡ Semicolon → ¬ AreItems (t ∷ ts)
no_item t _ is (grammar.root _ _ v _ ys slash opens members ends others) = let e : Semicolon ≡ Slash = sym is ∙ slash.0 in cc
no_item t _ is (grammar.add name _ _ v _ ys says opens members ends others) = let e : Semicolon ≡ Ref name = sym is ∙ says.0 in cc

two_semicolons_wrong : ¬ BeginText (codes "/dts-v1/;;") (short ++ token kind.Sign 9 10 ∷ [])
unfolding reading
two_semicolons_wrong ([], reads, begins) = reads
two_semicolons_wrong (t ∷ [], reads, begins) = reads.2
two_semicolons_wrong (t ∷ u ∷ [], reads, begins) = reads.2.2
two_semicolons_wrong (t ∷ u ∷ v ∷ w ∷ ts, reads, begins) = reads.2.2.2
two_semicolons_wrong (t ∷ u ∷ v ∷ [], reads, (more, grammar.file _ _ _ version semicolon items)) = no_item v more reads.2.2.0 items

two_semicolons : IsOutline (codes "/dts-v1/;;") (short ++ token kind.Sign 9 10 ∷ []) [] (Some (Syntax 9))
unfolding naming reading
two_semicolons = inl (record {
  n = 2;
  token = token kind.Sign 9 10;
  there = refl;
  told = record { begins = (short_ts, (refl, refl, (refl, refl, tt)), ([], short_file)); telling = short_told (codes "/dts-v1/;;") };
  wrong = two_semicolons_wrong;
  named = refl;
})

-- a text without tokens, and /dts-v1/ alone, end early
no_file : ¬ AreText [] []
no_file ([], reads, is) = elim is [ ]
no_file (t ∷ ts, reads, is) = reads

no_tokens : IsOutline [] [] [] (Some (Syntax 0))
unfolding reading
no_tokens = inr (record {
  told = record {
    begins = ([], tt, (mute Version 0 ∷ mute Semicolon 8 ∷ [], grammar.file _ _ _ (refl, refl) (refl, refl) grammar.none));
    telling = λ ts reads begins. elim ts as (λ us. Reads [] [] us → set_by us ≡ []) [
      | [] ↦ λ _. refl
      | u ∷ us ↦ λ h. absurd h
    ] reads;
  };
  short = no_file;
  named = refl;
})
