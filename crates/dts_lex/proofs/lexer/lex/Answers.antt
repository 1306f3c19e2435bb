use Rattle.std.proofs.Common.{◌≡◌, Ok, Err, sym, [], ◌∷◌, ◌++◌, ap, ◌∙◌, refl, arith}
use Rattle.dts_lex.specs.declared.piece.Piece.TheVariants as piece
use Rattle.std.proofs.lemmas.Result.{err_from_is_err_and}
use Rattle.dts_lex.specs.declared.token.Token.{Token}
use Rattle.dts_lex.specs.Lex.{comma_alone, in_cells}
use Rattle.dts_lex.specs.Piece.{piece_at}
use Rattle.dts_lex.proofs.PieceLemmas.{piece_within}
use Rattle.dts_lex.proofs.LexLemmas.{remains_start, remains_gap, remains_token, remains_last, remains_fault, remains_end, found, comma_alone_push, in_cells_push}
use Rattle.dts_lex.proofs.lexer.lex.Goals as goal

pub loop-at-init : goal.loop-at-init
unfolding comma_alone in_cells
loop-at-init c =
    rw c.new-tokens.ensures.items (record { inside = omega arith; left = remains_start c.args.text.now; comma = refl; cells = refl })

pub loop-at-preserved-in-Gap : goal.loop-at-preserved-in-Gap
loop-at-preserved-in-Gap c =
    let now = c.loop-at.invariant in
    let read : Ok (piece.Gap c.in-Gap.end) ≡ piece_at c.args.text.now c.loop-at.comma_alone c.loop-at.in_cells c.loop-at.at = ap Ok (sym c.in-Gap.is) ∙ sym c.in_ok-end.was ∙ c.piece_at.ensures in
    let ends = piece_within c.args.text.now c.loop-at.at c.loop-at.comma_alone c.loop-at.in_cells _ c.loop-at-test.true read in
    record {
      inside = ends.1;
      left = remains_gap c.args.text.now c.loop-at.tokens.items c.loop-at.at c.in-Gap.end c.loop-at-test.true ends.0 now.left (rw (← now.comma, ← now.cells) read);
      comma = now.comma;
      cells = now.cells;
    }

pub loop-at-smaller-in-Gap : goal.loop-at-smaller-in-Gap
loop-at-smaller-in-Gap c =
    let read : Ok (piece.Gap c.in-Gap.end) ≡ piece_at c.args.text.now c.loop-at.comma_alone c.loop-at.in_cells c.loop-at.at = ap Ok (sym c.in-Gap.is) ∙ sym c.in_ok-end.was ∙ c.piece_at.ensures in
    let ends = piece_within c.args.text.now c.loop-at.at c.loop-at.comma_alone c.loop-at.in_cells _ c.loop-at-test.true read in
    omega (arith, ends.0, ends.1)

pub returns-in_err-end-clause-fault : goal.returns-in_err-end-clause-fault
returns-in_err-end-clause-fault c =
    let now = c.loop-at.invariant in
    let read : Err c.in_err-end.field-0.0 ≡ piece_at c.args.text.now c.loop-at.comma_alone c.loop-at.in_cells c.loop-at.at = sym c.in_err-end.was ∙ c.piece_at.ensures in
    let p = err_from_is_err_and c.from_residual.result c.from_residual.ensures.1 in
    rw (p.1, p.2) (λ _. remains_fault c.args.text.now c.loop-at.tokens.items c.loop-at.at c.in_err-end.field-0.0 c.loop-at-test.true now.left (rw (← now.comma, ← now.cells) read))

pub overflow_cast-end : goal.overflow_cast-end
overflow_cast-end c =
    let read : Ok (piece.Token c.in-Token.kind c.in-Token.end) ≡ piece_at c.args.text.now c.loop-at.comma_alone c.loop-at.in_cells c.loop-at.at = ap Ok (sym c.in-Token.is) ∙ sym c.in_ok-end.was ∙ c.piece_at.ensures in
    let ends = piece_within c.args.text.now c.loop-at.at c.loop-at.comma_alone c.loop-at.in_cells _ c.loop-at-test.true read in
    omega (arith, ends.1)

pub loop-at-smaller : goal.loop-at-smaller
loop-at-smaller c =
    let read : Ok (piece.Token c.in-Token.kind c.in-Token.end) ≡ piece_at c.args.text.now c.loop-at.comma_alone c.loop-at.in_cells c.loop-at.at = ap Ok (sym c.in-Token.is) ∙ sym c.in_ok-end.was ∙ c.piece_at.ensures in
    let ends = piece_within c.args.text.now c.loop-at.at c.loop-at.comma_alone c.loop-at.in_cells _ c.loop-at-test.true read in
    omega (arith, ends.0, ends.1)

pub loop-at-preserved : goal.loop-at-preserved
loop-at-preserved c =
    let now = c.loop-at.invariant in
    let read : Ok (piece.Token c.in-Token.kind c.in-Token.end) ≡ piece_at c.args.text.now c.loop-at.comma_alone c.loop-at.in_cells c.loop-at.at = ap Ok (sym c.in-Token.is) ∙ sym c.in_ok-end.was ∙ c.piece_at.ensures in
    let ends = piece_within c.args.text.now c.loop-at.at c.loop-at.comma_alone c.loop-at.in_cells _ c.loop-at-test.true read in
    let t : Token = record { kind = c.in-Token.kind; start = c.loop-at.at; end = c.in-Token.end } in
    let pushed : c.push.new.self.items ≡ c.loop-at.tokens.items ++ t ∷ [] = c.in_ok-push-in-Token.ensures.items in
    rw pushed (record {
      inside = ends.1;
      left = remains_token c.args.text.now c.loop-at.tokens.items c.loop-at.at c.in-Token.end c.loop-at-test.true ends.0 now.left c.in-Token.kind (rw (← now.comma, ← now.cells) read);
      comma = c.ends_part-comma_alone.ensures ∙ sym (comma_alone_push c.args.text.now c.loop-at.tokens.items t);
      cells = c.in_cells_behind-in_cells.ensures ∙ rw now.cells (sym (in_cells_push c.args.text.now c.loop-at.tokens.items t));
    })

pub overflow_cast-end-in-Last : goal.overflow_cast-end-in-Last
overflow_cast-end-in-Last c =
    let read : Ok (piece.Last c.in-Last.kind c.in-Last.end) ≡ piece_at c.args.text.now c.loop-at.comma_alone c.loop-at.in_cells c.loop-at.at = ap Ok (sym c.in-Last.is) ∙ sym c.in_ok-end.was ∙ c.piece_at.ensures in
    let ends = piece_within c.args.text.now c.loop-at.at c.loop-at.comma_alone c.loop-at.in_cells _ c.loop-at-test.true read in
    omega (arith, ends.1)

pub returns-in-Last-clause-tokens : goal.returns-in-Last-clause-tokens
returns-in-Last-clause-tokens c =
    let now = c.loop-at.invariant in
    let read : Ok (piece.Last c.in-Last.kind c.in-Last.end) ≡ piece_at c.args.text.now c.loop-at.comma_alone c.loop-at.in_cells c.loop-at.at = ap Ok (sym c.in-Last.is) ∙ sym c.in_ok-end.was ∙ c.piece_at.ensures in
    rw c.in_ok-push-in-Last.ensures.items
    (remains_last c.args.text.now c.loop-at.tokens.items c.loop-at.at c.in-Last.end c.in-Last.kind c.loop-at-test.true now.left (rw (← now.comma, ← now.cells) read))

pub returns-in-Last-clause-spans : goal.returns-in-Last-clause-spans
returns-in-Last-clause-spans c =
    (found c.args.text.now c.push-in-Last.new.self.items (returns-in-Last-clause-tokens c)).spans

pub returns-clause-tokens : goal.returns-clause-tokens
returns-clause-tokens c = remains_end c.args.text.now c.loop-at.tokens.items c.loop-at.at c.loop-at-test.false c.loop-at.invariant.left

pub returns-clause-spans : goal.returns-clause-spans
returns-clause-spans c =
    (found c.args.text.now c.loop-at.tokens.items (remains_end c.args.text.now c.loop-at.tokens.items c.loop-at.at c.loop-at-test.false c.loop-at.invariant.left)).spans
