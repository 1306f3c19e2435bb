use Rattle.std.proofs.Common.{◌≡◌, ◌∙◌, ◌+◌, false, eqb, get_or, sym, refl, arith}
use Rattle.std.proofs.lemmas.Bool.{ne_eqb}
use Rattle.dts_lex.specs.Piece.{slash_at}
use Rattle.dts_lex.specs.declared.class.Class.TheVariants.{Directive}
use Rattle.dts_lex.proofs.ScanLemmas.{run_end_bounds, slash_within}
use Rattle.dts_lex.proofs.piece.slash_at.Goals as goal

pub returns-then-next-eq47 : goal.returns-then-next-eq47
unfolding slash_at
returns-then-next-eq47 c = rw (sym c.byte_at-next.ensures ∙ c.if-next-eq47.true, c.run_end.ensures) refl

pub returns-in-Some : goal.returns-in-Some
unfolding slash_at
returns-in-Some c = rw (sym c.byte_at-next.ensures ∙ c.if-next-eq42.true, sym c.comment_end.ensures ∙ c.in-Some.is) refl

pub returns-in-None : goal.returns-in-None
unfolding slash_at
returns-in-None c = rw (sym c.byte_at-next.ensures ∙ c.if-next-eq42.true, sym c.comment_end.ensures ∙ c.in-None.is) refl

pub returns-then-byte_at-ne47 : goal.returns-then-byte_at-ne47
unfolding slash_at
returns-then-byte_at-ne47 c =
    let text = c.args.text.now in
    let at = c.args.at in
    let line : eqb (get_or text (at + 1) 0) 47 ≡ false = ne_eqb _ _ (λ is. c.if-next-eq47.false (c.byte_at-next.ensures ∙ is)) in
    let long : eqb (get_or text (at + 1) 0) 42 ≡ false = ne_eqb _ _ (λ is. c.if-next-eq42.false (c.byte_at-next.ensures ∙ is)) in
    let close : eqb (get_or text c.run_end-close.result 0) 47 ≡ false = ne_eqb _ _ (λ is. c.if-byte_at-ne47.true (c.byte_at.ensures ∙ is)) in
    rw (line, long, ← c.run_end-close.ensures, close) refl

pub returns-then-is_version : goal.returns-then-is_version
unfolding slash_at
returns-then-is_version c =
    let text = c.args.text.now in
    let at = c.args.at in
    let line : eqb (get_or text (at + 1) 0) 47 ≡ false = ne_eqb _ _ (λ is. c.if-next-eq47.false (c.byte_at-next.ensures ∙ is)) in
    let long : eqb (get_or text (at + 1) 0) 42 ≡ false = ne_eqb _ _ (λ is. c.if-next-eq42.false (c.byte_at-next.ensures ∙ is)) in
    rw (line, long, ← c.run_end-close.ensures, sym c.byte_at.ensures ∙ c.if-byte_at-ne47.false, sym c.if-is_version.ensures) refl

pub returns-else-is_version : goal.returns-else-is_version
unfolding slash_at
returns-else-is_version c =
    let text = c.args.text.now in
    let at = c.args.at in
    let line : eqb (get_or text (at + 1) 0) 47 ≡ false = ne_eqb _ _ (λ is. c.if-next-eq47.false (c.byte_at-next.ensures ∙ is)) in
    let long : eqb (get_or text (at + 1) 0) 42 ≡ false = ne_eqb _ _ (λ is. c.if-next-eq42.false (c.byte_at-next.ensures ∙ is)) in
    rw (line, long, ← c.run_end-close.ensures, sym c.byte_at.ensures ∙ c.if-byte_at-ne47.false, sym c.if-is_version.ensures) refl

pub overflow_add-close : goal.overflow_add-close
overflow_add-close c =
    let close = run_end_bounds Directive c.args.text.now (c.args.at + 1) (omega arith) in
    omega (arith, close.1, c.run_end-close.ensures)

pub slice_bounds-is_version-count : goal.slice_bounds-is_version-count
slice_bounds-is_version-count c =
    let close = run_end_bounds Directive c.args.text.now (c.args.at + 1) (omega arith) in
    omega (arith, close.0, c.run_end-close.ensures)

pub slice_bounds-is_version-start : goal.slice_bounds-is_version-start
slice_bounds-is_version-start c =
    let close = run_end_bounds Directive c.args.text.now (c.args.at + 1) (omega arith) in
    omega (arith, close.0, c.run_end-close.ensures)

pub slice_bounds-is_version-end : goal.slice_bounds-is_version-end
slice_bounds-is_version-end c = omega (arith, slash_within c.args.text.now c.run_end-close.result (sym c.byte_at.ensures ∙ c.if-byte_at-ne47.false))
