use Rattle.std.proofs.Common.{◌∙◌, ap, sym, length, get_or, take}
use Rattle.std.proofs.lemmas.List.{drop_all}
use Rattle.std.proofs.lemmas.Result.{err_from_is_err_and}
use Rattle.dts_lex.specs.declared.token.Token.{Token}
use Rattle.dts_lex.specs.declared.token.Kind.TheVariants as kind
use Rattle.dts_tree.specs.Inside.Reader.{view_of}
use Rattle.dts_tree.specs.Inside.View.{take_all}
use Rattle.dts_tree.proofs.TakeLemmas.{reached, spans_at, spans_reach, spans_start, spans_next, counted_on, all_on, all_fault, all_end}
use Rattle.dts_tree.proofs.reading.read.Goals as goal

abbrev blank : Token
blank = record { kind = kind.Word; start = 0; end = 0 }

pub take-requires-clause-token : goal.take-requires-clause-token
take-requires-clause-token c = spans_at 0 (length c.args.text.now) c.args.tokens.now c.loop-token.token-index blank c.requires.spans c.loop-token-test.true

pub take-requires-clause-counted : goal.take-requires-clause-counted
take-requires-clause-counted c =
    let tokens = c.args.tokens.now in
    let i = c.loop-token.token-index in
    counted_on (reached 0 (take i tokens)) (get_or tokens i blank).start c.loop-token.reader (spans_start 0 (length c.args.text.now) tokens i blank c.requires.spans c.loop-token-test.true) c.loop-token.invariant.counted

pub returns-in_err-take-clause-fault : goal.returns-in_err-take-clause-fault
returns-in_err-take-clause-fault c =
    let text = c.args.text.now in
    let p = err_from_is_err_and c.from_residual.result c.from_residual.ensures.1 in
    rw (p.1, p.2) (λ ne.
    sym c.loop-token.invariant.left
    ∙ all_fault text c.args.tokens.now c.loop-token.token-index blank (view_of text c.loop-token.reader) c.loop-token-test.true c.in_err-take.field-0.0 (c.in_err-take.ensures.fault ne))

pub loop-token-preserved : goal.loop-token-preserved
loop-token-preserved c =
    let text = c.args.text.now in
    let went = c.in_ok-take.ensures.ok in
    record {
      left = sym (all_on text c.args.tokens.now c.loop-token.token-index blank (view_of text c.loop-token.reader) c.loop-token-test.true (view_of text c.take.new.self) went.view) ∙ c.loop-token.invariant.left;
      kept = went.kept;
      counted = rw (spans_next 0 c.args.tokens.now c.loop-token.token-index blank c.loop-token-test.true) went.counted;
    }

pub returns-clause-ok : goal.returns-clause-ok
returns-clause-ok c =
    let text = c.args.text.now in
    sym c.loop-token.invariant.left
    ∙ ap (take_all text (view_of text c.loop-token.reader)) (drop_all c.loop-token.token-index c.args.tokens.now c.loop-token-test.false)
    ∙ all_end text (view_of text c.loop-token.reader)

pub returns-clause-counted : goal.returns-clause-counted
returns-clause-counted c =
    let tokens = c.args.tokens.now in
    counted_on (reached 0 (take c.loop-token.token-index tokens)) (length c.args.text.now) c.loop-token.reader (spans_reach 0 (length c.args.text.now) tokens c.loop-token.token-index c.requires.spans) c.loop-token.invariant.counted
