use Rattle.std.proofs.Common.{ℕ, ◌≡◌, ◌+◌, ◌≤◌, refl, sym, subst, ap, ◌∙◌, arith, take, drop, length, length-take, length-append, length-take-le}
use Rattle.std.proofs.lemmas.List.{take-append-drop}
use Rattle.std.proofs.lemmas.Result.{err_from_is_err_and}
use Rattle.reg_outside.specs.Count.{Rose}
use Rattle.reg_outside.proofs.ToldFacts.{with_before-nil}
use Rattle.regulator_main.specs.declared.input.InputError.TheVariants.{Failed, Memory}
use Rattle.regulator_main.proofs.Took.{took_more, took_none, took_then, ok_is_no_failure, memory_is_no_failure, still_failed}
use Rattle.regulator_main.proofs.input.read_input.Given as given
use Rattle.regulator_main.proofs.input.read_input.Goals as goal
use Rattle.regulator_main.proofs.input.read_input.Goals.{In_ok-take_piece}

-- so many more bytes came
grown : (g : given.Over) (c : In_ok-take_piece g) → length c.take_piece.new.bytes.items ≡ length c.pieces.bytes.items + c.in_ok-take_piece.field-0
grown g c =
    ap length c.in_ok-take_piece.ensures.grown ∙ length-append c.pieces.bytes.items (take c.in_ok-take_piece.field-0 c.take_piece.new.buffer)
    ∙ ap (λ n. length c.pieces.bytes.items + n) (length-take-le c.in_ok-take_piece.field-0 c.take_piece.new.buffer c.in_ok-take_piece.ensures.within)

-- they are at most as many as one more than a session may have
few : (g : given.Over) (c : In_ok-take_piece g) → length c.take_piece.new.bytes.items ≤ 4194305
few g c =
    omega (arith, grown g c, c.in_ok-take_piece.ensures.within, c.take_piece.auto.buffer, length-take c.min-room.result c.pieces.buffer)

pub returns-in_err-space : goal.returns-in_err-space
returns-in_err-space g c =
    let exit = err_from_is_err_and c.from_residual.result c.from_residual.ensures.1 in
    rw (exit.1, exit.2) record {
      taken = tt;
      whole = tt;
      limit = tt;
      stopped = took_none (g.S.Source.left c.args.source.now) 4194305;
      failed = λ same. absurd (memory_is_no_failure Memory refl same);
      count = λ other. refl;
    }

pub pieces-init : goal.pieces-init
pieces-init g c = (
  ap length c.as_mut_slice-buffer.ensures.value ∙ c.in_ok-space.ensures,
  omega (arith, ap length c.new-bytes.ensures.items),
  rw c.new-bytes.ensures.items (sym (with_before-nil (g.S.Source.left c.args.source.now))),
  refl,
)

pub returns-in_err-take_piece : goal.returns-in_err-take_piece
returns-in_err-take_piece g c =
    let exit = err_from_is_err_and c.from_residual-in_err-take_piece.result c.from_residual-in_err-take_piece.ensures.1 in
    rw (exit.1, exit.2) record {
      taken = tt;
      whole = tt;
      limit = tt;
      stopped = took_more (g.S.Source.left c.args.source.now) (g.S.Source.left c.pieces.source) (g.S.Source.left c.take_piece.new.source) c.pieces.bytes.items (length (take c.min-room.result c.pieces.buffer)) 4194305 c.pieces.invariant.2 c.in_err-take_piece.ensures.stopped (omega (arith, length-take {A = ℕ}));
      failed = λ same. subst (λ n. Rose n (g.S.Source.faults c.take_piece.new.source)) c.pieces.invariant.3 (c.in_err-take_piece.ensures.failed (still_failed c.in_err-take_piece.field-0.0 same));
      count = λ other. c.in_err-take_piece.ensures.count (λ same. other (still_failed c.in_err-take_piece.field-0.0 same)) ∙ c.pieces.invariant.3;
    }

pub returns-then-branch-eq0 : goal.returns-then-branch-eq0
returns-then-branch-eq0 g c =
    let done = c.in_ok-take_piece.ensures in
    record {
      taken = took_then (g.S.Source.left c.args.source.now) (g.S.Source.left c.pieces.source) (g.S.Source.left c.take_piece.new.source) c.pieces.bytes.items (take c.in_ok-take_piece.field-0 c.take_piece.new.buffer) c.take_piece.new.bytes.items c.pieces.invariant.2 done.taken done.grown;
      whole = λ few. done.end c.if-branch-eq0.true;
      limit = few g (goal.at.returns-then-branch-eq0 g c).In_ok-take_piece;
      stopped = tt;
      failed = λ same. absurd (ok_is_no_failure c.take_piece.new.bytes Failed same);
      count = λ other. done.count (ok_is_no_failure c.in_ok-take_piece.field-0 Failed) ∙ c.pieces.invariant.3;
    }

pub pieces-preserved : goal.pieces-preserved
pieces-preserved g c =
    let done = c.in_ok-take_piece.ensures in
    let room = c.min-room.result in
    let buffer = c.pieces.buffer in (
      length-append c.take_piece.new.buffer (drop room buffer) ∙ ap (λ n. n + length (drop room buffer)) c.take_piece.auto.buffer
          ∙ sym (length-append (take room buffer) (drop room buffer)) ∙ ap length (take-append-drop room buffer) ∙ c.pieces.invariant.0,
      few g (goal.at.pieces-preserved g c).In_ok-take_piece,
      took_then (g.S.Source.left c.args.source.now) (g.S.Source.left c.pieces.source) (g.S.Source.left c.take_piece.new.source) c.pieces.bytes.items (take c.in_ok-take_piece.field-0 c.take_piece.new.buffer) c.take_piece.new.bytes.items c.pieces.invariant.2 done.taken done.grown,
      done.count (ok_is_no_failure c.in_ok-take_piece.field-0 Failed) ∙ c.pieces.invariant.3,
    )

pub returns : goal.returns
returns g c = record {
  taken = c.pieces.invariant.2;
  whole = λ few. absurd (omega arith);
  limit = c.pieces.invariant.1;
  stopped = tt;
  failed = λ same. absurd (ok_is_no_failure c.pieces.bytes Failed same);
  count = λ other. c.pieces.invariant.3;
}
