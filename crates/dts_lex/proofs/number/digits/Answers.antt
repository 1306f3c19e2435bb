use Rattle.std.proofs.Common.{◌≡◌, ◌<◌, ◌^◌, false, take, sym, arith, get_or, below_more}
use Rattle.std.specs.Char.{is_digit, digit_value}
use Rattle.std.specs.Str.Parse.{digits_value}
use Rattle.std.proofs.lemmas.Bool.{lt-ltb, le-ltb}
use Rattle.std.proofs.lemmas.List.Sums.{prefix_len_is}
use Rattle.std.proofs.lemmas.Int.Digits.{digits_value_more}
use Rattle.dts_lex.proofs.NumberLemmas.{digit_fits, min_step}
use Rattle.dts_lex.proofs.number.digits.Goals as goal

pub returns-in_default-clause-count : goal.returns-in_default-clause-count
returns-in_default-clause-count c =
    let ends : is_digit (get_or c.args.bytes.now c.loop-count.count 0) c.args.base ≡ false = le-ltb _ _ (let no : digit_value (get_or c.args.bytes.now c.loop-count.count 0) < c.args.base → ⊥ = c.in_default.ensures.value in omega (arith, no)) in
    sym (prefix_len_is (λ b. is_digit b c.args.base) c.args.bytes.now c.loop-count.count 0 (omega arith) c.loop-count.invariant.digits (λ _. ends))

pub overflow_add-value : goal.overflow_add-value
overflow_add-value c =
    let digit = c.in-Some.ensures.value in
    let fits =
    digit_fits c.loop-count.value c.args.base c.in-Some.digit (omega (arith, c.loop-count.invariant.value)) c.requires.high (omega (arith, digit.0, digit.1, c.requires.high)) in
    rw (c.from.ensures, c.from-in-loop-count.ensures) (omega (arith, fits))

pub loop-count-preserved : goal.loop-count-preserved
loop-count-preserved c = record {
  inside = omega arith;
  digits = below_more _ _ c.loop-count.invariant.digits (lt-ltb _ _ c.in-Some.ensures.value.0);
  value =
      let next = digits_value_more c.args.base c.args.bytes.now c.loop-count.count c.loop-count-test.true in
      let stopped = min_step (digits_value c.args.base (take c.loop-count.count c.args.bytes.now)) c.args.base c.in-Some.digit (2 ^ 32) (omega (arith, c.requires.low)) in
      rw (c.min-value.ensures, c.from.ensures, c.from-in-loop-count.ensures, c.loop-count.invariant.value, next, ← c.in-Some.ensures.value.1) stopped;
}

pub returns-clause-count : goal.returns-clause-count
returns-clause-count c =
    sym (prefix_len_is (λ b. is_digit b c.args.base) c.args.bytes.now c.loop-count.count 0 c.loop-count.invariant.inside c.loop-count.invariant.digits (λ more. absurd (omega arith)))

pub returns-in_default-clause-value : goal.returns-in_default-clause-value
returns-in_default-clause-value c = c.loop-count.invariant.value

pub overflow_mul-value : goal.overflow_mul-value
overflow_mul-value c =
    let fits = digit_fits c.loop-count.value c.args.base 0 (omega (arith, c.loop-count.invariant.value)) c.requires.high (omega arith) in
    rw c.from.ensures (omega (arith, fits))

pub returns-clause-value : goal.returns-clause-value
returns-clause-value c = c.loop-count.invariant.value
