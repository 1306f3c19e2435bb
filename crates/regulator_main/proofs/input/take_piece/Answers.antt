use Rattle.std.proofs.Common.{refl, sym, arith, take, length-take, length-take-le}
use Rattle.std.proofs.lemmas.Result.{err_from_is_err_and}
use Rattle.regulator_main.specs.declared.input.InputError.TheVariants.{Failed, Memory}
use Rattle.regulator_main.proofs.Took.{took_none, spent_by, ok_is_no_failure, memory_is_no_failure}
use Rattle.regulator_main.proofs.input.take_piece.Goals as goal

pub slice_bounds-extend_from_slice-end : goal.slice_bounds-extend_from_slice-end
slice_bounds-extend_from_slice-end g c = c.in_ok-n.ensures.within

pub slice_bounds-extend_from_slice-end-2 : goal.slice_bounds-extend_from_slice-end-2
slice_bounds-extend_from_slice-end-2 g c = sym (length-take-le c.in_ok-n.n c.read.new.buf c.in_ok-n.ensures.within)

pub returns-in_err-n : goal.returns-in_err-n
returns-in_err-n g c =
    let exit = err_from_is_err_and c.from_residual.result c.from_residual.ensures.1 in
    rw (exit.1, exit.2) record {
      within = tt;
      taken = tt;
      grown = tt;
      end = tt;
      stopped = rw c.in_err-n.ensures.failed_takes_nothing (took_none _ _);
      failed = λ same. c.in_err-n.ensures.failed_counts;
      count = λ other. absurd (other refl);
    }

pub returns-in_err-extend_from_slice : goal.returns-in_err-extend_from_slice
returns-in_err-extend_from_slice g c =
    let exit = err_from_is_err_and c.from_residual-in_err-extend_from_slice.result c.from_residual-in_err-extend_from_slice.ensures.1 in
    let read = c.in_ok-n.ensures in
    rw (exit.1, exit.2) record {
      within = tt;
      taken = tt;
      grown = tt;
      end = tt;
      stopped = (take c.in_ok-n.n c.read.new.buf, omega (arith, length-take c.in_ok-n.n c.read.new.buf, read.within, c.read.auto.buf), read.moved);
      failed = λ same. absurd (memory_is_no_failure Memory refl same);
      count = λ other. read.ok_counts_nothing;
    }

pub returns : goal.returns
returns g c =
    let read = c.in_ok-n.ensures in
    record {
      within = read.within;
      taken = read.moved;
      grown = c.in_ok-extend_from_slice.ensures.items;
      end = spent_by _ _ c.in_ok-n.n c.read.new.buf read.moved read.end;
      stopped = tt;
      failed = λ same. absurd (ok_is_no_failure _ Failed same);
      count = λ other. read.ok_counts_nothing;
    }
