use Rattle.std.proofs.Common.{arith}
use Rattle.rows.proofs.FaultLines.{fault_of, applied_told, fault_made}
use Rattle.rows.proofs.fault_reading.read_fault.Goals as goal

pub returns-in_default-clause-none : goal.returns-in_default-clause-none
returns-in_default-clause-none c = λ same kind answer is.
    let fault = fault_of c.args.board.now kind answer c.args.words.now is in
    c.in_default.ensures.none fault.chip fault.reg _ fault.small_chip fault.small_reg fault.spelled

pub returns-in_default-parse_number-clause-none : goal.returns-in_default-parse_number-clause-none
returns-in_default-parse_number-clause-none c = λ same kind answer is.
    let fault = fault_of c.args.board.now kind answer c.args.words.now is in
    let r = c.in-Some in
    let cut = c.take_until.ensures in
    c.in_default-parse_number.ensures.none fault.applied fault.small_applied (applied_told c.args.board.now c.args.words.now r.chip r.reg r.rest.now c.take_until.result.0.now c.take_until.result.1.now r.ensures.fits.0 r.ensures.some cut.parts cut.first cut.tail fault).0

pub returns-in-Ok-clause-ok : goal.returns-in-Ok-clause-ok
returns-in-Ok-clause-ok c = λ kind.
    let r = c.in-Some in
    let cut = c.take_until.ensures in
    fault_made c.args.board.now kind c.args.words.now r.rest.now c.take_until.result.0.now c.take_until.result.1.now r.chip r.reg c.in-Some-parse_number.applied c.in-Ok.now r.ensures.some cut.parts c.in-Some-parse_number.ensures.some c.in-Ok.ensures.lines r.ensures.fits.0 r.ensures.fits.1 (omega arith) c.in-Ok.ensures.fits

pub returns-in-Err-clause-none : goal.returns-in-Err-clause-none
returns-in-Err-clause-none c = λ same kind answer is.
    let fault = fault_of c.args.board.now kind answer c.args.words.now is in
    let r = c.in-Some in
    let cut = c.take_until.ensures in
    c.in-Err.ensures.none same fault.now fault.rails (applied_told c.args.board.now c.args.words.now r.chip r.reg r.rest.now c.take_until.result.0.now c.take_until.result.1.now r.ensures.fits.0 r.ensures.some cut.parts cut.first cut.tail fault).1
