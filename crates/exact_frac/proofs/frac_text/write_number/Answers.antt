-- Why the digits that were written are those of the number.
use Rattle.std.proofs.Common.{◌+◌, ◌-◌, ◌%◌, arith, length-set, ◌∙◌}
use Rattle.exact_frac.proofs.Digits.{length-step, length-positive, digit_written}
use Rattle.exact_frac.proofs.frac_text.write_number.Goals as goal

-- the last digit moves from the number to the buffer
pub digits-preserved : goal.digits-preserved
digits-preserved c =
    let l = c.digits in
    let shorter = length-step l.left (omega arith) l.auto.left-fits.fits in
    record {
      fits = omega arith;
      within = omega (arith, length-set l.bytes (l.at - 1) (48 + l.left % 10));
      start = omega arith;
      written = digit_written l.bytes l.at l.left (omega arith) l.auto.left-fits.fits (omega arith) l.invariant.within ∙ l.invariant.written;
    }

-- those of the rest come from where the loop stopped
pub returns-clause-start : goal.returns-clause-start
returns-clause-start c = omega (arith, c.digits.invariant.start, c.write_small.ensures.start)

-- and go before the others
pub returns-clause-written : goal.returns-clause-written
returns-clause-written c = c.write_small.ensures.written ∙ c.digits.invariant.written

-- no number is without a digit, so one byte is left for it
pub overflow_sub-at : goal.overflow_sub-at
overflow_sub-at c = omega (arith, length-positive c.digits.left c.digits.auto.left-fits.fits)

-- the same byte
pub bounds-bytes-at : goal.bounds-bytes-at
bounds-bytes-at c = omega (arith, length-positive c.digits.left c.digits.auto.left-fits.fits)
