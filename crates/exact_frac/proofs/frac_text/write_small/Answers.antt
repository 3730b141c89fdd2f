-- Why the digits that were written are those of the number.
use Rattle.std.proofs.Common.{◌+◌, ◌-◌, ◌%◌, arith, length-set, ◌∙◌}
use Rattle.exact_frac.proofs.Digits.{length-digit, length-step, length-positive, digit_written, first_written}
use Rattle.exact_frac.proofs.frac_text.write_small.Goals as goal

-- the last digit moves from the number to the buffer
pub digits-preserved : goal.digits-preserved
digits-preserved c =
    let l = c.digits in
    let shorter = length-step l.left c.digits-test.true (omega arith) in
    record {
      fits = omega arith;
      within = omega (arith, length-set l.bytes (l.at - 1) (48 + l.left % 10));
      start = omega arith;
      written = digit_written l.bytes l.at l.left c.digits-test.true (omega arith) (omega arith) l.invariant.within ∙ l.invariant.written;
    }

-- one digit was left
pub returns-clause-start : goal.returns-clause-start
returns-clause-start c = omega (arith, length-digit c.digits.left c.digits-test.false)

-- it goes before the others
pub returns-clause-written : goal.returns-clause-written
returns-clause-written c =
    first_written c.digits.bytes c.digits.at c.digits.left c.digits-test.false
    (omega (arith, length-digit c.digits.left c.digits-test.false))
    c.digits.invariant.within
    ∙ c.digits.invariant.written

-- no number is without a digit, so one byte is left for it
pub overflow_sub-at : goal.overflow_sub-at
overflow_sub-at c = omega (arith, length-positive c.digits.left (omega arith))

-- the same byte
pub bounds-bytes-at : goal.bounds-bytes-at
bounds-bytes-at c = omega (arith, length-positive c.digits.left (omega arith))

-- the same byte
pub overflow_sub-at-2 : goal.overflow_sub-at-2
overflow_sub-at-2 c = omega (arith, length-positive c.digits.left (omega arith))

-- the same byte
pub bounds-bytes-at-2 : goal.bounds-bytes-at-2
bounds-bytes-at-2 c = omega (arith, length-positive c.digits.left (omega arith))
