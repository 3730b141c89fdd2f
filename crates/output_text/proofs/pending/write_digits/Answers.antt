-- Why the digits that were written are those of the number.
use Rattle.std.proofs.Common.{◌+◌, ◌-◌, ◌%◌, arith, length-set, ◌∙◌}
use Rattle.output_text.proofs.Decimals.{all-written, digit-written, length-decimal-least, length-decimal-step}
use Rattle.output_text.proofs.pending.write_digits.Goals as goal

-- the last digit moves from the number to the buffer
pub digits-preserved : goal.digits-preserved
digits-preserved c =
    let l = c.digits in
    let shorter = length-decimal-step l.left c.digits-test.true (omega arith) in
    record {
      fits = omega arith;
      within = omega (arith, length-set l.digits (l.at - 1) (48 + l.left % 10));
      written = digit-written l.digits l.at l.left c.digits-test.true (omega arith) (omega arith) l.invariant.within ∙ l.invariant.written;
    }

-- the first digit goes before the others
pub returns : goal.returns
returns c =
    let l = c.digits in
    all-written l.digits l.at l.left c.args.number c.digits-test.false l.invariant.fits l.invariant.within l.invariant.written

-- no number is without a digit, so one byte is left for it
pub overflow_sub-at : goal.overflow_sub-at
overflow_sub-at c = omega (arith, length-decimal-least c.digits.left (omega arith))

-- the same byte
pub bounds-digits-at : goal.bounds-digits-at
bounds-digits-at c = omega (arith, length-decimal-least c.digits.left (omega arith))

-- the first byte
pub bounds-digits-0 : goal.bounds-digits-0
bounds-digits-0 c = omega (arith, length-decimal-least c.digits.left (omega arith))
