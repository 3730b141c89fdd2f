-- Why two numbers and a slash fit the buffer, and stand there in this order.
use Rattle.std.proofs.Common.{arith, ◌∙◌, append-nil}
use Rattle.std.specs.Fmt.{decimal}
use Rattle.exact_frac.proofs.Digits.{length-num, length-den, slash_written}
use Rattle.exact_frac.proofs.frac_text.FracText.ratio.Goals as goal

-- a denominator has at most 13 digits
pub write_number-slash-requires-clause-fits : goal.write_number-slash-requires-clause-fits
write_number-slash-requires-clause-fits c = omega (arith, length-den c.args.den c.requires.den_small)

-- so a byte is left for the slash before it
pub overflow_sub-slash : goal.overflow_sub-slash
overflow_sub-slash c = omega (arith, length-den c.args.den c.requires.den_small, c.write_number-slash.ensures.start)

-- and for a numerator of at most 25 digits before the slash
pub write_number-start-requires-clause-fits : goal.write_number-start-requires-clause-fits
write_number-start-requires-clause-fits c =
    omega (arith, length-num c.args.num c.requires.num_small, length-den c.args.den c.requires.den_small, c.write_number-slash.ensures.start)

-- the numerator, the slash and the denominator stand side by side
pub returns : goal.returns
returns c =
    let slash = c.write_number-slash in
    c.write_number-start.ensures.written
    ∙ slash_written slash.new.bytes slash.result (decimal c.args.num) (decimal c.args.den)
    (omega (arith, length-den c.args.den c.requires.den_small, slash.ensures.start))
    (omega (arith, length-den c.args.den c.requires.den_small, slash.ensures.start, slash.auto.bytes))
    (slash.ensures.written ∙ append-nil _)
