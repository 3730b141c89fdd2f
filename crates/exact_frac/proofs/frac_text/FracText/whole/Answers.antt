-- Why a numerator fits the buffer.
use Rattle.std.proofs.Common.{arith}
use Rattle.exact_frac.proofs.Digits.{length-num}
use Rattle.exact_frac.proofs.frac_text.FracText.whole.Goals as goal

-- a numerator has at most 25 digits
pub write_number-start-requires-clause-fits : goal.write_number-start-requires-clause-fits
write_number-start-requires-clause-fits c = omega (arith, length-num c.args.num c.requires)
