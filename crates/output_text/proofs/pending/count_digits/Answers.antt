-- Why a number has so many digits.
use Rattle.std.proofs.Common.{sym, arith}
use Rattle.output_text.proofs.Decimals.{length-decimal-between, length-decimal-digit}
use Rattle.output_text.proofs.pending.count_digits.Goals as goal

-- a number below ten is a digit
pub returns-then-number-lt10 : goal.returns-then-number-lt10
returns-then-number-lt10 c = sym (length-decimal-digit c.args.number c.if-number-lt10.true)

-- any other has one more than its logarithm
pub returns : goal.returns
returns c =
    let log = c.ilog10 in
    sym (length-decimal-between log.result c.args.number log.ensures.power_le log.ensures.next_power_gt (omega arith))
