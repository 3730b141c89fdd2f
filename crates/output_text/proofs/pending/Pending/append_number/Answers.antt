-- a number of 64 bits has twenty digits at most
use Rattle.std.proofs.Common.{ap, length, length-append, arith, ◌∙◌}
use Rattle.std.specs.Fmt.{decimal}
use Rattle.output_text.proofs.Decimals.{length-decimal-most}
use Rattle.output_text.proofs.pending.Pending.append_number.Goals as goal

pub append_digits-requires : goal.append_digits-requires
append_digits-requires c = omega (arith, length-decimal-most c.args.number (omega arith))

pub returns-clause-len : goal.returns-clause-len
returns-clause-len c =
    omega (
      arith,
      length-decimal-most c.args.number (omega arith),
      ap length c.append_digits.ensures ∙ length-append c.args.self.now (decimal c.args.number),
    )
