-- a whole number of 64 bits is its numerator, which broke off or was formed
use Rattle.std.proofs.Common.{arith}
use Rattle.output_text.proofs.Forming.{on_err}
use Rattle.output_text.proofs.Gaps.{whole-broken, whole-formed}
use Rattle.output_text.proofs.pending.Pending.put_gap.Goals as goal

pub returns-in_err-put_number-clause-prefix : goal.returns-in_err-put_number-clause-prefix
returns-in_err-put_number-clause-prefix g c =
    on_err c.from_residual.result
    (whole-broken c.args.gap.num c.args.gap.den _ _ _ _ (omega arith) (omega arith) c.in_err-put_number.ensures.prefix)

pub returns-then-num-from-clause-formed : goal.returns-then-num-from-clause-formed
returns-then-num-from-clause-formed g c =
    whole-formed c.args.gap.num c.args.gap.den _ _ _ _ _ (omega arith) (omega arith) c.in_ok-put_number.ensures.formed
