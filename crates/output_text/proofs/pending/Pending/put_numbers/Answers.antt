-- each turn forms one more number
use Rattle.std.proofs.Common.{◌∙◌}
use Rattle.output_text.proofs.Forming.{on_err}
use Rattle.output_text.proofs.Listed.{FormsUpTo-broken, FormsUpTo-step, led-rest}
use Rattle.output_text.proofs.pending.Pending.put_numbers.Goals as goal

pub returns-in_err-put_number-clause-prefix : goal.returns-in_err-put_number-clause-prefix
returns-in_err-put_number-clause-prefix g c =
    on_err c.from_residual.result
    (FormsUpTo-broken _ _ _ _ _ _ _ _ _ c.numbers.invariant.0 c.in_err-put_number.ensures.prefix
    (led-rest _ _ c.args.numbers.now c.numbers.number-index c.from.result 0 c.numbers-test.true c.from.ensures))

pub numbers-preserved : goal.numbers-preserved
numbers-preserved g c = (
  FormsUpTo-step _ _ _ _ _ _ _ _ _ _ c.numbers.invariant.0 c.in_ok-put_number.ensures.formed
      (led-rest _ _ c.args.numbers.now c.numbers.number-index c.from.result 0 c.numbers-test.true c.from.ensures),
  c.in_ok-put_number.ensures.cause.done ∙ c.numbers.invariant.1,
)
