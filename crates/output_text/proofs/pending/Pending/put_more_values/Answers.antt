-- each turn forms one more value
use Rattle.std.proofs.Common.{◌∙◌, ◌∷◌, []}
use Rattle.sand_model.specs.OutputText.{value_text}
use Rattle.output_text.proofs.Forming.{on_err}
use Rattle.output_text.proofs.Listed.{FormsUpTo-broken, FormsUpTo-step, led-rest}
use Rattle.output_text.proofs.pending.Pending.put_more_values.Goals as goal

pub returns-in_err-put_next_value-clause-prefix : goal.returns-in_err-put_next_value-clause-prefix
returns-in_err-put_next_value-clause-prefix g c =
    on_err c.from_residual.result
    (FormsUpTo-broken _ _ _ _ _ _ _ _ _ c.values.invariant.0 c.in_err-put_next_value.ensures.prefix
    (led-rest (9 ∷ []) value_text c.args.values.now c.values.value-index _ c.value-item.result c.values-test.true c.value-item.is))

pub values-preserved : goal.values-preserved
values-preserved g c = (
  FormsUpTo-step _ _ _ _ _ _ _ _ _ _ c.values.invariant.0 c.in_ok-put_next_value.ensures.formed
      (led-rest (9 ∷ []) value_text c.args.values.now c.values.value-index _ c.value-item.result c.values-test.true c.value-item.is),
  c.in_ok-put_next_value.ensures.cause.done ∙ c.values.invariant.1,
)
