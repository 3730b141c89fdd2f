-- each turn forms one more point
use Rattle.std.proofs.Common.{◌∙◌, refl}
use Rattle.std.specs.Prelude.{codes}
use Rattle.sand_model.specs.OutputText.{point_text}
use Rattle.output_text.proofs.Forming.{on_err}
use Rattle.output_text.proofs.Listed.{FormsUpTo-broken, FormsUpTo-step, led-rest}
use Rattle.output_text.proofs.pending.Pending.put_more_points.Goals as goal

pub returns-in_err-put_point-clause-prefix : goal.returns-in_err-put_point-clause-prefix
returns-in_err-put_point-clause-prefix g c =
    on_err c.from_residual.result
    (FormsUpTo-broken _ _ _ _ _ _ _ _ _ c.points.invariant.0 c.in_err-put_point.ensures.prefix
    (led-rest (codes " ") point_text c.args.points.now c.points.at-index _ (record { x = 0; y = 0 }) c.points-test.true refl))

pub points-preserved : goal.points-preserved
points-preserved g c = (
  FormsUpTo-step _ _ _ _ _ _ _ _ _ _ c.points.invariant.0 c.in_ok-put_point.ensures.formed
      (led-rest (codes " ") point_text c.args.points.now c.points.at-index _ (record { x = 0; y = 0 }) c.points-test.true refl),
  c.in_ok-put_point.ensures.cause.done ∙ c.points.invariant.1,
)
