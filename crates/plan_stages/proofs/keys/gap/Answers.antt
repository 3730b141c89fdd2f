-- The gap that is computed is that of the shape at the place.
use Rattle.std.proofs.Common.{◌≡◌, ◌∙◌, sym, ap, Some}
use Rattle.sand_base.specs.declared.value.Value.{Value}
use Rattle.sand_base.specs.declared.value.Value.TheVariants as value
use Rattle.sand_model.specs.Operators.{value_at}
use Rattle.plan_stages.proofs.Measuring.{gap_given}
use Rattle.plan_stages.proofs.ShapesRead.{spot_plane}
use Rattle.plan_stages.proofs.keys.gap.Goals as goal

pub returns-in-Ok-Some-Shape-clause-gap : goal.returns-in-Ok-Some-Shape-clause-gap
returns-in-Ok-Some-Shape-clause-gap g c told inside d names place row at ids =
    let is : value_at d names row place ≡ Some (value.Shape c.in-Ok-Some-Shape.shape) =
    sym (c.in-Ok-Some-Shape.ensures.value told d names place row at ids) ∙ (c.in-Ok-Some-Shape.field-0-is ∙ ap (λ (v : Value). Some v) c.in-Ok-Some-Shape.field-0-0-is) in
    gap_given d names place c.args.goal.now row c.in-Ok-Some-Shape.shape c.gap_between.result is
    (c.gap_between.ensures inside (spot_plane d names place c.args.spot.now (g.P.Pages.shown c.args.pages.now).pages row c.in-Ok-Some-Shape.shape at is))
