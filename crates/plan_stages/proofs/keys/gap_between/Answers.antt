-- The gap is that of plans; a shape that is not in the plane was refused.
use Rattle.std.proofs.Common.{ap, Some}
use Rattle.exact_frac.specs.declared.frac.Frac.{Frac}
use Rattle.plan_stages.proofs.Measuring.{measure_is}
use Rattle.plan_stages.proofs.keys.gap_between.Goals as goal

pub returns : goal.returns
returns c a b = ap (λ (f : Frac). Some f) (measure_is c.args.goal.now c.args.shape.now c.gap_shapes.result a b c.gap_shapes.ensures)
