use Rattle.std.proofs.Common.{sym, ap, ◌∙◌}
use Rattle.sand_base.specs.declared.shape.Shape.TheVariants as shape
use Rattle.script_text.proofs.RingLemmas.{ring-passes, no-ring, polygon-ring, polygon-none}
use Rattle.script_text.proofs.reader.polygon.Goals as goal

-- it is a ring
pub returns-in-Ok-clause-shape : goal.returns-in-Ok-clause-shape
returns-in-Ok-clause-shape c = ap (λ ps. shape.Polygon ps) c.in-Ok.ensures.ring.0 ∙ sym (polygon-ring c.args.corners.items c.in-Ok.ensures.ring.1)

pub returns-in-Ok-clause-can : goal.returns-in-Ok-clause-can
returns-in-Ok-clause-can c = sym (ring-passes c.args.corners.items c.in-Ok.ensures.ring.1)

-- it isn't
pub returns-clause-shape : goal.returns-clause-shape
returns-clause-shape c = sym (polygon-none c.args.corners.items c.in-Err.ensures.ring.1)

pub returns-clause-can : goal.returns-clause-can
returns-clause-can c = sym (no-ring c.args.corners.items c.in-Err.ensures.ring.1)
