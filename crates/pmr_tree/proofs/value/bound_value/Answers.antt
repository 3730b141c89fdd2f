-- The bounding rectangle is the rough shape of a polygon.
use Rattle.std.proofs.Common.{◌∙◌}
use Rattle.pmr_tree.proofs.Values.{polygon_value}
use Rattle.pmr_tree.proofs.value.bound_value.Goals as goal

pub returns : goal.returns
returns c = c.packed.ensures ∙ polygon_value c.measure_laws.ensures.bounding c.args.shape.now c.bounding-bound.result c.requires.polygon c.requires.plane c.bounding-bound.ensures.bound
