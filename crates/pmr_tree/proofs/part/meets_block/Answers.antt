-- A shape of the plane lies in the closed plane.
use Rattle.pmr_tree.proofs.ShapeLaws.{shape_in_closed}
use Rattle.pmr_tree.proofs.part.meets_block.Goals as goal

pub meets_rect-requires-clause-a : goal.meets_rect-requires-clause-a
meets_rect-requires-clause-a c = shape_in_closed c.args.shape.now c.requires.plane
