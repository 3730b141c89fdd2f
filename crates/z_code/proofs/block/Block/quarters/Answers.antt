-- The four quarters beside their squares.
use Rattle.std.proofs.Common.{◌+◌, ◌∙◌, subst, sym, arith, All}
use Rattle.sand_base.specs.Plane.{IsInClosedPlane}
use Rattle.z_code.specs.Block.{IsWithSquare}
use Rattle.z_code.proofs.CodesOfPoints.{point}
use Rattle.z_code.proofs.Quarters.{middle_fits, quarter_square, quarters_of, All-IsWithSquare}
use Rattle.z_code.proofs.block.Block.quarters.Goals as goal
use Rattle.z_code.proofs.block.Block.quarters.Goals.{After-side_length-side}

-- the middle of the block is in the closed plane
middle : (c : After-side_length-side) → IsInClosedPlane (point (c.point_of-low.result.x + c.side_length-side.result) (c.point_of-low.result.y + c.side_length-side.result))
middle c = middle_fits c.args.self c.requires.block c.requires.above_points _ _ c.point_of-low.ensures.value c.side_length-side.ensures.value

-- so the corner to its right is
pub square_at-requires-2-clause-corner : goal.square_at-requires-2-clause-corner
square_at-requires-2-clause-corner c =
    let inside = middle (goal.at.square_at-requires-2-clause-corner c).After-side_length-side in
    record { x = inside.x; y = omega (arith, inside.y) }

-- the corner above it
pub square_at-requires-3-clause-corner : goal.square_at-requires-3-clause-corner
square_at-requires-3-clause-corner c =
    let inside = middle (goal.at.square_at-requires-3-clause-corner c).After-side_length-side in
    record { x = omega (arith, inside.x); y = inside.y }

-- and the middle itself
pub square_at-requires-4-clause-corner : goal.square_at-requires-4-clause-corner
square_at-requires-4-clause-corner c = middle (goal.at.square_at-requires-4-clause-corner c).After-side_length-side

-- each square is that of its child
pub returns-clause-value : goal.returns-clause-value
returns-clause-value c =
    let b = c.args.self in
    let low = c.point_of-low.ensures.value in
    let side = c.side_length-side.ensures.value in
    let square = quarter_square b c.requires.block c.requires.above_points in
    quarters_of b c.children.result _ _ _ _ _ c.children.ensures.value
    (c.square_at.ensures ∙ square 0 (omega arith) _ _ _ _ low side (omega arith) (omega arith))
    (c.square_at-2.ensures ∙ square 1 (omega arith) _ _ _ _ low side (omega arith) (omega arith))
    (c.square_at-3.ensures ∙ square 2 (omega arith) _ _ _ _ low side (omega arith) (omega arith))
    (c.square_at-4.ensures ∙ square 3 (omega arith) _ _ _ _ low side (omega arith) (omega arith))

-- which lies in the closed plane
pub returns-clause-squares : goal.returns-clause-squares
returns-clause-squares c = subst (λ list. All IsWithSquare list) (sym (returns-clause-value c)) (All-IsWithSquare c.args.self c.requires.block c.requires.above_points)
