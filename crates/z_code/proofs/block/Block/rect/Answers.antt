-- The closed square of a block, and the code of its corner.
use Rattle.std.proofs.Common.{◌≡◌, ap, ap₂, ◌∙◌, subst, sym}
use Rattle.sand_base.specs.Plane.{IsRectInClosedPlane}
use Rattle.z_code.specs.Code.{code_of}
use Rattle.z_code.specs.Block.{square_at, square_of}
use Rattle.z_code.proofs.CodesOfPoints.{code_of-point_of}
use Rattle.z_code.proofs.Blocks.{square_in_closed_plane}
use Rattle.z_code.proofs.block.Block.rect.Goals as goal
use Rattle.z_code.proofs.block.Block.rect.Goals.{After-square_at}

-- the two calls give its corner and its side
square : (c : After-square_at) → c.square_at.result ≡ square_of c.args.self
square c = c.square_at.ensures ∙ ap₂ square_at c.point_of.ensures.value c.side_length.ensures.value

-- so it is the square of the block
pub returns-clause-square : goal.returns-clause-square
returns-clause-square c = square c

-- which lies in the closed plane
pub returns-clause-in_closed_plane : goal.returns-clause-in_closed_plane
returns-clause-in_closed_plane c = subst IsRectInClosedPlane (sym (square c)) (square_in_closed_plane c.args.self c.requires)

-- and whose corner has the block's code
pub returns-clause-code : goal.returns-clause-code
returns-clause-code c =
    ap (λ r. code_of r.low) c.square_at.ensures ∙ ap code_of c.point_of.ensures.value ∙ code_of-point_of c.args.self.z c.requires.in_plane
