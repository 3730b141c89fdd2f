-- The whole plane.
use Rattle.z_code.proofs.Blocks.{root_points}
use Rattle.z_code.proofs.block.Block.root.Goals as goal

-- its range has all codes, so its square has all points
pub returns-clause-points : goal.returns-clause-points
returns-clause-points c = root_points
