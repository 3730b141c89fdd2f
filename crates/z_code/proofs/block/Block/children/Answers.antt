-- The four quarters.
use Rattle.z_code.proofs.Children.{quarter, divided_codes, divided_points}
use Rattle.z_code.proofs.block.Block.children.Goals as goal

-- each is a quarter of the square
pub returns-clause-quarters : goal.returns-clause-quarters
returns-clause-quarters c = quarter c.args.self c.requires.block c.requires.above_points

-- together they have the codes of the block, each once
pub returns-clause-codes : goal.returns-clause-codes
returns-clause-codes c = divided_codes c.args.self c.requires.above_points

-- and its points
pub returns-clause-points : goal.returns-clause-points
returns-clause-points c = divided_points c.args.self c.requires.block c.requires.above_points
