-- It begins at a whole number of its codes.
use Rattle.z_code.proofs.Blocks.{block_of, HasCode-block_of}
use Rattle.pmr_tree.proofs.code_leaf.block_with.Goals as goal

pub returns-clause-block : goal.returns-clause-block
returns-clause-block c = block_of c.args.z c.args.level c.first_code.result c.first_code.ensures c.requires.code c.requires.level

pub returns-clause-code : goal.returns-clause-code
returns-clause-code c = HasCode-block_of c.args.z c.args.level c.first_code.result c.first_code.ensures
