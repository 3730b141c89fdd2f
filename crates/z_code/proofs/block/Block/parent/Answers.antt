-- The block above: its range has the block's code.
use Rattle.std.proofs.Common.{◌-◌, ◌≤◌, arith}
use Rattle.sand_base.specs.declared.TheConstants.{COORDINATE_BITS}
use Rattle.z_code.proofs.Places.{block}
use Rattle.z_code.proofs.Blocks.{block_of, HasCode-block_of}
use Rattle.z_code.proofs.Children.{child_of}
use Rattle.z_code.proofs.block.Block.parent.Goals as goal

-- it begins at the first code at or below this one, so it is a block
pub returns-clause-block : goal.returns-clause-block
returns-clause-block c =
    let in_tree : c.args.self.level - 1 ≤ COORDINATE_BITS = omega (arith, c.requires.block.in_tree) in
    block_of c.args.self.z (c.args.self.level - 1) c.first_code.result c.first_code.ensures c.requires.block.in_plane in_tree

-- its range has this code, so this block is one of its children
pub returns-clause-child : goal.returns-clause-child
returns-clause-child c =
    let parent = block c.first_code.result (c.args.self.level - 1) in
    let has = HasCode-block_of c.args.self.z (c.args.self.level - 1) c.first_code.result c.first_code.ensures in
    child_of parent c.args.self (returns-clause-block c) c.requires.block (omega (arith, c.requires.below_root)) has
