-- Each child is a block.
use Rattle.pmr_tree.proofs.GrowSteps.{second_block, third_block, fourth_block, first_block}
use Rattle.pmr_tree.proofs.PartSteps.{four_told}
use Rattle.pmr_tree.proofs.part.quarters_met.Goals as goal

pub meets_block-requires-clause-block : goal.meets_block-requires-clause-block
meets_block-requires-clause-block c = (first_block c.args.block _ _ c.children.ensures.value c.requires.block c.requires.above_points).0

pub meets_block-requires-2-clause-block : goal.meets_block-requires-2-clause-block
meets_block-requires-2-clause-block c = (second_block c.args.block _ _ c.children.ensures.value c.requires.block c.requires.above_points).0

pub meets_block-requires-3-clause-block : goal.meets_block-requires-3-clause-block
meets_block-requires-3-clause-block c = (third_block c.args.block _ _ c.children.ensures.value c.requires.block c.requires.above_points).0

pub meets_block-requires-4-clause-block : goal.meets_block-requires-4-clause-block
meets_block-requires-4-clause-block c = (fourth_block c.args.block _ _ c.children.ensures.value c.requires.block c.requires.above_points).0

pub returns : goal.returns
returns c = four_told c.args.shape.now c.args.block _ _ _ _ _ _ c.children.ensures.value c.meets_block.ensures c.meets_block-2.ensures c.meets_block-3.ensures c.meets_block-4.ensures
