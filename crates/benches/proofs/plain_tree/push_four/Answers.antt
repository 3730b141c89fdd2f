-- each child of a block is one
use Rattle.pmr_tree.proofs.GrowSteps.{first_block, second_block, third_block, fourth_block}
use Rattle.benches.proofs.plain_tree.push_four.Goals as goal

pub part-requires : goal.part-requires
part-requires c = (first_block c.args.block _ _ c.children.ensures.value c.requires.block c.requires.up).0

pub part-requires-2 : goal.part-requires-2
part-requires-2 c = (second_block c.args.block _ _ c.children.ensures.value c.requires.block c.requires.up).0

pub part-requires-3 : goal.part-requires-3
part-requires-3 c = (third_block c.args.block _ _ c.children.ensures.value c.requires.block c.requires.up).0

pub part-requires-4 : goal.part-requires-4
part-requires-4 c = (fourth_block c.args.block _ _ c.children.ensures.value c.requires.block c.requires.up).0
