-- Two entries give their item, by the kinds of their rough shapes.
use Rattle.std.proofs.Common.{option_to_list}
use Rattle.dist_join.proofs.FoundPairs.{entry_rough, entry_exact}
use Rattle.dist_join.proofs.entries.entry_item.Goals as goal

pub returns-then-is_rough : goal.returns-then-is_rough
returns-then-is_rough c =
    entry_rough c.args.leaf c.args.left c.args.right c.figure.result c.figure-2.result c.figures_gap-gap.result c.figure.ensures.figure c.figure-2.ensures.figure c.figures_gap-gap.ensures
    c.rough_item.result c.is_rough.result c.is_rough.ensures c.if-is_rough.true c.rough_item.ensures

pub returns : goal.returns
returns c =
    entry_exact c.args.leaf c.args.left c.args.right c.figure.result c.figure-2.result c.figures_gap-gap.result c.figure.ensures.figure c.figure-2.ensures.figure c.figures_gap-gap.ensures
    (option_to_list c.exact_item.result) c.is_rough.result c.is_rough.ensures c.if-is_rough.false c.exact_item.ensures
