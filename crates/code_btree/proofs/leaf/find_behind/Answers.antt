-- the key stands where it is looked at first, or where the search tells
use Rattle.code_btree.proofs.Finds.{found_here, found_at}
use Rattle.code_btree.proofs.leaf.find_behind.Goals as goal

pub returns : goal.returns
returns c = λ is a. found_here c.args.page.now c.args.count _ c.args.key c.in-Some.value is a c.in-Some.ensures

pub returns-2 : goal.returns-2
returns-2 c = λ is a. found_at c.args.page.now c.args.count c.rank-at.result c.args.key c.value_found-2.result is a c.rank-at.ensures.bound c.rank-at.ensures.before c.rank-at.ensures.behind c.value_found-2.ensures
