use Rattle.page_pool.proofs.Listed.{listed-empty, staged-empty}
use Rattle.page_pool.proofs.staged.Staged.new.Goals as goal

pub invariant_of-result : goal.invariant_of-result
invariant_of-result c = listed-empty c.new-2.result c.new.result c.new-2.ensures.len c.new.ensures

pub returns : goal.returns
returns c = staged-empty c.new.result c.new.ensures
