use Rattle.page_pool.proofs.Maps.{fewer_left}
use Rattle.page_pool.proofs.staged.Staged.clear.Goals as goal

pub staged-smaller-in-Some : goal.staged-smaller-in-Some
staged-smaller-in-Some c = fewer_left c.staged.self.changes c.take.new.self.changes c.in-Some.n c.in-Some.ensures.found c.take.ensures.left

pub staged-smaller-in-Some-2 : goal.staged-smaller-in-Some-2
staged-smaller-in-Some-2 c = fewer_left c.staged.self.changes c.take.new.self.changes c.in-Some.n c.in-Some.ensures.found c.take.ensures.left
