use Rattle.std.proofs.Common.{subst}
use Rattle.page_pool.specs.Pool.{IsPool, LosesNoNumber}
use Rattle.page_pool.proofs.Seen.{loses_none}
use Rattle.page_pool.proofs.Sums.{is_pool}
use Rattle.page_pool.proofs.pool.Pool.held.Goals as goal

pub returns-clause-whole : goal.returns-clause-whole
returns-clause-whole g c =
    subst IsPool c.self.view_is (is_pool c.self.inside.archive c.self.inside.staged c.self.inside.frames c.self.inside.numbers c.self.inside.is_open c.self.inside.gets c.self.inside.damages c.self.invariant c.count.ensures.few c.count-2.ensures.few)

pub returns-clause-numbers : goal.returns-clause-numbers
returns-clause-numbers g c =
    subst LosesNoNumber c.self.view_is (loses_none c.self.inside.archive c.self.inside.staged c.self.inside.frames c.self.inside.numbers c.self.inside.is_open c.self.inside.gets c.self.inside.damages c.self.invariant)
