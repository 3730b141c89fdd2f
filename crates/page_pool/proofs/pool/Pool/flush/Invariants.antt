use Rattle.std.proofs.Common.{◌≡◌, None}
use Rattle.page_pool.specs.Causes.{failures_of}
use Rattle.page_pool.specs.Commands.{WritesPages, WritesInOrder, waiting_count}
use Rattle.page_pool.proofs.pool.Pool.flush.Given as goal

-- what was written so far, in order, with no fault
abbrev pub invariant-waiting : goal.invariant-waiting
invariant-waiting g l = record {
  writes : WritesPages l.fn.self l.self;
  ascending : WritesInOrder l.fn.self l.self;
  closed : l.self.beginning ≡ None;
  faults : failures_of l.self ≡ failures_of l.fn.self;
}

-- fewer wait each time
abbrev pub decreases-waiting : goal.decreases-waiting
decreases-waiting g l = waiting_count l.self
