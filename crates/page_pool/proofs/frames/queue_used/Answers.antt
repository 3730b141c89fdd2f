use Rattle.std.proofs.Common.{ap, ◌∙◌}
use Rattle.page_pool.proofs.Queued.{queue-promoted}
use Rattle.page_pool.proofs.frames.queue_used.Goals as goal

pub round-preserved : goal.round-preserved
round-preserved c = (
  queue-promoted c.in-Some.place c.round.queue c.promote.new.self c.len-count.ensures.valid.0 (ap (λ q. q.entries) c.promote.ensures.entries) ∙ c.round.invariant.0,
  ap (λ q. q.cap) c.promote.ensures.entries ∙ c.round.invariant.1,
)
