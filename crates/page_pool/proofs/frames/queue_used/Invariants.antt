use Rattle.std.proofs.Common.{◌≡◌}
use Rattle.page_pool.specs.Inside.{queued}
use Rattle.page_pool.proofs.frames.queue_used.Given as goal

-- the places are the same in another order
abbrev pub invariant-round : goal.invariant-round
invariant-round l = (queued l.queue ≡ queued l.initial.queue) × (l.queue.cap ≡ l.initial.queue.cap)
