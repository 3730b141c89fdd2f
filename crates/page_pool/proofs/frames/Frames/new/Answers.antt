use Rattle.std.proofs.Common.{ap, rules}
use Rattle.page_pool.proofs.Queued.{queue-none, frames_none}
use Rattle.page_pool.proofs.frames.Frames.new.Goals as goal

pub invariant_of-result : goal.invariant_of-result
invariant_of-result c = queue-none c.new-2.result c.in_ok-new.field-0 c.new-2.ensures (ap (λ q. q.entries) c.in_ok-new.ensures)

pub returns : goal.returns
returns c = frames_none c.new-2.result c.in_ok-new.field-0.cap c.args.most c.new-2.ensures (let cap = ap (λ q. q.cap) c.in_ok-new.ensures in search rules)
