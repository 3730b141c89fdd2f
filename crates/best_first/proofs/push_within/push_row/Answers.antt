-- The row is queued where it is no nearer than its rough object and within the ceiling.
use Rattle.std.proofs.Common.{sym, ◌∙◌, ap, is_gt}
use Rattle.best_first.proofs.Queues.{row_added, row_nearer}
use Rattle.best_first.proofs.push_within.push_row.Goals as goal

pub returns-then-is_gt : goal.returns-then-is_gt
returns-then-is_gt g c =
    row_nearer c.args.ceiling c.args.rough.now c.args.hit (g.Q.Queue.held c.args.queue.now) (ap is_gt (sym c.compare.ensures) ∙ sym c.is_gt.ensures ∙ c.if-is_gt.true)

pub returns-then-is_within : goal.returns-then-is_within
returns-then-is_within g c =
    row_added c.args.ceiling c.args.rough.now c.args.hit (g.Q.Queue.held c.args.queue.now) (g.Q.Queue.held c.push.new.self)
    (ap is_gt (sym c.compare.ensures) ∙ sym c.is_gt.ensures ∙ c.if-is_gt.false) (sym c.is_within.ensures ∙ c.if-is_within.true) c.push.ensures.items
