-- The root is queued where its gap is 0, and nothing was taken.
use Rattle.std.proofs.Common.{sym, ◌∙◌}
use Rattle.best_first.specs.ZeroItems.{bits_for}
use Rattle.best_first.proofs.Begun.{begun_near, begun_far}
use Rattle.best_first.proofs.search.ZeroSearch.start.Goals.{then-num-eq0+in_ok-add_node, else-num-eq0}
use Rattle.best_first.proofs.search.ZeroSearch.start.Goals as goal

pub returns-clause-stands : goal.returns-clause-stands
returns-clause-stands g c p laws zero =
    let m = g.H.Hierarchy.meaning c.args.hierarchy p in
    let (gap, root) = c.root-gap.result in
    elim c.if-num-eq0.branch [
      | then-num-eq0+in_ok-add_node w ↦ begun_near g.met.H.Node.Ord.total m laws zero gap root (c.root-gap.ensures p)
          (bits_for c.args.count) c.in_ok-queue.queue w.add_node.new.self c.if-num-eq0.queue
          (sym c.num.ensures ∙ w.if-num-eq0.true) c.in_ok-queue.ensures w.in_ok-add_node.ensures.added w.queue-is
      | else-num-eq0 w ↦ begun_far g.met.H.Node.Ord.total m laws zero gap root
          (c.root-gap.ensures p) (bits_for c.args.count) c.in_ok-queue.queue c.if-num-eq0.queue (λ e. w.if-num-eq0.false (c.num.ensures ∙ e)) c.in_ok-queue.ensures w.queue-is
    ]
