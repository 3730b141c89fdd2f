use Rattle.std.proofs.Common.{◌++◌, arith}
use Rattle.rank_queue.proofs.FirstReplaced.{first_gone, one_queued, was_first}
use Rattle.rank_queue.proofs.queue.Queue.replace_first.Goals as goal

-- the first item is taken
pub items-init : goal.items-init
items-init g c =
    let old = g.Self.Queue.held c.args.self.now in
    let new = g.Self.Queue.held c.pop.new.self in
    record {
      first = was_first g.met.T.Ord.total c.in_ok-first.first old new c.in_ok-first.ensures.items c.in_ok-first.ensures.least;
      kept = first_gone c.in_ok-first.first c.args.items.now.items old new c.in_ok-first.ensures.items;
      room = omega (arith, c.in_ok-first.ensures.spare);
    }

-- the last item of the list is queued, in a reserved place
pub items-preserved : goal.items-preserved
items-preserved g c = record {
  first = c.items.invariant.first;
  kept = one_queued c.in_ok-first.first c.in-Some.item (c.args.items.now.items ++ g.Self.Queue.held c.args.self.now) c.pop-in-items.new.self.items
      (g.Self.Queue.held c.items.self) (g.Self.Queue.held c.push.new.self)
      (rw c.in-Some.ensures.items at c.items.invariant.kept) c.push.ensures.items;
  room = omega (arith, c.push.ensures.spare, c.in-Some.ensures.len, c.items.invariant.room);
}
