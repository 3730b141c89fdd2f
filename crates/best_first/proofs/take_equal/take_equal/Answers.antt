-- Each item that leaves is one with the front, and what stays comes after it.
use Rattle.std.proofs.Common.{sym, ◌∙◌, arith}
use Rattle.std.proofs.lemmas.Bool.{not-false}
use Rattle.std.proofs.lemmas.List.Sorted.{length_permutation}
use Rattle.best_first.proofs.Queues.{takes_first, takes_more}
use Rattle.best_first.proofs.take_equal.take_equal.Goals as goal

pub equal-init : goal.equal-init
equal-init g c = record {
  taken = takes_first g.met.T.Ord.total c.args.front.now c.in-Some._first (g.Q.Queue.held c.args.queue.now) (g.Q.Queue.held c.pop.new.self) c.requires c.in-Some.ensures.items c.in-Some.ensures.least;
  spare = let s = c.in-Some.ensures.spare in omega arith;
}

pub equal-smaller : goal.equal-smaller
equal-smaller g c = let shorter = length_permutation _ _ c.in-Some-pop.ensures.items in omega arith

pub equal-preserved : goal.equal-preserved
equal-preserved g c = record {
  taken = takes_more g.met.T.Ord.total c.args.front.now c.in-Some-peek.item.now c.in-Some-pop._other (g.Q.Queue.held c.args.queue.now) (g.Q.Queue.held c.equal.queue)
      (g.Q.Queue.held c.pop-in-Some-peek.new.self) c.equal.invariant.taken c.in-Some-peek.ensures
      (sym (g.met.T.Ord.matches_eq c.args.front.now c.in-Some-peek.item.now) ∙ not-false _ (sym c.ne.ensures ∙ c.if-ne.false)) c.in-Some-pop.ensures.items c.in-Some-pop.ensures.least;
  spare = let s = c.in-Some-pop.ensures.spare in let t = c.equal.invariant.spare in omega arith;
}
