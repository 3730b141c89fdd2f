-- The id that leaves the rough objects is the least, and has a bit among the rows.
use Rattle.std.proofs.Common.{◌<◌, sym, ap, subst}
use Rattle.best_first.specs.ZeroItems.{IsLeastOf, TakesLeast, PutIn, row_if}
use Rattle.best_first.proofs.Queued.{takes_it, puts_one, puts_none}
use Rattle.best_first.proofs.zero_queue.ZeroQueue.fetch.Goals as goal

pub insert-requires : goal.insert-requires
insert-requires g c =
    let least = subst (λ q. IsLeastOf c.args.id q.roughs) (sym c.self.view_is) c.requires in
    let took = takes_it c.take_least-taken.result c.args.id c.self.inside.roughs.below c.self.inside.roughs.ids c.take_least-taken.new.self.ids least c.take_least-taken.ensures.ids c.take_least-taken.ensures.least c.take_least-taken.ensures.inside in
    subst (λ n. c.args.id < n) (sym c.self.invariant) took.1

pub returns-then-is_near : goal.returns-then-is_near
returns-then-is_near g c =
    let least = subst (λ q. IsLeastOf c.args.id q.roughs) (sym c.self.view_is) c.requires in
    let took = takes_it c.take_least-taken.result c.args.id c.self.inside.roughs.below c.self.inside.roughs.ids c.take_least-taken.new.self.ids least c.take_least-taken.ensures.ids c.take_least-taken.ensures.least c.take_least-taken.ensures.inside in
    record {
      nodes = ap (λ q. q.nodes) c.self.view_is;
      roughs = subst (λ q. TakesLeast c.args.id q.roughs c.take_least-taken.new.self.ids) c.self.view_is took.0;
      rows = subst (λ q. PutIn (row_if c.args.is_near c.args.id) q.rows c.insert.new.self.ids) c.self.view_is
          (subst (λ b. PutIn (row_if b c.args.id) c.self.inside.rows.ids c.insert.new.self.ids) (sym c.if-is_near.true)
          (puts_one c.insert.result c.args.id c.self.inside.rows.ids c.insert.new.self.ids c.insert.ensures.ids));
    }

pub returns-else-is_near : goal.returns-else-is_near
returns-else-is_near g c =
    let least = subst (λ q. IsLeastOf c.args.id q.roughs) (sym c.self.view_is) c.requires in
    let took = takes_it c.take_least-taken.result c.args.id c.self.inside.roughs.below c.self.inside.roughs.ids c.take_least-taken.new.self.ids least c.take_least-taken.ensures.ids c.take_least-taken.ensures.least c.take_least-taken.ensures.inside in
    record {
      nodes = ap (λ q. q.nodes) c.self.view_is;
      roughs = subst (λ q. TakesLeast c.args.id q.roughs c.take_least-taken.new.self.ids) c.self.view_is took.0;
      rows = subst (λ q. PutIn (row_if c.args.is_near c.args.id) q.rows c.self.inside.rows.ids) c.self.view_is
          (subst (λ b. PutIn (row_if b c.args.id) c.self.inside.rows.ids c.self.inside.rows.ids) (sym c.if-is_near.false) (puts_none c.self.inside.rows.ids));
    }
