-- the entry at the place is the first of those left
use Rattle.std.proofs.Common.{List, length, ap, arith}
use Rattle.code_btree.specs.Node.{Pair}
use Rattle.code_btree.proofs.PageRuns.{page_gives}
use Rattle.code_btree.proofs.leaf_run.PageRunIterator.next.Goals as goal

pub returns-clause-steps : goal.returns-clause-steps
returns-clause-steps c = page_gives c.args.self.now.page.now c.args.self.now.count c.args.self.now.place c.args.self.now.counted c.if-self.false

pub returns-clause-goes : goal.returns-clause-goes
returns-clause-goes c = record {
  on = λ _. (tt, tt, omega (arith, ap (λ (es : List Pair). length es) (page_gives c.args.self.now.page.now c.args.self.now.count c.args.self.now.place c.args.self.now.counted c.if-self.false)));
  keeps = tt;
  rests = λ _. tt;
}
