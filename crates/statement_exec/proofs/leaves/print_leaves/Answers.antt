-- the leaves one by one
use Rattle.std.proofs.Common.{◌≤◌, ◌∙◌, arith}
use Rattle.page_pool.specs.Pool.{IsTold}
use Rattle.page_pool.specs.Steps.{IsRead-trans}
use Rattle.pmr_tree.specs.Quadtree.{tree_at}
use Rattle.statement_exec.specs.LeafWalk.{code_end}
use Rattle.statement_exec.proofs.LeafLoop.{walk_start, walk_next, walk_end, walk_stops, read_leaf, read_stop}
use Rattle.page_pool.specs.Steps.{IsRead-refl}
use Rattle.std.proofs.Common.{refl}
use Rattle.statement_exec.proofs.leaves.print_leaves.Goals as goal

pub leaves-init : goal.leaves-init
leaves-init g c = record {
  walk = walk_start (IsTold c.args.desk.now.pool) (tree_at c.args.desk.now.pool.pages c.args.tree.now) (g.K.Sink.took c.args.out.now) (g.K.Sink.took c.args.out.now) (g.K.Sink.took c.args.out.now)
      (λ told. (c.requires.tree told).shaped);
  read = IsRead-refl c.args.desk.now.pool;
  disk = refl;
  sink = refl;
}

pub returns-in-Err-clause-stops : goal.returns-in-Err-clause-stops
returns-in-Err-clause-stops g c =
    walk_stops (IsTold c.args.desk.now.pool) (tree_at c.args.desk.now.pool.pages c.args.tree.now) (g.K.Sink.took c.args.out.now) (g.K.Sink.took c.leaves.out) (g.K.Sink.took c.print_leaf.new.out)
    c.leaves.code c.in-Err.why c.leaves.invariant.walk
    (read_stop c.args.desk.now.pool c.leaves.desk.pool c.args.tree.now c.leaves.code (g.K.Sink.took c.leaves.out)
    (g.K.Sink.took c.print_leaf.new.out) c.in-Err.why c.leaves.invariant.read c.in-Err.ensures.stops)

pub leaves-preserved : goal.leaves-preserved
leaves-preserved g c = record {
  walk = walk_next (IsTold c.args.desk.now.pool) (tree_at c.args.desk.now.pool.pages c.args.tree.now) (g.K.Sink.took c.args.out.now) (g.K.Sink.took c.leaves.out) (g.K.Sink.took c.print_leaf.new.out)
      c.leaves.code c.in-Ok.next c.leaves.invariant.walk
      (read_leaf c.args.desk.now.pool c.leaves.desk.pool c.args.tree.now c.leaves.code c.in-Ok.next (g.K.Sink.took c.leaves.out)
      (g.K.Sink.took c.print_leaf.new.out) c.leaves.invariant.read c.in-Ok.ensures.written);
  read = IsRead-trans c.args.desk.now.pool c.leaves.desk.pool c.print_leaf.new.desk.pool c.leaves.invariant.read c.in-Ok.ensures.read;
  disk = c.in-Ok.ensures.cause.counted ∙ c.leaves.invariant.disk;
  sink = c.in-Ok.ensures.sink.done ∙ c.leaves.invariant.sink;
}

pub returns-clause-written : goal.returns-clause-written
returns-clause-written g c =
    let past : code_end ≤ c.leaves.code = omega (arith, c.leaves-test.false) in
    walk_end (IsTold c.args.desk.now.pool) (tree_at c.args.desk.now.pool.pages c.args.tree.now) (g.K.Sink.took c.args.out.now) (g.K.Sink.took c.leaves.out) (g.K.Sink.took c.leaves.out)
    c.leaves.code past c.leaves.invariant.walk
