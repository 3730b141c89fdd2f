-- the page has room for the child, or the right half is gained
use Rattle.std.proofs.Common.{◌+◌, arith}
use Rattle.code_btree.specs.Tree.{pages_in}
use Rattle.code_btree.specs.Node.{child_pages, node_of}
use Rattle.code_btree.proofs.Leaves.{inner_split_done, writes_of}
use Rattle.code_btree.proofs.Halves.{length-put_at}
use Rattle.code_btree.proofs.insert.adopt.Goals as goal

pub returns-then-count-lt169-clause-value : goal.returns-then-count-lt169-clause-value
returns-then-count-lt169-clause-value g c = λ l. (
  writes_of (pages_in c.args.pool.now) (pages_in c.write.new.pool) c.args.n _ _ c.in_ok-write.ensures.value c.put_child.ensures.value,
  omega (arith, length-put_at (c.args.at + 1) c.args.child (child_pages (node_of c.args.page.now)) (omega arith)),
)

pub returns-clause-value : goal.returns-clause-value
returns-clause-value g c = λ l. inner_split_done (pages_in c.args.pool.now) (pages_in c.gain.new.pool)
    (pages_in c.write-2.new.pool) c.args.n c.in_ok-r.r c.cut_inner-up.result.0 c.cut_inner-up.new.page c.cut_inner-up.result.1 _ _ l
    c.in_ok-r.ensures.value c.in_ok-write-2.ensures.value c.cut_inner-up.ensures.is.0 c.cut_inner-up.ensures.is.1 c.cut_inner-up.ensures.halves
