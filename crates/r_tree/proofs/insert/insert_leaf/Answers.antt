-- the entries with one more, laid into the page
use Rattle.std.proofs.Common.{◌∙◌}
use Rattle.code_btree.specs.Tree.{pages_in}
use Rattle.code_btree.proofs.Stores.{same_store}
use Rattle.r_tree.proofs.Inserts.{leaf_put_from}
use Rattle.r_tree.proofs.insert.insert_leaf.Goals as goal

pub returns-clause-value : goal.returns-clause-value
returns-clause-value g c = λ told. leaf_put_from (pages_in c.args.pool.now) (pages_in c.read_node.new.pool)
    (pages_in c.place.new.pool) c.args.n c.in_ok-grown.grown c.args.entry c.in_ok-entries.entries.items c.deref_mut.result.now
    (same_store c.read_node.new.pool c.args.pool.now c.read_node.ensures.same) (c.deref_mut.ensures.value ∙ c.in_ok-add.ensures) (c.in_ok-entries.ensures.value told)
    (c.requires.tree told) c.in_ok-grown.ensures.value c.in_ok-grown.ensures.full
