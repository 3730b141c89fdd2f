-- the member isn't there, or its entry is taken
use Rattle.std.proofs.Common.{◌∙◌}
use Rattle.code_btree.specs.Tree.{pages_in}
use Rattle.code_btree.proofs.Stores.{same_store}
use Rattle.r_tree.proofs.Removes.{leaf_lacks, leaf_took_from}
use Rattle.r_tree.proofs.remove.remove_leaf.Goals as goal

pub returns-in_default-clause-value : goal.returns-in_default-clause-value
returns-in_default-clause-value g c = λ told. leaf_lacks (pages_in c.args.pool.now) c.args.n (c.args.id, c.args.rough) c.in_ok-entries.entries.items c.deref.result.now
    (c.in_ok-entries.ensures.value told) c.deref.ensures.value c.in_default.ensures.none

pub returns-clause-value : goal.returns-clause-value
returns-clause-value g c = λ told. leaf_took_from (pages_in c.args.pool.now) (pages_in c.read_node.new.pool) (pages_in c.lay.new.pool) c.args.n c.in-Some.at
    (c.args.id, c.args.rough) c.in_ok-shrunk.shrunk c.swap_remove.result c.in_ok-entries.entries.items c.deref.result.now c.deref-2.result.now
    (same_store c.read_node.new.pool c.args.pool.now c.read_node.ensures.same) c.deref.ensures.value (c.deref-2.ensures.value ∙ c.swap_remove.ensures.items)
    (c.in_ok-entries.ensures.value told) (c.requires.tree told) c.in-Some.ensures.found c.swap_remove.ensures.value c.in-Some.ensures.is
    c.in_ok-shrunk.ensures.value c.in_ok-shrunk.ensures.least c.in_ok-shrunk.ensures.counted c.in_ok-shrunk.ensures.fits
