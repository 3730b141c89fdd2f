-- The greatest key up to the last that a leaf with the code may have is one of that leaf.
use Rattle.std.proofs.Common.{◌≡◌, ◌∙◌, ap, sym, subst}
use Rattle.page_pool.specs.Pool.{PoolState}
use Rattle.code_btree.specs.Tree.{Store, IsTree, tree_items}
use Rattle.code_btree.proofs.Stores.{same_store}
use Rattle.pmr_tree.specs.Leaves.{own_pairs, ids_at}
use Rattle.pmr_tree.proofs.LeafOfCode.{found_leaf}
use Rattle.pmr_tree.proofs.quadtree.Pmr.leaf_at.Goals as goal

pub own_entries-requires-clause-tree : goal.own_entries-requires-clause-tree
own_entries-requires-clause-tree g c = λ told.
    let a : PoolState = g.P.Pages.shown c.args.pages.now in
    let m : PoolState = g.P.Pages.shown c.floor.new.pages in
    let read = c.in_ok-found.ensures.looks.read in
    let T : Store → Type 0 = λ s. IsTree s c.args.self.now.map in
    subst T (sym (same_store m a read.pages)) (c.requires.tree (sym read.told ∙ told)).entries

pub returns-clause-leaf : goal.returns-clause-leaf
returns-clause-leaf g c = λ told.
    let a : PoolState = g.P.Pages.shown c.args.pages.now in
    let m : PoolState = g.P.Pages.shown c.floor.new.pages in
    let read = c.in_ok-found.ensures.looks.read in
    let b = c.block_with-block.result in
    let Owns : Store → Type 0 = λ s. c.in_ok-pairs.pairs.items ≡ own_pairs b (tree_items s c.args.self.now.map) in
    found_leaf a.pages c.args.self.now c.args.z c.last_key.result c.in_ok-found.found b c.in_ok-pairs.pairs.items c.new.result (c.requires.tree told) c.requires.code
    c.last_key.ensures (c.in_ok-found.ensures.value told)
    c.block_with-block.ensures.block c.block_with-block.ensures.code (c.block_with-block.ensures.level ∙ c.level_in.ensures.value)
    (subst Owns (same_store m a read.pages) (c.in_ok-pairs.ensures.found (read.told ∙ told)))
    (c.new.ensures ∙ c.in_ok-ids.ensures ∙ ap ids_at c.deref.ensures.value)
