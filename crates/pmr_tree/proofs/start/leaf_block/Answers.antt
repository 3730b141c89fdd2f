-- The greatest key up to the last that a leaf with the code may have is one of that leaf.
use Rattle.std.proofs.Common.{◌∙◌, refl}
use Rattle.page_pool.specs.Pool.{PoolState}
use Rattle.sand_model.specs.Tree.{root_block}
use Rattle.pmr_tree.specs.Leaves.{own_pairs, ids_at}
use Rattle.pmr_tree.specs.Quadtree.{quadtree_entries, tree_at}
use Rattle.pmr_tree.proofs.Begins.{leaf_in}
use Rattle.pmr_tree.proofs.LeafOfCode.{found_leaf}
use Rattle.pmr_tree.proofs.start.leaf_block.Goals as goal

pub returns-clause-leaf : goal.returns-clause-leaf
returns-clause-leaf g c = λ told.
    let a : PoolState = g.P.Pages.shown c.args.pages.now in
    let b = c.block_with.result in
    let own = own_pairs b (quadtree_entries a.pages c.args.tree) in
    leaf_in root_block (tree_at a.pages c.args.tree) b (ids_at own)
    (found_leaf a.pages c.args.tree c.args.z c.last_key.result c.in_ok-found.found b own (ids_at own) (c.requires.tree told) c.requires.code
    c.last_key.ensures (c.in_ok-found.ensures.value told) c.block_with.ensures.block c.block_with.ensures.code (c.block_with.ensures.level ∙ c.level_in.ensures.value) refl refl)
