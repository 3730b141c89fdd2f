-- What holds of the map of entries holds of the quadtree.
use Rattle.pmr_tree.proofs.OwnLaws.{pmr_unmoved}
use Rattle.pmr_tree.proofs.TreeAt.{shaped_shallow}
use Rattle.sand_model.specs.Tree.{root_block}
use Rattle.pmr_tree.specs.Quadtree.{tree_at, store_of}
use Rattle.pmr_tree.proofs.laws.page_laws.Goals as goal

pub returns-clause-own : goal.returns-clause-own
returns-clause-own c = λ m w t same. pmr_unmoved m w t (c.own_pages_decide.ensures (store_of m) (store_of w) t.map same)

pub returns-clause-shallow : goal.returns-clause-shallow
returns-clause-shallow c = λ pages t is. shaped_shallow root_block (tree_at pages t) is.shaped
