-- A quadtree depends only on its own pages.
use Rattle.std.proofs.Common.{◌≡◌, map, sym, ◌∙◌, ap, subst}
use Rattle.page_pool.specs.Disk.{PageMap}
use Rattle.code_btree.specs.Calls as btree
use Rattle.sand_base.specs.declared.TheConstants.{COORDINATE_BITS}
use Rattle.sand_model.specs.Tree.{root_block, IsFull}
use Rattle.pmr_tree.specs.Keys.{keys, IsShaped}
use Rattle.pmr_tree.specs.Quadtree.{store_of, quadtree_entries, tree_in, tree_at}
use Rattle.pmr_tree.specs.Calls.{QuadtreeUnmoved}
use Rattle.pmr_tree.specs.declared.quadtree.Pmr.{Pmr}

tree_same : (m w : PageMap) (t : Pmr) → quadtree_entries w t ≡ quadtree_entries m t → tree_at w t ≡ tree_at m t
unfolding tree_at
tree_same m w t e = ap (λ es. tree_in COORDINATE_BITS root_block (map (λ e. e.0) es)) e

pub pmr_unmoved : (m w : PageMap) (t : Pmr) → btree.Unmoved (store_of m) (store_of w) t.map → QuadtreeUnmoved m w t
pmr_unmoved m w t h =
    let same = tree_same m w t h.items in record {
      entries = h.items;
      tree = same;
      pages = h.pages;
      is = λ is. record {
        entries = h.tree is.entries;
        keys = ap (map (λ e. e.0)) h.items ∙ is.keys ∙ ap (keys root_block) (sym same);
        shaped = subst (IsShaped root_block) (sym same) is.shaped;
        full = subst (IsFull t.threshold) (sym same) is.full;
      };
    }
