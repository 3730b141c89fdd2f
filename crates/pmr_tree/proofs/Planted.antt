-- A new quadtree: one entry, the mark of the root.
use Rattle.std.proofs.Common.{◌≡◌, ℕ, ◌≤◌, List, [], ◌∷◌, refl, sym, ◌∙◌, ap, subst, arith}
use Rattle.page_pool.specs.Disk.{PageMap}
use Rattle.code_btree.specs.Tree.{IsTree, tree_items}
use Rattle.code_btree.specs.Items.{put_item}
use Rattle.code_btree.specs.Calls as btree
use Rattle.sand_base.specs.declared.shape.Shape.{Shape}
use Rattle.sand_model.specs.Nodes.{rough_figure}
use Rattle.sand_model.specs.Tree.{Leaf, root_block, empty_tree, IsFull}
use Rattle.pmr_tree.specs.Keys.{keys, id_in, IsShaped, ReadsKeys}
use Rattle.pmr_tree.specs.Lists.{Each}
use Rattle.pmr_tree.specs.Leaves.{firsts}
use Rattle.pmr_tree.specs.Listing.{Pair}
use Rattle.pmr_tree.specs.Entries.{value_of}
use Rattle.pmr_tree.specs.Quadtree.{store_of, quadtree_entries, keys_at, pages_at, tree_at, IsPmr}
use Rattle.pmr_tree.specs.Calls.{Plants}
use Rattle.pmr_tree.specs.declared.quadtree.Pmr.{Pmr}
use Rattle.pmr_tree.proofs.TreeAt.{tree_is}
use Rattle.pmr_tree.proofs.OwnPages.{keeps_then}

root_reads : ReadsKeys root_block (0 ∷ []) (Leaf [])
root_reads = record { is = refl; shaped = (omega arith, (tt, tt)) }

-- the mark of the root alone is an empty quadtree
pub mark_alone : (pages : PageMap) (t : Pmr) → IsTree (store_of pages) t.map → quadtree_entries pages t ≡ (0, 0) ∷ [] → IsPmr pages t × (tree_at pages t ≡ empty_tree)
mark_alone pages t tree es =
    let ks : keys_at pages t ≡ 0 ∷ [] = ap firsts es in
    let is = tree_is pages t (Leaf []) (subst (λ x. ReadsKeys root_block x (Leaf [])) (sym ks) root_reads) in (
      record {
        entries = tree;
        keys = ks ∙ sym (ap (keys root_block) is);
        shaped = subst (IsShaped root_block) (sym is) root_reads.shaped;
        full = subst (IsFull t.threshold) (sym is) tt;
      },
      is,
    )

-- no id has an entry
kept : (es : List Pair) → es ≡ (0, 0) ∷ [] → (id : ℕ) (s : Shape) → 1 ≤ id → Each (λ e. id_in e.0 ≡ id → e.1 ≡ value_of (rough_figure s)) es
kept es e id s some = subst (Each (λ e. id_in e.0 ≡ id → e.1 ≡ value_of (rough_figure s))) (sym e) ((λ same. absurd (omega (arith, same, some))), tt)

-- planted, and then the mark put
pub plants : (m v w : PageMap) (old : Pmr) (t : Pmr) → btree.Planted (store_of m) (store_of v) old.map
    → tree_items (store_of w) t.map ≡ put_item 0 0 (tree_items (store_of v) old.map) → IsTree (store_of w) t.map
    → btree.Keeps (store_of v) (store_of w) (pages_at v old) (pages_at w t) → Plants m w t
plants m v w old t planted items tree keeps =
    let es : quadtree_entries w t ≡ (0, 0) ∷ [] = items ∙ ap (put_item 0 0) planted.items in
    let one = mark_alone w t tree es in record {
      is = one.0;
      empty = one.1;
      entries = λ id s some. kept (quadtree_entries w t) es id s some;
      keeps = keeps_then (store_of m) (store_of v) (store_of w) [] (pages_at v old) (pages_at w t) planted.keeps keeps;
    }
