-- An R-tree whose pages stay is what it was.
use Rattle.std.proofs.Common.{◌≡◌, ℕ, zero, suc, ◌-◌, ◌≤◌, List, ◌∷◌, length, map, refl, sym, ◌∙◌, ap, subst, arith}
use Rattle.std.specs.Prelude.{IsPermutation, Option}
use Rattle.sand_base.specs.declared.goal.Goal.{Goal}
use Rattle.sand_base.specs.declared.rect.Rect.{Rect}
use Rattle.sand_base.specs.declared.shape.Shape.{Shape}
use Rattle.sand_model.specs.Roughs.{row_figure}
use Rattle.page_pool.specs.Disk.{PageMap}
use Rattle.code_btree.specs.Tree.{Store, times, live}
use Rattle.code_btree.proofs.Lists.{same_self, live_same}
use Rattle.pmr_tree.specs.Quadtree.{store_of}
use Rattle.r_tree.specs.declared.entry.NodeEntry.{NodeEntry}
use Rattle.r_tree.specs.declared.tree.RTree.{RTree}
use Rattle.r_tree.specs.Entry.{Member, member_ids, bound_of}
use Rattle.r_tree.specs.Page.{NodeView, node, node_entries}
use Rattle.r_tree.specs.Tree.{node_at, entries_at, members_in, members_under, pages_below, pages_under, is_inner, StandsUnder, IsRootAt, IsRTree, tree_members, rtree_pages}
use Rattle.r_tree.proofs.EntryTrees.{InStays, in_stays, node_stays}
use Rattle.r_tree.specs.Listing.{member_figure, ListsRows}

-- what stands under a page in w is what stands there in m
record UnderStays (m w : Store) (l n : ℕ) : Type 0 where
  node : node_at w n ≡ node_at m n
  entries : entries_at w n ≡ entries_at m n
  members : members_under w l n ≡ members_under m l n
  pages : pages_under w l n ≡ pages_under m l n
  stands : StandsUnder m l (entries_at m n) → StandsUnder w l (entries_at w n)

under_stays : (m w : Store) (l n : ℕ) → ((q : ℕ) → 1 ≤ times q (pages_under m l n) → w q ≡ m q) → UnderStays m w l n
under_stays m w l n same =
    let nn : node_at w n ≡ node_at m n = node_stays m w n (same n (omega (arith, same_self n))) in
    let ee : entries_at w n ≡ entries_at m n = ap (λ (v : NodeView). node_entries v) nn in
    let b : InStays m w l (entries_at m n) = in_stays m w l (entries_at m n) (λ q k. same q (omega (arith, k))) in
    let U : List NodeEntry → Type 0 = λ es. StandsUnder w l es in
    record {
      node = nn;
      entries = ee;
      members = ap (λ (es : List NodeEntry). members_in w l es) ee ∙ b.members;
      pages = ap (λ (es : List NodeEntry). n ∷ pages_below w l es) ee ∙ ap (λ (ps : List ℕ). n ∷ ps) b.pages;
      stands = λ s. subst U (sym ee) (b.stands s);
    }

-- pages that stand once and are live are so where they stay
owned_stays : (m w : Store) (q t : ℕ) → t ≤ live m q → (1 ≤ t → w q ≡ m q) → t ≤ live w q
owned_stays m w q zero l same = omega arith
owned_stays m w q (suc t) l same = omega (arith, l, live_same m w q (same (omega arith)))

root_stays : (m w : Store) (l n : ℕ) (bound : Option Rect) → ((q : ℕ) → 1 ≤ times q (pages_under m l n) → w q ≡ m q) → IsRootAt m l n bound → IsRootAt w l n bound
root_stays m w l n bound same h =
    let u : UnderStays m w l n = under_stays m w l n same in
    let long : length (entries_at w n) ≡ length (entries_at m n) = ap (λ (es : List NodeEntry). length es) u.entries in
    record {
      stands = (
        record { is = u.node ∙ (h.stands.0.is ∙ sym (ap (λ (es : List NodeEntry). node (is_inner l) es) u.entries)); fits = omega (arith, long, h.stands.0.fits) },
        u.stands h.stands.1,
      );
      top = λ k. omega (arith, long, h.top k);
      owns = λ q.
          let o : times q (pages_under m l n) ≤ live w q = owned_stays m w q (times q (pages_under m l n)) (h.owns q) (same q) in
          omega (arith, o, ap (λ (ps : List ℕ). times q ps) u.pages);
      least = ap (λ (es : List NodeEntry). bound_of es) u.entries ∙ h.least;
      once = λ id. omega (arith, h.once id, ap (λ (is : List Member). times id (member_ids is)) u.members);
    }

-- its pages
pub tree_pages_stay : (m w : PageMap) (t : RTree) → ((q : ℕ) → 1 ≤ times q (rtree_pages (store_of m) t) → store_of w q ≡ store_of m q)
    → rtree_pages (store_of w) t ≡ rtree_pages (store_of m) t
tree_pages_stay m w t same = (under_stays (store_of m) (store_of w) (t.height - 1) t.root same).pages

-- and the rows that it lists
pub lists_stay : (m w : PageMap) (t : RTree) (rows : List (ℕ × Shape)) → ((q : ℕ) → 1 ≤ times q (rtree_pages (store_of m) t) → store_of w q ≡ store_of m q)
    → ListsRows m t rows → ListsRows w t rows
lists_stay m w t rows same h =
    let L : List Member → Type 0 = λ is. IsPermutation (map member_figure is) (map row_figure rows) in
    let u : UnderStays (store_of m) (store_of w) (t.height - 1) t.root = under_stays (store_of m) (store_of w) (t.height - 1) t.root same in
    record {
      tree = record { tall = h.tree.tall; at = root_stays (store_of m) (store_of w) (t.height - 1) t.root t.bound same h.tree.at };
      lists = subst L (sym u.members) h.lists;
    }
