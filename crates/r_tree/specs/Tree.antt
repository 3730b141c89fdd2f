-- An R-tree over pages (A. Guttman, 1984): what it lists, its pages, and what makes pages a tree.
use Rattle.std.specs.Prelude.{◌≡◌, ℕ, zero, suc, ◌-◌, ◌≤◌, List, [], ◌∷◌, Bool, true, false, length, Option, Some}
use Rattle.std.specs.List.{flat_map}
use Rattle.sand_base.specs.declared.rect.Rect.{Rect}
use Rattle.code_btree.specs.Items.{Each}
use Rattle.code_btree.specs.Tree.{Store, times, live}
use Rattle.r_tree.specs.declared.entry.NodeEntry.{NodeEntry}
use Rattle.r_tree.specs.declared.tree.RTree.{RTree}
use Rattle.r_tree.specs.Entry.{Member, box_of, branch, members_of, bound_of, member_ids}
use Rattle.r_tree.specs.Page.{NodeView, node, rtree_node_in, node_entries}

-- the node at a page number
abbrev pub node_at : Store → ℕ → NodeView
node_at m n = rtree_node_in (m n)

-- its entries
abbrev pub entries_at : Store → ℕ → List NodeEntry
entries_at m n = node_entries (node_at m n)

-- what the entries of a node list, which stands so many levels above the leaves
abbrev pub members_in : Store → ℕ → List NodeEntry → List Member
members_in m zero es = members_of es
members_in m (suc level) es = flat_map (λ e. members_in m level (entries_at m e.child)) es

-- the pages under the entries of a node
abbrev pub pages_below : Store → ℕ → List NodeEntry → List ℕ
pages_below m zero es = []
pages_below m (suc level) es = flat_map (λ e. e.child ∷ pages_below m level (entries_at m e.child)) es

-- what is listed under page n
abbrev pub members_under : Store → ℕ → ℕ → List Member
members_under m level n = members_in m level (entries_at m n)

-- page n, and the pages under it
abbrev pub pages_under : Store → ℕ → ℕ → List ℕ
pages_under m level n = n ∷ pages_below m level (entries_at m n)

-- only leaves stand at level 0
abbrev pub is_inner : ℕ → Bool
is_inner zero = false
is_inner (suc level) = true

-- page n is a leaf at level 0 and an inner node above it, of at most 126 entries
pub record IsNodeAt (m : Store) (level n : ℕ) : Type 0 where
  pub is : node_at m n ≡ node (is_inner level) (entries_at m n)
  pub fits : length (entries_at m n) ≤ 126

-- an entry of an inner node is the least rectangle round the entries of its child
pub record Encloses (m : Store) (e : NodeEntry) : Type 0 where
  pub least : bound_of (entries_at m e.child) ≡ Some (box_of e.rough)
  pub is : e ≡ branch (box_of e.rough) e.child

-- Under the entries of a node stand trees of one height: each entry is the least rectangle round its child, which has at least 50 entries.
abbrev pub StandsUnder : Store → ℕ → List NodeEntry → Type 0
StandsUnder m zero es = Unit {0}
StandsUnder m (suc level) es = Each (λ e. Encloses m e × ((50 ≤ length (entries_at m e.child)) × (IsNodeAt m level e.child × StandsUnder m level (entries_at m e.child)))) es

-- page n is the top of a tree of leaves of one depth, in which every node under it is filled
abbrev pub NodeStandsAt : Store → ℕ → ℕ → Type 0
NodeStandsAt m level n = IsNodeAt m level n × StandsUnder m level (entries_at m n)

-- Page n is the root of a tree. An inner root has two entries. No page stands twice. The rectangle is the least round all entries. No id is listed twice.
pub record IsRootAt (m : Store) (level n : ℕ) (bound : Option Rect) : Type 0 where
  pub stands : NodeStandsAt m level n
  pub top : 1 ≤ level → 2 ≤ length (entries_at m n)
  pub owns : (q : ℕ) → times q (pages_under m level n) ≤ live m q
  pub least : bound_of (entries_at m n) ≡ bound
  pub once : (id : ℕ) → times id (member_ids (members_under m level n)) ≤ 1

-- what a tree lists, in no order
abbrev pub tree_members : Store → RTree → List Member
tree_members m t = members_under m (t.height - 1) t.root

-- a tree's pages, on which alone it depends
abbrev pub rtree_pages : Store → RTree → List ℕ
rtree_pages m t = pages_under m (t.height - 1) t.root

-- The root's pages are a tree of this height and rectangle; of height 1 is a lone leaf.
pub record IsRTree (m : Store) (t : RTree) : Type 0 where
  pub tall : 1 ≤ t.height
  pub at : IsRootAt m (t.height - 1) t.root t.bound
