-- The calls of a tree, by what became of its root.
use Rattle.std.proofs.Common.{◌≡◌, ◌≢◌, ℕ, ◌-◌, ◌≤◌, List, [], ◌∷◌, refl, arith}
use Rattle.sand_base.specs.declared.rough.Rough.{Rough}
use Rattle.code_btree.specs.Items.{Each}
use Rattle.code_btree.specs.Tree.{Store}
use Rattle.r_tree.specs.declared.tree.RTree.{RTree}
use Rattle.r_tree.specs.Entry.{Member}
use Rattle.r_tree.specs.Tree.{IsRTree, tree_members, rtree_pages}
use Rattle.r_tree.specs.Calls.{IsListedMember, PlantsTree, InsertsMember, RemovesMember}
use Rattle.r_tree.proofs.Bags.{Each-perm}
use Rattle.r_tree.proofs.Weights.{same_weights}
use Rattle.r_tree.proofs.Roots.{Rooted, keeps_of}

-- a root over new pages is a tree of what came into it
pub plants_of : (m w : Store) (t : RTree) (number : ℕ) (is : List Member) → 1 ≤ t.height → t.number ≡ number → Rooted m w (t.height - 1) t.root t.bound [] [] [] is → PlantsTree m w t number is
plants_of m w t number is h e r = record {
  tree = record { tall = h; at = r.root };
  numbered = e;
  lists = same_weights is (tree_members w t) (λ f. omega (arith, r.moves.weighed f));
  keeps = keeps_of m w [] (rtree_pages w t) [] (tree_members w t) [] is r.moves (λ q. omega arith);
}

pub inserts_of : (m w : Store) (t u : RTree) (id : ℕ) (shape : Rough) → IsRTree m t → 1 ≤ u.height → u.number ≡ t.number
    → Rooted m w (u.height - 1) u.root u.bound (rtree_pages m t) (tree_members m t) [] ((id, shape) ∷ []) → InsertsMember m w t u id shape
inserts_of m w t u id shape is h e r = record {
  tree = record { tall = h; at = r.root };
  numbered = e;
  lists = same_weights ((id, shape) ∷ tree_members m t) (tree_members w u) (λ f. omega (arith, r.moves.weighed f));
  keeps = keeps_of m w (rtree_pages m t) (rtree_pages w u) (tree_members m t) (tree_members w u) [] ((id, shape) ∷ []) r.moves is.at.owns;
}

pub removes_of : (m w : Store) (t u : RTree) (id : ℕ) (shape : Rough) → IsRTree m t → 1 ≤ u.height → u.number ≡ t.number
    → Rooted m w (u.height - 1) u.root u.bound (rtree_pages m t) (tree_members m t) ((id, shape) ∷ []) [] → RemovesMember m w t u id shape
removes_of m w t u id shape is h e r = record {
  tree = record { tall = h; at = r.root };
  numbered = e;
  lists = same_weights (tree_members m t) ((id, shape) ∷ tree_members w u) (λ f. omega (arith, r.moves.weighed f));
  keeps = keeps_of m w (rtree_pages m t) (rtree_pages w u) (tree_members m t) (tree_members w u) ((id, shape) ∷ []) [] r.moves is.at.owns;
}

-- a member that is listed isn't lacking
pub listed_not_lacking : (m : Store) (level n id : ℕ) (shape : Rough) (is : List Member) → IsListedMember id shape is → Each (λ j. j ≢ (id, shape)) is → ⊥
listed_not_lacking m level n id shape is l h = (Each-perm (λ j. j ≢ (id, shape)) is ((id, shape) ∷ l.others) l.order h).0 refl
