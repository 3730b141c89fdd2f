-- What the calls of a tree do.
use Rattle.std.specs.Prelude.{◌≡◌, ◌≤◌, ℕ, List, [], ◌∷◌, IsPermutation}
use Rattle.sand_base.specs.declared.rough.Rough.{Rough}
use Rattle.code_btree.specs.Tree.{Store, times}
use Rattle.code_btree.specs.Calls.{Keeps}
use Rattle.r_tree.specs.declared.tree.RTree.{RTree}
use Rattle.r_tree.specs.Entry.{Member, member_ids}
use Rattle.r_tree.specs.Tree.{IsRTree, tree_members, rtree_pages}

-- no member that is listed has this id
abbrev pub IsUnlisted : ℕ → List Member → Type 0
IsUnlisted id is = times id (member_ids is) ≡ 0

-- no id is listed twice
abbrev pub HasEachIdOnce : List Member → Type 0
HasEachIdOnce is = (id : ℕ) → times id (member_ids is) ≤ 1

-- the id is listed with this rough shape, among others
pub record IsListedMember (id : ℕ) (shape : Rough) (is : List Member) : Type 0 where
  pub others : List Member
  pub order : IsPermutation is ((id, shape) ∷ others)

-- A new tree of these members, on pages that weren't live.
pub record PlantsTree (m w : Store) (t : RTree) (number : ℕ) (is : List Member) : Type 0 where
  pub tree : IsRTree w t
  pub numbered : t.number ≡ number
  pub lists : IsPermutation is (tree_members w t)
  pub keeps : Keeps m w [] (rtree_pages w t)

-- The tree lists this member besides those of before, and no page but its own was touched.
pub record InsertsMember (m w : Store) (t u : RTree) (id : ℕ) (shape : Rough) : Type 0 where
  pub tree : IsRTree w u
  pub numbered : u.number ≡ t.number
  pub lists : IsPermutation ((id, shape) ∷ tree_members m t) (tree_members w u)
  pub keeps : Keeps m w (rtree_pages m t) (rtree_pages w u)

-- The tree lists the members of before without this one, and no page but its own was touched.
pub record RemovesMember (m w : Store) (t u : RTree) (id : ℕ) (shape : Rough) : Type 0 where
  pub tree : IsRTree w u
  pub numbered : u.number ≡ t.number
  pub lists : IsPermutation (tree_members m t) ((id, shape) ∷ tree_members w u)
  pub keeps : Keeps m w (rtree_pages m t) (rtree_pages w u)
