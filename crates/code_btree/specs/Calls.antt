-- What the calls of a tree do.
use Rattle.std.specs.Prelude.{◌≡◌, ℕ, ◌+◌, ◌≤◌, List, [], Option, None, Result, OnOk, min}
use Rattle.sand_base.specs.Faults.{next_count, last_count}
use Rattle.page_pool.specs.declared.fault.PageFault.{PageFault}
use Rattle.page_pool.specs.Pool.{PoolState}
use Rattle.page_pool.specs.Reads.{IsRead}
use Rattle.page_pool.specs.Causes.{HasPageCause}
use Rattle.code_btree.specs.declared.map.Tree.{Tree}
use Rattle.code_btree.specs.Items.{put_item, drop_item, find_item}
use Rattle.code_btree.specs.Tree.{Store, IsTree, tree_items, tree_pages, times, live}

-- A change touched only these pages, which became those. Every other live page keeps its bytes; a gained page wasn't live, a lost one is freed, and no other page comes or goes.
pub record Keeps (m w : Store) (before after : List ℕ) : Type 0 where
  pub others : (q : ℕ) → live m q ≡ 1 → times q before ≡ 0 → w q ≡ m q
  pub gained : (q : ℕ) → 1 ≤ times q after → times q before ≡ 0 → m q ≡ None
  pub lost : (q : ℕ) → 1 ≤ times q before → times q after ≡ 0 → w q ≡ None
  pub moved : (q : ℕ) → live w q + times q before ≡ live m q + times q after

-- a new tree of no entries, on pages that weren't live
pub record Planted (m w : Store) (t : Tree) : Type 0 where
  pub tree : IsTree w t
  pub items : tree_items w t ≡ []
  pub keeps : Keeps m w [] (tree_pages w t)

-- the map has the pair, the old value came back, and no other page was touched
pub record Inserted (m w : Store) (t u : Tree) (key value : ℕ) (was : Option ℕ) : Type 0 where
  pub tree : IsTree w u
  pub items : tree_items w u ≡ put_item key value (tree_items m t)
  pub found : was ≡ find_item key (tree_items m t)
  pub keeps : Keeps m w (tree_pages m t) (tree_pages w u)

-- the map lacks the key, the old value came back, and no other page was touched
pub record Removed (m w : Store) (t u : Tree) (key : ℕ) (was : Option ℕ) : Type 0 where
  pub tree : IsTree w u
  pub items : tree_items w u ≡ drop_item key (tree_items m t)
  pub found : was ≡ find_item key (tree_items m t)
  pub keeps : Keeps m w (tree_pages m t) (tree_pages w u)

-- A reading call of at most so many gets: it changes nothing, and it makes at least one get where it isn't refused. Even where it is, the number of gets doesn't fall.
pub record Looks {T : Type 0} (old new : PoolState) (limit : ℕ) (result : Result T PageFault) : Type 0 where
  pub read : IsRead old new
  pub within : new.gets ≤ old.gets + limit
  pub up : min old.gets last_count ≤ new.gets
  pub some : OnOk result (next_count old.gets ≤ new.gets)
  pub cause : HasPageCause old new result

-- A reading call of at most so many gets, or of none; the number of gets doesn't fall.
pub record Peeks {T : Type 0} (old new : PoolState) (limit : ℕ) (result : Result T PageFault) : Type 0 where
  pub read : IsRead old new
  pub within : new.gets ≤ old.gets + limit
  pub up : min old.gets last_count ≤ new.gets
  pub cause : HasPageCause old new result

-- the tree is in w what it is in m: its pairs, its pages, and that it is a tree
pub record Unmoved (m w : Store) (t : Tree) : Type 0 where
  pub items : tree_items w t ≡ tree_items m t
  pub pages : tree_pages w t ≡ tree_pages m t
  pub tree : IsTree m t → IsTree w t
