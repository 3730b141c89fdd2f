-- A tree in hand, as its items and its order.
use Rattle.std.specs.Prelude.{List, [], ◌∷◌, Option, Some, None}
use denote.RawPtr.{Ptr}
use Rattle.std.specs.declared.cmp.Ordering.{Ordering}
use Rattle.pair_heap.specs.declared.tree.Tree.{Tree}
use Rattle.pair_heap.specs.Least.{IsLeastItem}
use Rattle.pair_heap.specs.Chain.{items, chain_places}
use Rattle.pair_heap.specs.Heap.{IsHeap}

-- the root's item and those below it
abbrev pub heap_items : {X : Type 0} → Tree X → List X
heap_items tree = tree.item ∷ items tree.kids

-- the root's place and those below it
abbrev pub tree_places : {X : Type 0} → Tree X → List Ptr
tree_places tree = tree.ptr ∷ chain_places tree.kids

-- the root's item is the least, and the trees below are in heap order
pub record IsHeapTree {X : Type 0} (cmp : X → X → Ordering) (tree : Tree X) : Type 0 where
  pub least : IsLeastItem cmp tree.item (items tree.kids)
  pub heap : IsHeap cmp tree.kids

-- the items of a heap's only tree, where it has one
abbrev pub root_items : {X : Type 0} → Option (Tree X) → List X
root_items None = []
root_items (Some tree) = heap_items tree

-- the places of its nodes
abbrev pub root_places : {X : Type 0} → Option (Tree X) → List Ptr
root_places None = []
root_places (Some tree) = tree_places tree

-- the tree is in order, where there is one
abbrev pub IsRoot : {X : Type 0} → (X → X → Ordering) → Option (Tree X) → Type 0
IsRoot cmp None = Unit {0}
IsRoot cmp (Some tree) = IsHeapTree cmp tree
